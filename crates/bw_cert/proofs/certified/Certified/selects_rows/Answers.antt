-- Group by group, the rows for which the condition is TRUE.
use Rattle.std.proofs.Common.{◌≡◌, ◌∙◌, sym, ap, subst, true}
use Rattle.std.specs.List.{list_all}
use Rattle.bw_model.specs.Column.{admits_values}
use Rattle.bw_model.specs.Groups.{groups_of}
use Rattle.bw_model.specs.Selection.{selection, positions_of}
use Rattle.bw_cert.proofs.SelectionLemmas.{groups_selected}
use Rattle.bw_cert.proofs.certified.Certified.selects_rows.Goals as goal

pub returns-clause-bits : goal.returns-clause-bits
returns-clause-bits c = λ rows admitted.
    let self = c.args.self.now in
    let table = c.groups_make_the_table.ensures.table rows in
    let within = subst (λ rows. list_all (admits_values self.schema.columns.items) rows ≡ true) (sym table) admitted in
    groups_selected self.schema.columns.items self.condition self.program (groups_of rows) self.selects c.bits_spell_row.ensures within
    ∙ ap (selection self.condition) table

pub returns-clause-positions : goal.returns-clause-positions
returns-clause-positions c = λ rows admitted. ap positions_of (returns-clause-bits c rows admitted)
