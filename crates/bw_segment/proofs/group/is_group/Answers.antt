use Rattle.std.proofs.Common.{◌∙◌, sym, ap, map, take_all, arith, true≢false}
use Rattle.std.specs.List.{list_all}
use Rattle.std.proofs.lemmas.List.{length-map}
use Rattle.bw_model.specs.Column.{admits_values}
use Rattle.bw_model.specs.Groups.{group_size}
use Rattle.bw_model.specs.Row.{values_of}
use Rattle.bw_segment.proofs.CodeLemmas.{admitted_at, few_rows}
use Rattle.bw_segment.proofs.group.is_group.Goals as goal

pub returns-then-count-gt-LANES-clause-none : goal.returns-then-count-gt-LANES-clause-none
returns-then-count-gt-LANES-clause-none c = λ no group. let few = few_rows c.args.schema.now c.args.rows.now group in omega arith

pub returns-then-not-admits-clause-none : goal.returns-then-not-admits-clause-none
returns-then-not-admits-clause-none c = λ no group.
    let admitted = admitted_at c.args.schema.now.columns.items c.args.rows.now c.loop-row.row-index c.row-item.result group.admitted (omega arith) c.row-item.is in
    true≢false (sym admitted ∙ sym c.admits.ensures ∙ c.if-not-admits.true)

pub returns-clause-group : goal.returns-clause-group
unfolding group_size
returns-clause-group c = λ yes.
    let rows = c.args.rows.now in
    let same = length-map rows values_of in
    record {
      nonempty = omega arith;
      within_limit = omega arith;
      admitted = sym (ap (λ l. list_all (admits_values c.args.schema.now.columns.items) (map values_of l)) (take_all c.loop-row.row-index rows (omega arith))) ∙ c.loop-row.invariant;
    }
