-- If a certificate is valid, the program fits, and selects what the condition does.
use Rattle.std.proofs.Common.{◌≡◌, ◌∙◌, refl, sym, ap, subst, true, List, length}
use Rattle.bw_model.specs.declared.column.Column.{Column}
use Rattle.bw_model.specs.declared.cond.Truth.TheVariants.{Yes}
use Rattle.bw_model.specs.Cond.{truth_of}
use Rattle.bw_model.specs.Truth.{is_truth}
use Rattle.bw_model.specs.Variable.{row_of}
use Rattle.bw_diagram.specs.Node.{node_value}
use Rattle.bw_program.specs.Machine.{Reaches, end_state}
use Rattle.bw_program.specs.Program.{instr_fits, fits}
use Rattle.bw_cert.proofs.ValidLemmas.{stated_columns, stated_true, after_fits, all_so}
use Rattle.bw_cert_rules.proofs.HoldLemmas.{map_same}
use Rattle.bw_cert_rules.proofs.SoundLemmas.{part_there, same_denotes, zero_is}
use Rattle.bw_cert.proofs.laws.valid_programs_select.Goals as goal

pub returns-clause-fits : goal.returns-clause-fits
unfolding fits
returns-clause-fits c = λ columns cond program certificate valid.
    let right : valid.facts.columns ≡ columns = stated_columns columns certificate valid.facts valid.stated in
    all_so (instr_fits columns) program.instrs (λ k i there.
    let part = part_there program.instrs valid.parts k i valid.valid_parts.part_count there in
    subst (λ columns. instr_fits columns i ≡ true) right (after_fits valid.facts _ _ part.0.line i part.0.entry (valid.valid_parts.instruction k i part.0 there part.1)))

pub returns-clause-places : goal.returns-clause-places
returns-clause-places c = λ columns cond program certificate sound valid lanes place state reaches.
    let law = c.accepted_lines_are_true.ensures in
    let right : valid.facts.columns ≡ columns = stated_columns columns certificate valid.facts valid.stated in
    let are_true = stated_true columns certificate valid.facts (law.start columns) law.node law.chain law.row valid.stated in
    c.skip_soundness.ensures.reached valid.facts program valid.parts are_true sound valid.valid_parts lanes place state
    (subst (λ (columns : List Column). Reaches columns lanes program place state) (sym right) reaches)

pub returns-clause-end : goal.returns-clause-end
returns-clause-end c = λ columns program sound lanes. record {
  steps = length program.instrs;
  after = refl;
  at = c.runs_come_to_the_end.ensures.ends columns lanes program sound;
}

pub returns-clause-selects : goal.returns-clause-selects
returns-clause-selects c = λ columns cond program certificate named sound valid lanes.
    let law = c.accepted_lines_are_true.ensures in
    let right : valid.facts.columns ≡ columns = stated_columns columns certificate valid.facts valid.stated in
    let are_true = stated_true columns certificate valid.facts (law.start columns) law.node law.chain law.row valid.stated in
    let denoted = c.cited_nodes_have_stated_values.ensures valid.facts are_true in
    let holds = c.skip_soundness.ensures.end valid.facts program valid.parts are_true sound valid.valid_parts lanes in
    let tells = c.pairs_tell_truths.ensures columns valid.facts certificate.end.line cond certificate.body valid.rest valid.pair right are_true named valid.paired in
    ap (λ (columns : List Column). (end_state columns lanes program).registers program.result) (sym right)
    ∙ holds program.result valid.node valid.known
    ∙ map_same (λ assignment. node_value valid.facts.nodes assignment valid.node) (λ assignment. is_truth (truth_of (row_of columns assignment) cond) Yes) lanes
    (λ assignment. same_denotes valid.facts valid.node valid.pair.yes certificate.end.row denoted (zero_is _ valid.ended) assignment ∙ tells.yes assignment)
