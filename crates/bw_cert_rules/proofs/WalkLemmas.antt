-- The walk over a program's lines, one instruction after another.
use Rattle.std.proofs.Common.{◌≡◌, ◌∙◌, sym, ap, ℕ, suc, List, [], drop, Some, Result, Ok, Err}
use Rattle.std.proofs.Common.{slice_get, ◌≤◌, length}
use Rattle.std.proofs.lemmas.List.{drop_all}
use Rattle.bw_model.specs.declared.fault.Fault.{Fault}
use Rattle.bw_model.specs.Fault.{◌>>=◌}
use Rattle.bw_diagram.specs.Facts.{Facts}
use Rattle.bw_program.specs.declared.instr.Instr.{Instr}
use Rattle.bw_program.proofs.ProgramLemmas.{drop-found}
use Rattle.bw_cert_text.specs.declared.lines.BodyLine.{BodyLine}
use Rattle.bw_cert_rules.specs.declared.edge.Edge.{Edge}
use Rattle.bw_cert_rules.specs.Edges.{Holds}
use Rattle.bw_cert_rules.specs.Join.{edge_of, with_edge, edges_into}
use Rattle.bw_cert_rules.specs.Walk.{WalkState, instruction_taken, apply_join, check_lines_from}
use Rattle.bw_cert_rules.specs.Walk.{check_lines}

-- the walk has come to an instruction: what the lines say is what those that are left say, after
-- what is known there
pub record Walking (facts : Facts) (instrs : List Instr) (end : ℕ) (lines : List BodyLine) (by_target : List (List Edge)) (number : ℕ) (taken : WalkState) : Type 0 where
  pub edges : List Edge
  pub holds : Holds by_target edges
  pub told : check_lines facts instrs end lines ≡ check_lines_from facts end number edges (drop number instrs) taken

-- past an instruction whose lines are right, to its join, which is right or rejected
pub walked_on : (facts : Facts) (end number place : ℕ) (edges into : List Edge) (instrs : List Instr) (instr : Instr) (taken through : WalkState) (joined : Result WalkState Fault) → slice_get instrs number ≡ Some instr →
    instruction_taken facts end taken.known instr taken.rest ≡ Ok through → place ≡ suc number → into ≡ edges_into place (with_edge edges (edge_of taken.known instr)) → apply_join facts end place into through ≡ joined →
    check_lines_from facts end number edges (drop number instrs) taken ≡ (joined >>= λ past. check_lines_from facts end place (with_edge edges (edge_of taken.known instr)) (drop place instrs) past)
unfolding check_lines_from
walked_on facts end number place edges into instrs instr taken through joined there line next all join =
    let after : List Edge = with_edge edges (edge_of taken.known instr) in
    let rest : List Instr = drop (suc number) instrs in
    let joins : apply_join facts end (suc number) (edges_into (suc number) after) through ≡ joined = ap (λ n. apply_join facts end n (edges_into n after) through) (sym next) ∙ ap (λ es. apply_join facts end place es through) (sym all) ∙ join in
    ap (λ is. check_lines_from facts end number edges is taken) (drop-found instrs number instr there)
    ∙ ap (λ t. t >>= λ through. apply_join facts end (suc number) (edges_into (suc number) after) through >>= λ past. check_lines_from facts end (suc number) after rest past) line
    ∙ ap (λ t. t >>= λ past. check_lines_from facts end (suc number) after rest past) joins
    ∙ ap (λ n. joined >>= λ past. check_lines_from facts end n after (drop n instrs) past) (sym next)

-- at an instruction whose line is rejected
pub walked_refused : (facts : Facts) (end number : ℕ) (edges : List Edge) (instrs : List Instr) (instr : Instr) (taken : WalkState) (fault : Fault) → slice_get instrs number ≡ Some instr →
    instruction_taken facts end taken.known instr taken.rest ≡ Err fault → check_lines_from facts end number edges (drop number instrs) taken ≡ Err fault
unfolding check_lines_from
walked_refused facts end number edges instrs instr taken fault there line =
    let after : List Edge = with_edge edges (edge_of taken.known instr) in
    ap (λ is. check_lines_from facts end number edges is taken) (drop-found instrs number instr there)
    ∙ ap (λ t. t >>= λ through. apply_join facts end (suc number) (edges_into (suc number) after) through >>= λ past. check_lines_from facts end (suc number) after (drop (suc number) instrs) past) line

-- at the end
pub walked_end : (facts : Facts) (end number : ℕ) (edges : List Edge) (instrs : List Instr) (taken : WalkState) → length instrs ≤ number → check_lines_from facts end number edges (drop number instrs) taken ≡ Ok taken
unfolding check_lines_from
walked_end facts end number edges instrs taken long = ap (λ is. check_lines_from facts end number edges is taken) (drop_all number instrs long)
