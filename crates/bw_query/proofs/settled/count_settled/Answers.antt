-- The numbers so far, with those of one segment more.
use Rattle.std.proofs.Common.{◌∙◌, ◌+◌, List, ap, arith, eqb-true, length, refl, sym, true}
use Rattle.bw_model.specs.Groups.{together}
use Rattle.bw_model.specs.Row.{Value}
use Rattle.bw_model.specs.Selection.{matching_rows}
use Rattle.bw_ranges.specs.declared.verdict.Verdict.{Verdict}
use Rattle.bw_query.specs.Settled.{matches_left_out, rows_left_out}
use Rattle.bw_query.proofs.CountedLemmas.{all_left, counted_more, counted_none, counted_within}
use Rattle.bw_query.proofs.settled.count_settled.Goals as goal

pub loop-number-init : goal.loop-number-init
loop-number-init c = counted_none c.args.table.now c.args.verdicts.now _ refl refl

pub loop-number-preserved : goal.loop-number-preserved
loop-number-preserved c =
    let so_far = c.loop-number.counted in
    counted_more c.args.table.now c.args.verdicts.now c.loop-number.number c.rows_in.result so_far _ (omega (arith, c.loop-number-test.true, c.segments-number-end.ensures)) c.rows_in.ensures c.loop-number.invariant
    (c.plus-counted.ensures.rows ∙ ap (λ (verdict : Verdict). so_far.rows + rows_left_out verdict c.rows_in.result) c.verdict_on.ensures)
    (c.plus-counted.ensures.matches ∙ ap (λ (verdict : Verdict). so_far.matches + matches_left_out verdict c.rows_in.result) c.verdict_on.ensures) c.plus-counted.ensures.among

pub plus-counted-requires-clause-capacity : goal.plus-counted-requires-clause-capacity
plus-counted-requires-clause-capacity c =
    let table = c.args.table.now in
    omega (arith, table.within_limit, counted_within table c.args.verdicts.now c.loop-number.number c.rows_in.result c.loop-number.counted c.rows_in.ensures c.loop-number.invariant)

pub returns-then-is_empty-clause-rows : goal.returns-then-is_empty-clause-rows
returns-then-is_empty-clause-rows c =
    omega (arith, ap (λ (groups : List (List (List Value))). length (together groups)) (all_left c.args.table.now true c.args.verdicts.now (eqb-true _ _ (sym c.is_empty.ensures ∙ c.if-is_empty.true))))

pub returns-then-is_empty-clause-matches : goal.returns-then-is_empty-clause-matches
returns-then-is_empty-clause-matches c = λ cond have.
    omega (
      arith,
      ap (λ (groups : List (List (List Value))). length (matching_rows cond (together groups))) (all_left c.args.table.now true c.args.verdicts.now (eqb-true _ _ (sym c.is_empty.ensures ∙ c.if-is_empty.true))),
    )
