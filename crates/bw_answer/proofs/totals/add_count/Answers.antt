-- The total at hand is as it was; then it counts the rows.
use Rattle.std.proofs.Common.{◌≡◌, ◌∙◌, List, ap, get_or, arith}
use Rattle.std.proofs.lemmas.List.Edits.{map_over_more}
use Rattle.bw_rowwise.specs.Accumulator.{Tally, count_rows}
use Rattle.bw_answer.proofs.TotalsLemmas.{all_added, untouched}
use Rattle.bw_answer.proofs.totals.add_count.Goals as goal

pub add_count-requires : goal.add_count-requires
add_count-requires c =
    let f = λ (tally : Tally). count_rows tally c.args.count in
    let old = c.args.totals.now in
    let i = c.loop-total.total-index in
    let d = c.total-item.result in
    let same : get_or c.loop-total.totals i d ≡ get_or old i d = ap (λ (l : List Tally). get_or l i d) c.loop-total.invariant ∙ untouched f old i d c.loop-total-test.true in
    rw same (c.requires i d c.loop-total-test.true)

pub loop-total-preserved : goal.loop-total-preserved
loop-total-preserved c =
    let f = λ (tally : Tally). count_rows tally c.args.count in
    let i = c.loop-total.total-index in
    let here = get_or c.loop-total.totals i c.total-item.result in
    rw c.add_count.ensures.step (map_over_more f c.args.totals.now c.loop-total.totals i here c.loop-total-test.true c.loop-total.invariant (ap (λ (d : Tally). get_or c.loop-total.totals i d) c.total-item.is))

pub returns : goal.returns
returns c = all_added (λ (tally : Tally). count_rows tally c.args.count) c.args.totals.now c.loop-total.totals c.loop-total.total-index (omega arith) c.loop-total.invariant
