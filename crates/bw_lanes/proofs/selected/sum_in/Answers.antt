use Rattle.std.proofs.Common.{◌≡◌, ◌∙◌, ap, sum, length, arith}
use Rattle.std.proofs.lemmas.Simd.{fold-sum, sum-zip2}
use Rattle.bw_lanes.proofs.SelectedLemmas.{sum_more, sum_is, bytes_or_0}
use Rattle.bw_lanes.proofs.selected.sum_in.Goals as goal

pub loop-word-preserved : goal.loop-word-preserved
loop-word-preserved c =
    let sums = c.loop-word.sums in
    let more = c.fours-sums.result in
    let same : length sums ≡ length more = omega arith in
    record {
      sums = sum_more c.loop-word.word c.args.bytes.now c.args.rows.now sums more c.told-bytes c.told-rows same (omega arith) c.loop-word.invariant.sums (c.fours-sums.ensures.sum ∙ sum_is _);
      small = omega (arith, sum-zip2 sums more same);
    }

pub returns : goal.returns
returns c = record {
  sum = λ lanes is.
      let all = ap sum (bytes_or_0 c.loop-word.word lanes c.args.bytes.now c.args.rows.now c.told-bytes c.told-rows (omega arith) c.fits-bytes is) in
      omega (arith, fold-sum 0 c.loop-word.sums, c.loop-word.invariant.sums, all);
  bound = omega (arith, fold-sum 0 c.loop-word.sums);
}
