use Rattle.std.proofs.Common.{refl, ap, max, bit_and, arith, fold}
use Rattle.bw_lanes.proofs.SelectedLemmas.{greatest_is_choice, best_more, bytes_or_0}
use Rattle.bw_lanes.proofs.selected.greatest_in.Goals as goal

pub loop-word-preserved : goal.loop-word-preserved
loop-word-preserved c =
    best_more max greatest_is_choice bit_and 0 c.loop-word.word c.args.bytes.now c.args.rows.now c.loop-word.greatest _ _ c.told-bytes c.told-rows c.loop-word.auto.greatest.0 (omega arith) c.loop-word.invariant refl
    c.greater-greatest.ensures

pub returns : goal.returns
returns c = λ lanes is. omega (arith, ap (fold max 0) (bytes_or_0 c.loop-word.word lanes c.args.bytes.now c.args.rows.now c.told-bytes c.told-rows (omega arith) c.fits-bytes is))
