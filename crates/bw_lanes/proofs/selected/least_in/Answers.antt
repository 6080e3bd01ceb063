use Rattle.std.proofs.Common.{ap, min, bit_or, w8, arith, fold}
use Rattle.std.specs.Int.{bit_not}
use Rattle.bw_lanes.proofs.SelectedLemmas.{least_is_choice, best_more, bytes_or_255, or_others}
use Rattle.bw_lanes.proofs.WordLemmas.{part, mapped_right}
use Rattle.bw_lanes.proofs.selected.least_in.Goals as goal

pub loop-word-preserved : goal.loop-word-preserved
loop-word-preserved c =
    best_more min least_is_choice or_others 255 c.loop-word.word c.args.bytes.now c.args.rows.now c.loop-word.least _ _ c.told-bytes c.told-rows c.loop-word.auto.least.0 (omega arith) c.loop-word.invariant
    (mapped_right bit_or (bit_not w8) (part c.loop-word.word c.args.bytes.now) (part c.loop-word.word c.args.rows.now)) c.lesser-least.ensures

pub returns : goal.returns
returns c = λ lanes is. omega (arith, c.least_of.type_inv, ap (fold min 255) (bytes_or_255 c.loop-word.word lanes c.args.bytes.now c.args.rows.now c.told-bytes c.told-rows (omega arith) c.fits-bytes is))
