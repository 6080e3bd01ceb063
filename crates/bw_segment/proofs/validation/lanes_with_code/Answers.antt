use Rattle.std.proofs.Common.{◌∙◌, sym}
use Rattle.bw_lanes.specs.Lanes.{lanes_of_words}
use Rattle.bw_segment.proofs.FaultLemmas.{tells_nothing}
use Rattle.bw_segment.proofs.validation.lanes_with_code.Goals as goal

pub returns-then-is_zero : goal.returns-then-is_zero
returns-then-is_zero g c = tells_nothing c.args.rows (lanes_of_words c.args.nulls.now) _ (g.L.CodeLayout.packing.codes c.args.width c.args.codes.now) c.if-rows-eq-LANES.true (sym c.is_zero.ensures ∙ c.if-is_zero.true)
