use Rattle.std.proofs.Common.{◌∙◌}
use Rattle.bw_lanes.proofs.AnyLemmas.{any_left, none_left}
use Rattle.bw_lanes.proofs.bytes.any_of_word.Goals as goal

pub returns-then-rows-ne0 : goal.returns-then-rows-ne0
returns-then-rows-ne0 c = any_left _ _ _ _ c.ranges.rows.fits c.eq.type_inv (c.eq.ensures ∙ c.or_slices.ensures)

pub returns-else-rows-ne0 : goal.returns-else-rows-ne0
returns-else-rows-ne0 c = rw c.if-rows-ne0.false (none_left _ _)
