use Rattle.std.proofs.Common.{◌+◌, ◌*◌}
use Rattle.bw_plan.proofs.code.Code.+within.Given as goal

abbrev pub decreases-below : goal.decreases-below
decreases-below l = 2 * l.search.slice

abbrev pub decreases-within : goal.decreases-within
decreases-within l = 2 * l.search.slice + 1
