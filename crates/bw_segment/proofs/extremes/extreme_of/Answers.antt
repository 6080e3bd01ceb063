-- The greater or the smaller.
use Rattle.std.proofs.Common.{refl}
use Rattle.bw_segment.proofs.extremes.extreme_of.Goals as goal

pub returns-in-Greatest : goal.returns-in-Greatest
returns-in-Greatest c = rw (c.in-Greatest.is, c.max.ensures) refl

pub returns-in-Least : goal.returns-in-Least
returns-in-Least c = rw (c.in-Least.is, c.min.ensures) refl
