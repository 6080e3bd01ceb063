use Rattle.std.proofs.Common.{◌≡◌, ◌*◌, take, max, bit_and, fold}
use lib.Lanes.{zip2}
use Rattle.bw_lanes.proofs.selected.greatest_in.Given as goal

-- the greatest of the rows so far
abbrev pub invariant-loop-word : goal.invariant-loop-word
invariant-loop-word l = fold max 0 l.greatest ≡ fold max 0 (zip2 bit_and (take (64 * l.word) l.bytes) (take (64 * l.word) l.rows))
