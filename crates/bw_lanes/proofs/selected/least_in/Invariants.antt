use Rattle.std.proofs.Common.{◌≡◌, ◌*◌, take, min, fold}
use lib.Lanes.{zip2}
use Rattle.bw_lanes.proofs.SelectedLemmas.{or_others}
use Rattle.bw_lanes.proofs.selected.least_in.Given as goal

-- the least of the rows so far
abbrev pub invariant-loop-word : goal.invariant-loop-word
invariant-loop-word l = fold min 255 l.least ≡ fold min 255 (zip2 or_others (take (64 * l.word) l.bytes) (take (64 * l.word) l.rows))
