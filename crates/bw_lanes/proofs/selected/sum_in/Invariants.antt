use Rattle.std.proofs.Common.{◌≡◌, ◌*◌, ◌≤◌, take, sum, bit_and}
use lib.Lanes.{zip2, sum_l}
use Rattle.bw_lanes.proofs.selected.sum_in.Given as goal

-- the sums of the rows so far, and that they are small
abbrev pub invariant-loop-word : goal.invariant-loop-word
invariant-loop-word l = record {
  sums : sum_l l.sums ≡ sum (zip2 bit_and (take (64 * l.word) l.bytes) (take (64 * l.word) l.rows));
  small : sum_l l.sums ≤ 16320 * l.word;
}
