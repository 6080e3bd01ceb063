use Rattle.std.proofs.Common.{◌≡◌, ◌<◌, ℕ, get_or, length}
use Rattle.bw_segment.proofs.codes.put_byte.Given as goal

-- the codes so far are their bytes
abbrev pub invariant-loop-lane : goal.invariant-loop-lane
invariant-loop-lane l = record {
  all : length l.codes ≡ 512;
  put : (lane : ℕ) → lane < l.lane → get_or l.codes lane 0 ≡ get_or l.bytes lane 0;
}
