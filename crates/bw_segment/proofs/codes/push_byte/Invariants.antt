use Rattle.std.proofs.Common.{◌≡◌, ◌<◌, ◌≤◌, ℕ, get_or, length}
use Rattle.bw_segment.proofs.ByteLemmas.{with_byte}
use Rattle.bw_segment.proofs.codes.push_byte.Given as goal

-- the codes so far have their bytes, and the others are as they were
abbrev pub invariant-loop-lane : goal.invariant-loop-lane
invariant-loop-lane l = record {
  all : length l.codes ≡ 512;
  shifted : (lane : ℕ) → lane < l.lane → get_or l.codes lane 0 ≡ with_byte (get_or l.fn.codes lane 0) (get_or l.bytes lane 0);
  others : (lane : ℕ) → l.lane ≤ lane → get_or l.codes lane 0 ≡ get_or l.fn.codes lane 0;
}
