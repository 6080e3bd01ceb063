use Rattle.std.proofs.Common.{◌≡◌, ◌-◌, ◌<◌, ◌^◌, drop, get_or, ℕ}
use Rattle.bw_encode.specs.Ranked.{prefix_from}
use Rattle.bw_encode.proofs.ranked.prefix_of.Given as goal

-- the bytes before this one are the number so far
abbrev pub invariant-loop-i : goal.invariant-loop-i
invariant-loop-i l = record {
  value : prefix_from l.prefix (8 - l.i) (drop l.i l.bytes) ≡ prefix_from 0 8 l.bytes;
  low : l.prefix < 256 ^ l.i;
  small : (j : ℕ) → j < l.i → get_or l.bytes j 0 < 256;
}
