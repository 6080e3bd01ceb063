use Rattle.std.proofs.Common.{◌≡◌, ◌<◌, ℕ, get_or, length, Some, None}
use Rattle.bw_model.specs.Code.{value_of_code}
use Rattle.bw_segment.proofs.values.put_all.Given as goal

-- the values so far are put
abbrev pub invariant-loop-lane : goal.invariant-loop-lane
invariant-loop-lane l = record {
  room : length l.values ≡ 512;
  put : (lane : ℕ) → lane < l.lane → get_or l.values lane None ≡ Some (value_of_code l.column (get_or l.codes lane 0));
}
