use Rattle.std.proofs.Common.{◌≡◌, ◌<◌, ℕ, get_or, length}
use Rattle.bw_model.specs.Code.{value_of_code}
use Rattle.bw_segment.specs.Keys.{number_of_key}
use Rattle.bw_segment.proofs.values.put_keys.Given as goal

-- the keys so far are put
abbrev pub invariant-loop-lane : goal.invariant-loop-lane
invariant-loop-lane l = record {
  room : length l.keys ≡ 512;
  put : (lane : ℕ) → lane < l.lane → number_of_key (get_or l.keys lane 0) ≡ value_of_code l.column (get_or l.codes lane 0);
}
