use Rattle.std.proofs.Common.{◌≡◌, ◌<◌, ℕ, [], map, length, get_or}
use Rattle.bw_model.specs.StoredCodes.{byte_of}
use Rattle.bw_segment.proofs.codes.slices_of.Given as goal

abbrev pub invariant-loop-slice : goal.invariant-loop-slice
invariant-loop-slice l = record {
  room : length l.slices ≡ 8;
  bytes : (slice : ℕ) → slice < l.slice → get_or l.slices slice [] ≡ map (byte_of slice) l.codes;
}
