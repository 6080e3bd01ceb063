-- Codes stored as byte slices: a slice for each byte of the codes, from the most significant down,
-- of 512 bytes, one for each lane.
use Rattle.std.specs.Prelude.{ℕ, zero, suc, ◌+◌, ◌*◌, ◌/◌, List, [], ◌++◌, map, slice_index}
use Rattle.std.specs.List.{range_with_len}
use Rattle.bw_model.specs.StoredCodes.{byte_of}
use Rattle.bw_model.specs.Groups.{group_size}
use Rattle.bw_segment.specs.Packing.{Packing}

-- the number that `count` bytes spell, the most significant first
abbrev pub number_from : (ℕ → ℕ) → ℕ → ℕ
number_from byte zero = 0
number_from byte (suc count) = 256 * number_from byte count + byte count

-- this many of the lowest slices of codes, from the most significant down
abbrev pub slices_bytes : ℕ → List ℕ → List ℕ
slices_bytes zero codes = []
slices_bytes (suc slices) codes = map (byte_of slices) codes ++ slices_bytes slices codes

-- the numbers that `count` slices spell in the 512 lanes, the most significant first
unfoldable pub slices_codes : ℕ → List ℕ → List ℕ
slices_codes count bytes = map
    (λ row. number_from (λ place. slice_index bytes (512 * place + row)) count)
    (range_with_len 0 group_size)

-- the packing of codes as slices, one for each byte
abbrev pub slice_packing : Packing
slice_packing = record {
  size = λ width. 512 * ((width + 7) / 8);
  bytes = λ width codes. slices_bytes ((width + 7) / 8) codes;
  codes = λ width bytes. slices_codes ((width + 7) / 8) bytes;
}
