-- Planes and their lanes: 512 bits, one for each row.
use Rattle.std.specs.Prelude.{ℕ, zero, suc, ◌+◌, ◌*◌, ◌==◌, ◌&&◌, Bool, true, false, not}
use Rattle.std.specs.Prelude.{slice_index, List, [], ◌∷◌, map, take, drop, if◌then◌else◌}
use Rattle.std.specs.Int.{bit_at}
use Rattle.std.specs.List.{flat_map, range_with_len}

-- the first `count` bits of a number, the least first
unfoldable pub bits_from_least : ℕ → ℕ → List Bool
bits_from_least count n = map (λ i. bit_at n i == 1) (range_with_len 0 count)

-- the lanes of a plane: the bits of its words of 64 bits, each from its least
unfoldable pub lanes_of_words : List ℕ → List Bool
lanes_of_words words = flat_map (bits_from_least 64) words

-- the lanes of a plane that is stored as bytes: the bits of its bytes, each from its least
unfoldable pub lanes_of_bytes : List ℕ → List Bool
lanes_of_bytes bytes = flat_map (bits_from_least 8) bytes

-- exactly one of two is true
abbrev pub differ : Bool → Bool → Bool
differ true y = not y
differ false y = y

-- the number of these bits, the least first
abbrev pub number_of_bits : List Bool → ℕ
number_of_bits [] = 0
number_of_bits (bit ∷ bits) = (if bit then 1 else 0) + 2 * number_of_bits bits

-- `count` bytes, each the number of eight lanes
abbrev pub bytes_from : ℕ → List Bool → List ℕ
bytes_from zero lanes = []
bytes_from (suc count) lanes = number_of_bits (take 8 lanes) ∷ bytes_from count (drop 8 lanes)

-- the 64 bytes of 512 lanes
unfoldable pub bytes_of_lanes : List Bool → List ℕ
bytes_of_lanes lanes = bytes_from 64 lanes

-- the bytes of a row are 0 in each of the first `count` slices, which have 512 bytes each
abbrev pub are_zero : List ℕ → ℕ → ℕ → Bool
are_zero bytes row zero = true
are_zero bytes row (suc slices) = are_zero bytes row slices
    && (slice_index bytes (512 * slices + row) == 0)
