-- Codes stored as planes: one plane of 64 bytes for each bit, from the top bit down.
use Rattle.std.specs.Prelude.{ℕ, zero, suc, ◌*◌, Bool, false, List, [], ◌++◌, map, take, drop}
use Rattle.std.specs.Prelude.{slice_index_or}
use Rattle.std.specs.List.{range_with_len}
use Rattle.bw_lanes.specs.Lanes.{bytes_of_lanes, lanes_of_bytes}
use Rattle.bw_model.specs.Code.{has_bit}
use Rattle.bw_model.specs.Groups.{group_size}
use Rattle.bw_model.specs.Variable.{Assignment, binary_number}
use Rattle.bw_segment.specs.Packing.{Packing}

-- the lanes of a plane; plane 0 is the first
abbrev pub plane_lanes : List ℕ → ℕ → List Bool
plane_lanes bytes plane = lanes_of_bytes (take 64 (drop (64 * plane) bytes))

-- the bits of a row, one in each plane, in the row's lane
abbrev pub row_bits : List ℕ → ℕ → Assignment
row_bits bytes row plane = slice_index_or (plane_lanes bytes plane) row false

-- the planes of this many of the lowest bits of codes, from the top one down
abbrev pub planes_bytes : ℕ → List ℕ → List ℕ
planes_bytes zero codes = []
planes_bytes (suc bits) codes = bytes_of_lanes (map (λ code. has_bit code bits) codes)
    ++ planes_bytes bits codes

-- the numbers that `count` planes spell in the 512 lanes, from the top plane on
unfoldable pub planes_codes : ℕ → List ℕ → List ℕ
planes_codes count bytes = map (λ row. binary_number (row_bits bytes row) 0 count)
    (range_with_len 0 group_size)

-- the codes of the 64 rows whose bits are in one word of each plane
abbrev pub codes_in_word : ℕ → List ℕ → List ℕ
codes_in_word word codes = take 64 (drop (64 * word) codes)

-- the packing of codes as planes, one for each bit
abbrev pub plane_packing : Packing
plane_packing = record { size = λ width. 64 * width; bytes = planes_bytes; codes = planes_codes }
