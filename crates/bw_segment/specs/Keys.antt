-- Numbers as keys, which have no sign and are ordered as the numbers are.
use Rattle.std.specs.Prelude.{ℕ, ℤ, ◌^◌, ◌-ℤ◌, pos, Bool, false, List, Some, None, if◌then◌else◌}
use Rattle.std.specs.Prelude.{slice_index, slice_index_or}
use Rattle.bw_model.specs.Row.{Value}

-- the number of a key: the key of -2^63 is 0
abbrev pub number_of_key : ℕ → ℤ
number_of_key key = pos key -ℤ pos (2 ^ 63)

-- the value in a lane, from the lanes without a value and the keys of the others
abbrev pub value_in_lane : List Bool → List ℕ → ℕ → Value
value_in_lane none keys lane =
    if slice_index_or none lane false then None else Some (number_of_key (slice_index keys lane))
