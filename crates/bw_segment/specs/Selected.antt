-- The codes of a column in selected lanes.
use Rattle.std.specs.Prelude.{ℕ, Bool, true, false, List, map, nat_lt}
use Rattle.bw_model.specs.Code.{has_bit}
use Rattle.bw_model.specs.Selection.{selected_items}
use Rattle.bw_segment.specs.declared.extremes.Extreme.{Extreme}
use Rattle.bw_segment.specs.declared.extremes.Extreme.TheVariants.{Least, Greatest}
use Rattle.bw_segment.specs.Meaning.{Meaning, code_lanes}

-- a bit of a column's stored code in each lane
unfoldable pub bit_lanes : Meaning → ℕ → ℕ → List Bool
bit_lanes meaning column bit = map (λ code. has_bit code bit) (code_lanes meaning column)

-- the stored codes of a column in the lanes whose bit is 1
unfoldable pub codes_in : Meaning → ℕ → List Bool → List ℕ
codes_in meaning column lanes = selected_items lanes (code_lanes meaning column)

-- the greatest is sought, not the least
abbrev pub is_greatest : Extreme → Bool
is_greatest Least = false
is_greatest Greatest = true

-- a code is above another one or, unless the greatest is sought, below it
abbrev pub is_beyond : Bool → ℕ → ℕ → Bool
is_beyond true other code = nat_lt other code
is_beyond false other code = nat_lt code other
