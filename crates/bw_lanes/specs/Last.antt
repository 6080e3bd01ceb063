-- The last lane of a range that is 1.
use Rattle.std.specs.Prelude.{◌≡◌, ℕ, ◌<◌, ◌≤◌, Bool, true, false, List, slice_index_or, suc}

-- the lanes from this one up to another are 0
abbrev pub AreClear : List Bool → ℕ → ℕ → Type 0
AreClear lanes first end = (lane : ℕ) → first ≤ lane → lane < end → slice_index_or lanes lane false
    ≡ false

-- a lane of the range is 1, and those after it are 0
pub record IsLast (lanes : List Bool) (first end lane : ℕ) : Type 0 where
  pub from : first ≤ lane
  pub to : lane < end
  pub set : slice_index_or lanes lane false ≡ true
  pub clear : AreClear lanes (suc lane) end
