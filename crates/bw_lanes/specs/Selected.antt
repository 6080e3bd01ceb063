-- Selected rows of 512, as one byte each, and the bytes of a slice in these rows.
use Rattle.std.specs.Prelude.{ℕ, Bool, List, if◌then◌else◌}
use lib.Lanes.{zip2}

-- the byte of a lane: all bits 1 or all bits 0
abbrev pub as_byte : Bool → ℕ
as_byte lane = if lane then 255 else 0

-- for each lane, its byte if the lane is 1, else another byte
abbrev pub bytes_selected : ℕ → List Bool → List ℕ → List ℕ
bytes_selected other lanes bytes = zip2 (λ lane byte. if lane then byte else other) lanes bytes
