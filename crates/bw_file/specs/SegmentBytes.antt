-- The bytes of a segment, of which the first ones have been read.
use Rattle.std.specs.Prelude.{◌≡◌, ◌-◌, ◌≤◌, ⊤, ℕ, List, drop, length, take}
use Rattle.bw_io.specs.Shared.{bytes_in}
use Rattle.bw_file.specs.declared.segment_bytes.SegmentBytes.{SegmentBytes}
use Rattle.bw_file.specs.declared.segment_bytes.SegmentBytes.TheVariants.{Shared, Own}

-- the bytes
abbrev pub bytes_held : SegmentBytes → List ℕ
bytes_held (Shared shared) = bytes_in shared
bytes_held (Own own) = own.items

-- If the bytes are shared, those from `start` on are the next ones that the source keeps.
abbrev pub AreNext : SegmentBytes → ℕ → List ℕ → Type 0
AreNext (Shared shared) start kept =
    (drop start (bytes_in shared) ≡ take (length (bytes_in shared) - start) kept)
    × (length (bytes_in shared) - start ≤ length kept)
AreNext (Own own) start kept = ⊤
