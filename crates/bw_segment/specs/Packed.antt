-- Placements and bytes of segments in a layout.
use Rattle.std.specs.Prelude.{◌≡◌, Bool, IsTrue, ℕ, ◌+◌, ◌<◌, List, length, map}
use Rattle.std.specs.List.{range_with_len}
use Rattle.bw_model.specs.declared.column.Column.{Column}
use Rattle.bw_segment.specs.BlockFault.{IsSound}
use Rattle.bw_segment.specs.Meaning.{IsGroup}
use Rattle.bw_segment.specs.Packing.{Packing, IsPacking, bytes_before, meaning_spelled}
use Rattle.bw_segment.specs.declared.placement.Placement.{Placement}

-- Each column's block, and the end after them, is where this packing has it.
pub record IsPlaced (packing : Packing) (placement : Placement) : Type 0 where
  pub starts : placement.starts.items ≡ map (bytes_before packing placement.schema.columns.items)
      (range_with_len 0 (length placement.schema.columns.items + 1))

-- each column's block is between the places where this packing has it
abbrev pub HoldBlocks : (ℕ → ℕ → ℕ → Bool) → Packing → List Column → Type 0
HoldBlocks holds packing columns = (column : ℕ) → column < length columns
    → IsTrue (holds column (bytes_before packing columns column)
    (bytes_before packing columns (column + 1)))

-- The bytes are those of `count` rows of a group: their blocks are valid, and where the placement
-- has them.
pub record IsPacked (packing : Packing) (placement : Placement) (count : ℕ)
    (bytes : List ℕ) : Type 0 where
  pub law : IsPacking packing
  pub placed : IsPlaced packing placement
  pub sound : IsSound packing placement.schema.columns.items count bytes
  pub group : IsGroup (meaning_spelled packing placement.schema count bytes)
