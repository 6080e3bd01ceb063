-- Segments in either layout.
use Rattle.std.proofs.Common.{ℕ, zero, suc, ◌*◌, ◌≤◌, Bool, true, false, if◌then◌else◌, List, []}
use Rattle.std.proofs.Common.{length, arith}
use Rattle.bw_model.specs.declared.column.Column.{Column}
use Rattle.bw_model.specs.declared.schema.Schema.{Schema}
use Rattle.bw_model.specs.Code.{width_at}
use Rattle.bw_model.specs.Variable.{is_nullable}
use Rattle.bw_model.proofs.DigitLemmas.{width_at-le}
use Rattle.bw_segment.specs.Packing as kept
use Rattle.bw_segment.specs.Packing.{IsPacking}
use Rattle.bw_planes.proofs.KeptLemmas.{planes_keep_codes}
use Rattle.bw_slices.proofs.KeptLemmas.{slices_keep_codes}
use Rattle.bw_file.specs.Blocks.{form_of, block_size, bytes_before, segment_size}
use Rattle.bw_file.specs.declared.layout.Layout.{Layout}
use Rattle.bw_file.specs.declared.layout.Layout.TheVariants.{Planes, Slices}

pub is_packing : (layout : Layout) → IsPacking (form_of layout)
unfolding form_of
is_packing Planes = planes_keep_codes
is_packing Slices = slices_keep_codes

-- a code has at most 63 binary digits, so its block has at most 4160 bytes
codes_small : (layout : Layout) (width : ℕ) → width ≤ 63 → kept.Packing.size (form_of layout) width ≤ 4096
unfolding form_of
codes_small Planes width le = omega (arith, le)
codes_small Slices width le = omega (arith, le)

nulls_small : (nullable : Bool) → (if nullable then 64 else 0) ≤ 64
nulls_small true = omega arith
nulls_small false = omega arith

block_small : (layout : Layout) (columns : List Column) (column : ℕ) → block_size layout columns column ≤ 4160
block_small layout columns column =
    omega (arith, nulls_small (is_nullable columns column), codes_small layout (width_at columns column) (width_at-le columns column))

before_small : (layout : Layout) (columns : List Column) (column : ℕ) → bytes_before layout columns column ≤ 4160 * column
before_small layout columns zero = omega arith
before_small layout columns (suc column) = omega (arith, before_small layout columns column, block_small layout columns column)

-- and a segment, which has at most 64 columns, 266240
pub segment_small : (layout : Layout) (schema : Schema) → segment_size layout schema.columns.items ≤ 266240
segment_small layout schema =
    omega (arith, before_small layout schema.columns.items (length schema.columns.items), schema.limited)
