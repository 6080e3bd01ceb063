-- The rows that an encoder contains.
use Rattle.std.specs.Prelude.{◌≡◌, ℕ, ◌*◌, List, ◌++◌, length}
use Rattle.bw_model.specs.declared.schema.Schema.{Schema}
use Rattle.bw_model.specs.Groups.{group_size}
use Rattle.bw_model.specs.Row.{Value}
use Rattle.bw_segment.specs.Columns.{KeepRows}
use Rattle.bw_file.specs.declared.encoder.Encoder.{Encoder}
use Rattle.bw_file.specs.declared.layout.Layout.{Layout}
use Rattle.bw_file.specs.declared.order.FileOrder.TheVariants.{ByRows}
use Rattle.bw_file.specs.FileBytes.{AreRows, header_bytes, segments_bytes, version_for}

-- the table's schema, the layout, and how many rows were added
abbrev pub encoder_schema : Encoder → Schema
encoder_schema encoder = encoder.placement.schema

abbrev pub encoder_layout : Encoder → Layout
encoder_layout encoder = encoder.layout

abbrev pub rows_in : Encoder → ℕ
rows_in encoder = encoder.rows

-- these are the bytes of these rows, except that the header still states no rows
abbrev pub IsBytesOf : Layout → Schema → List ℕ → List (List Value) → Type 0
IsBytesOf layout schema bytes rows =
    bytes ≡ header_bytes ByRows (version_for schema.columns.items) layout schema.name schema.columns.items
    0
    ++ segments_bytes layout schema.columns.items rows

-- The encoder contains these rows, which the columns admit. The bytes are a header that still
-- states no rows, and the segments of the first groups. The other rows, at most one group, are
-- stored by columns.
pub record Holds (encoder : Encoder) (rows : List (List Value)) : Type 0 where
  pub before : List (List Value)
  pub group : List (List Value)
  pub groups : ℕ
  pub parts : rows ≡ before ++ group
  pub whole : length before ≡ group_size * groups
  pub text : IsBytesOf encoder.layout encoder.placement.schema encoder.bytes.items before
  pub kept : KeepRows encoder.placement.schema.columns.items group encoder.kept.items
  pub filled : length group ≡ encoder.filled
  pub count : length rows ≡ encoder.rows
  pub admitted : AreRows encoder.placement.schema.columns.items rows

-- the encoder contains these rows after those that it had, whichever they were
pub record HasEncoded (start : Encoder) (rows : List (List Value)) (now : Encoder) : Type 0 where
  pub layout : encoder_layout now ≡ encoder_layout start
  pub schema : encoder_schema now ≡ encoder_schema start
  pub holds : (before : List (List Value)) → Holds start before → Holds now (before ++ rows)

-- An encoder is as it was before a call, except for the capacity of its memory: it has the same
-- table, layout, bytes and rows.
pub record IsAsBefore (old new : Encoder) : Type 0 where
  pub layout : new.layout ≡ old.layout
  pub schema : new.placement.schema ≡ old.placement.schema
  pub text : new.bytes.items ≡ old.bytes.items
  pub kept : new.kept.items ≡ old.kept.items
  pub filled : new.filled ≡ old.filled
  pub rows : new.rows ≡ old.rows
