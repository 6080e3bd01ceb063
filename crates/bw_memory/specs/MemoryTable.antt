-- The meaning of a table in memory: a layout, a schema and rows.
use Rattle.std.specs.Prelude.{ℕ, List}
use Rattle.bw_model.specs.declared.schema.Schema.{Schema}
use Rattle.bw_model.specs.Groups.{together}
use Rattle.bw_model.specs.Row.{Value}
use Rattle.bw_model.specs.SchemaText.{schema_shape}
use Rattle.bw_segment.specs.Meaning.{Meaning}
use Rattle.bw_segment.specs.declared.placement.Placement.{Placement}
use Rattle.bw_file.specs.declared.layout.Layout.{Layout}
use Rattle.bw_file.specs.FileBytes.{IsFileBytes}
use Rattle.bw_file.specs.Reading.{State}
use Rattle.bw_file.specs.TableReader.{ReadWhole}
use Rattle.bw_file.specs.TableReading.{found_as}
use Rattle.bw_memory.specs.declared.table.MemoryTable.{MemoryTable}
use Rattle.bw_memory.specs.StoredSegments.{stored_group, stored_groups}

abbrev pub layout_of : MemoryTable → Layout
layout_of table = table.layout

-- what its segments share: the schema, and where the block of each column begins
abbrev pub placement_of : MemoryTable → Placement
placement_of table = table.placement.value

abbrev pub schema_of : MemoryTable → Schema
schema_of table = table.placement.value.schema

-- the rows of each segment, and all rows
abbrev pub groups_in : MemoryTable → List (List (List Value))
groups_in table =
    stored_groups table.layout table.placement.value.schema.columns.items table.rows table.segments
    table.columns.items

abbrev pub rows_of : MemoryTable → List (List Value)
rows_of table = together (groups_in table)

-- the number of segments
abbrev pub segments_in : MemoryTable → ℕ
segments_in table = table.segments

-- the meaning of the segment of a number
abbrev pub meaning_numbered : MemoryTable → ℕ → Meaning
meaning_numbered table number =
    record {
      name = (schema_of table).name;
      columns = (schema_of table).columns.items;
      rows =
          stored_group table.layout (schema_of table).columns.items table.rows table.columns.items
          number;
    }

-- All bytes of a source were consumed, no read failed, and no byte was read needlessly. They are
-- the table file of these rows under this schema in this layout.
pub record HasReadTable (start now : State) (layout : Layout) (schema : Schema)
    (rows : List (List Value)) : Type 0 where
  pub read : ReadWhole start now (found_as layout (schema_shape schema) rows)
  pub text : IsFileBytes read.bytes layout schema rows
