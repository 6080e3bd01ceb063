use Rattle.std.proofs.Common.{◌≡◌, ℕ, List, length, map}
use Rattle.bw_model.specs.Groups.{together}
use Rattle.bw_model.specs.Row.{Value}
use Rattle.bw_file.specs.Encoder.{Holds, encoder_layout, encoder_schema, rows_in}
use Rattle.bw_memory.specs.MemoryTable.{layout_of, schema_of, segments_in}
use Rattle.bw_memory.specs.StoredSegments.{stored_groups}
use Rattle.bw_memory.specs.declared.table.MemoryTable.{MemoryTable}
use Rattle.bw_recode.specs.Recode.{replaced_row, replacements_in}
use Rattle.bw_recode.proofs.columnar_call.encode_table.Given as goal

-- the rows of the first segments
abbrev pub rows_before : MemoryTable → ℕ → List (List Value)
rows_before table count = together (stored_groups (layout_of table) (schema_of table).columns.items table.rows count table.columns.items)

-- the rows of the segments so far were added
abbrev pub invariant-loop-number : goal.invariant-loop-number
invariant-loop-number l = record {
  holds : Holds l.encoder (map (replaced_row (schema_of l.table).columns.items (replacements_in l.replacements)) (rows_before l.table l.number));
  rows : rows_in l.encoder ≡ length (rows_before l.table l.number);
  layout : encoder_layout l.encoder ≡ layout_of l.table;
  name : (encoder_schema l.encoder).name ≡ l.schema.name;
  columns : (encoder_schema l.encoder).columns.items ≡ l.schema.columns.items;
  end : l.number-end ≡ segments_in l.table;
}
