-- All segments of a file, read into columns.
use Rattle.std.specs.Prelude.{◌≡◌, ◌≤◌, ℕ, List, []}
use Rattle.bw_model.specs.Groups.{groups_of, together}
use Rattle.bw_model.specs.Limits.{most_rows}
use Rattle.bw_segment.specs.declared.column_blocks.ColumnBlocks.{ColumnBlocks}
use Rattle.bw_file.specs.Reading.{State}
use Rattle.bw_file.specs.TableReader.{ReadWhole, ReadProgress, found_so_far, layout_in, schema_in}
use Rattle.bw_file.specs.declared.table_reader.TableReader.{TableReader}
use Rattle.bw_memory.specs.StoredSegments.{StoresSegments, stored_groups}

-- After a reader had read the header of a file, all segments were read and stored: this many, of
-- this many rows. All of the file was read, and these are the groups of its rows.
pub record StoresAllSegments (old now : State) (reader : TableReader) (rows count : ℕ)
    (columns : List ColumnBlocks) : Type 0 where
  pub segments : StoresSegments (layout_in reader) (schema_in reader).columns.items rows count
      columns
  pub within_limit : rows ≤ most_rows
  pub read : (start : State) → ReadProgress start old reader []
      → ReadWhole start now (found_so_far reader
      (stored_groups (layout_in reader) (schema_in reader).columns.items rows count columns))
  pub cut : (start : State) → ReadProgress start old reader []
      → stored_groups (layout_in reader) (schema_in reader).columns.items rows count columns
      ≡ groups_of (together (stored_groups (layout_in reader) (schema_in reader).columns.items rows
      count columns))
