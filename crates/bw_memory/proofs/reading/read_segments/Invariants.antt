use Rattle.std.proofs.Common.{◌≡◌, ◌-◌, ◌*◌, ◌≤◌, min, None, []}
use Rattle.bw_model.specs.Groups.{group_size}
use Rattle.bw_segment.specs.ColumnBlocks.{StoresBlocks}
use Rattle.bw_file.specs.Blocks.{form_of}
use Rattle.bw_file.specs.Reading.{State, state_at}
use Rattle.bw_file.specs.TableReader.{SameTable, ReadProgress, bytes_taken, layout_in, rows_given}
use Rattle.bw_file.specs.TableReader.{rows_stated, schema_in, final_result}
use Rattle.bw_memory.specs.StoredSegments.{StoresSegments, stored_groups}
use Rattle.bw_memory.proofs.reading.read_segments.Given as goal

-- the segments so far are kept, each but the last with 512 rows
abbrev pub invariant-loop-segment : goal.invariant-loop-segment
invariant-loop-segment g l = record {
  kept : StoresSegments (layout_in l.initial.reader) (schema_in l.initial.reader).columns.items (rows_given l.reader) l.count l.columns;
  stored : StoresBlocks (form_of (layout_in l.initial.reader)) (schema_in l.initial.reader).columns.items l.count l.columns;
  given : rows_given l.reader ≡ min (rows_stated l.initial.reader) (group_size * l.count);
  read : (start : State)
      → ReadProgress start (state_at (g.S.Source.state l.initial.source) (bytes_taken l.initial.reader)) l.initial.reader []
      → ReadProgress start (state_at (g.S.Source.state l.source) (bytes_taken l.reader)) l.reader
      (stored_groups (layout_in l.initial.reader) (schema_in l.initial.reader).columns.items (rows_given l.reader) l.count l.columns);
  same : SameTable l.initial.reader l.reader;
  reading : final_result l.reader ≡ None;
  failures : (g.S.Source.state l.source).failures ≡ (g.S.Source.state l.initial.source).failures;
  within_limit : l.count ≤ rows_given l.reader;
}

abbrev pub decreases-loop-segment : goal.decreases-loop-segment
decreases-loop-segment g l = rows_stated l.reader - rows_given l.reader
