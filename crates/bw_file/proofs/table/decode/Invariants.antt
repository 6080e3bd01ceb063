use Rattle.std.proofs.Common.{◌≡◌, ◌-◌, List, map, Some, None}
use Rattle.bw_model.specs.Groups.{together}
use Rattle.bw_model.specs.Row.{Value, values_of}
use Rattle.bw_io.specs.Source.{source_state}
use Rattle.bw_file.specs.Reading.{state_at}
use Rattle.bw_file.specs.TableReader.{ReadProgress, final_result}
use Rattle.bw_file.proofs.table.decode.Given as goal

-- the groups so far came, and their rows were kept
abbrev pub invariant-loop-rows : goal.invariant-loop-rows
invariant-loop-rows l = record {
  goes_on : final_result l.reader ≡ None;
  came : (groups : List (List (List Value))) × ReadProgress (state_at (source_state (Some l.fn.bytes) 0) 0) (state_at (source_state (Some l.source.rest.now) 0) l.reader.offset) l.reader groups
      × (map values_of l.rows.items ≡ together groups);
}

abbrev pub decreases-loop-rows : goal.decreases-loop-rows
decreases-loop-rows l = l.reader.rows - l.reader.given
