use Rattle.std.proofs.Common.{◌≡◌, ◌+◌, ◌-◌, ◌*◌, ◌≤◌, [], length, take}
use Rattle.bw_file.specs.Blocks.{bytes_before, AreSound}
use Rattle.bw_file.specs.Reading.{state_at, GoesOn}
use Rattle.bw_file.specs.SegmentBytes.{bytes_held, AreNext}
use Rattle.bw_file.specs.TableReading.{blocks}
use Rattle.bw_file.proofs.body.read_blocks.Given as goal

-- the blocks so far are in the front of the bytes, without error, and reading continues with the
-- others
abbrev pub invariant-loop-col : goal.invariant-loop-col
invariant-loop-col g l = record {
  on : GoesOn (blocks l.layout l.placement.schema.columns.items l.rows 0 (length l.placement.schema.columns.items) [])
      (state_at (g.S.Source.state l.initial.source) l.initial.offset)
      (blocks l.layout l.placement.schema.columns.items l.rows l.col (length l.placement.schema.columns.items - l.col) (take l.start (bytes_held l.bytes)))
      (state_at (g.S.Source.state l.source) l.offset);
  failures : (g.S.Source.state l.source).failures ≡ (g.S.Source.state l.initial.source).failures;
  room : l.offset ≤ l.initial.offset + 4160 * l.col;
  start : l.start ≡ bytes_before l.layout l.placement.schema.columns.items l.col;
  sound : AreSound l.layout l.placement.schema.columns.items l.rows l.col (take l.start (bytes_held l.bytes));
  next : AreNext l.bytes l.start (g.S.Source.kept l.source);
  long : length (bytes_held l.bytes) ≡ length (bytes_held l.initial.bytes);
}
