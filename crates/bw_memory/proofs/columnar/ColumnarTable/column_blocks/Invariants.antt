-- The blocks of the segments before the window's end were read.
use Rattle.std.proofs.Common.{◌≡◌, ◌-◌}
use Rattle.bw_memory.specs.Columnar.{AreFirstBlocks, table_in}
use Rattle.bw_memory.specs.MemoryTable.{segments_in}
use Rattle.bw_memory.specs.Windows.{IsPart, end_of, first_in, window_in}
use Rattle.bw_memory.proofs.columnar.ColumnarTable.column_blocks.Given as goal

abbrev pub invariant-loop-alloc : goal.invariant-loop-alloc
invariant-loop-alloc g l = record {
  part : IsPart l.self (first_in l.window) (window_in l.window);
  read : AreFirstBlocks (g.D.RandomAccess.state l.initial.device).known l.self l.col (end_of l.window) l.blocks.items;
  same : (g.D.RandomAccess.state l.device).known ≡ (g.D.RandomAccess.state l.initial.device).known;
  count : (g.D.RandomAccess.state l.device).failures ≡ (g.D.RandomAccess.state l.initial.device).failures;
}

abbrev pub decreases-loop-alloc : goal.decreases-loop-alloc
decreases-loop-alloc g l = segments_in (table_in l.self) - end_of l.window
