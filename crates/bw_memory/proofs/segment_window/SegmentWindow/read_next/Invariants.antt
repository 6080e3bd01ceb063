use Rattle.std.proofs.Common.{◌≡◌, ◌≤◌}
use Rattle.bw_memory.specs.Columnar.{is_wanted}
use Rattle.bw_memory.specs.MemoryTable.{segments_in}
use Rattle.bw_memory.specs.Windows.{HasPartsBefore, end_of, first_in, most_in, window_in}
use Rattle.bw_memory.proofs.segment_window.SegmentWindow.read_next.Given as goal

-- the wanted columns so far were read
abbrev pub invariant-loop-col : goal.invariant-loop-col
invariant-loop-col g l = record {
  parts : HasPartsBefore (g.D.RandomAccess.state l.fn.device).known l.columnar (is_wanted l.wanted) (first_in l.self) (window_in l.self) l.col;
  next : first_in l.self ≡ end_of l.fn.self;
  some : 1 ≤ segments_in (window_in l.self);
  few : segments_in (window_in l.self) ≤ most_in l.fn.self;
  most : most_in l.self ≡ most_in l.fn.self;
  known : (g.D.RandomAccess.state l.device).known ≡ (g.D.RandomAccess.state l.fn.device).known;
  failures : (g.D.RandomAccess.state l.device).failures ≡ (g.D.RandomAccess.state l.fn.device).failures;
}
