use Rattle.std.proofs.Common.{◌≡◌, ◌*◌, ◌≤◌}
use Rattle.std.specs.List.{sum_by}
use Rattle.bw_memory.specs.StoredSegments.{stored_groups}
use Rattle.bw_memory.specs.MemoryTable.{schema_of}
use Rattle.bw_query.proofs.trial.count_in_layout.Given as goal

-- what is counted in the segments so far
abbrev pub invariant-loop-number : goal.invariant-loop-number
invariant-loop-number g l = record {
  sum : l.total ≡ sum_by (g.C.TrialCount.counts l.initial.counter (schema_of l.table).columns.items) (stored_groups l.table.layout (schema_of l.table).columns.items l.table.rows l.number l.table.columns.items);
  bound : l.total ≤ 4096 * l.number;
  fits : g.C.TrialCount.fits l.counter (schema_of l.table).columns.items;
  same : g.C.TrialCount.counts l.counter ≡ g.C.TrialCount.counts l.initial.counter;
}
