-- What is counted in the first segments of a table in memory: the loads of a scan, and matching rows.
use Rattle.std.specs.Prelude.{ℕ, length, min, List}
use Rattle.std.specs.List.{sum_by}
use Rattle.bw_model.specs.declared.cond.Cond.{Cond}
use Rattle.bw_model.specs.Row.{Value}
use Rattle.bw_model.specs.Selection.{matching_rows}
use Rattle.bw_memory.specs.declared.table.MemoryTable.{MemoryTable}
use Rattle.bw_memory.specs.StoredSegments.{stored_groups}
use Rattle.bw_memory.specs.MemoryTable.{schema_of}
use Rattle.bw_query.specs.declared.scan.Scan.{Scan}
use Rattle.bw_query.specs.Scan.{loads_in}

-- the groups of rows of the first 32 segments, or of all if there are fewer
abbrev pub trial_groups : MemoryTable → List (List (List Value))
trial_groups table = stored_groups table.layout (schema_of table).columns.items table.rows
    (min table.segments 32) table.columns.items

-- the loads of a scan over them, all together
abbrev pub trial_loads : MemoryTable → Scan → ℕ
trial_loads table scan = sum_by (loads_in (schema_of table).columns.items scan) (trial_groups table)

-- the number of rows of the trial's groups on which a condition is TRUE
abbrev pub trial_rows : MemoryTable → Cond → ℕ
trial_rows table cond = sum_by (λ group. length (matching_rows cond group)) (trial_groups table)
