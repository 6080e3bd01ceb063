use Rattle.std.proofs.Common.{◌≡◌, ◌*◌, ◌≤◌}
use Rattle.bw_file.specs.Blocks.{block_size}
use Rattle.bw_memory.specs.Columnar.{is_wanted, table_in}
use Rattle.bw_memory.specs.MemoryTable.{layout_of, schema_of}
use Rattle.bw_memory.specs.Windows.{sum_read}
use Rattle.bw_memory.proofs.windows.segments_at_once.Given as goal

-- the blocks of the columns so far have these sizes in all, which are small
abbrev pub invariant-loop-col : goal.invariant-loop-col
invariant-loop-col l =
    let table = table_in l.fn.columnar in
    (l.size ≡ sum_read (is_wanted l.fn.wanted) (block_size (layout_of table) (schema_of table).columns.items) l.col)
    × (l.count ≡ sum_read (is_wanted l.fn.wanted) (λ _. 1) l.col)
    × (l.size ≤ 4160 * l.col) × (l.count ≤ l.col)
