use Rattle.std.proofs.Common.{◌≡◌, ◌<◌, ℕ, None}
use Rattle.bw_file.specs.Blocks.{block_fault, block_size}
use Rattle.bw_memory.specs.MemoryTable.{layout_of, schema_of}
use Rattle.bw_memory.specs.StoredSegments.{piece_of, rows_numbered}
use Rattle.bw_memory.proofs.table.MemoryTable.validate_column.Given as goal

-- the blocks so far are valid
abbrev pub invariant-loop-number : goal.invariant-loop-number
invariant-loop-number l =
    (number : ℕ) → number < l.number → block_fault (layout_of l.self) (schema_of l.self).columns.items l.col (rows_numbered l.self.rows number)
    (piece_of l.blocks (block_size (layout_of l.self) (schema_of l.self).columns.items l.col) number) ≡ None
