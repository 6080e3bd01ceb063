use Rattle.std.proofs.Common.{◌≡◌, ◌+◌, ◌*◌, ◌≤◌}
use Rattle.bw_file.specs.Blocks.{bytes_before}
use Rattle.bw_memory.specs.Columnar.{head_size, table_in}
use Rattle.bw_memory.specs.MemoryTable.{layout_of, schema_of, segments_in}
use Rattle.bw_memory.proofs.columnar.ColumnarTable.place_of.Given as goal

-- the blocks of the columns so far
abbrev pub invariant-loop-before : goal.invariant-loop-before
invariant-loop-before l = record {
  place : l.at ≡ head_size l.self + segments_in (table_in l.self) * bytes_before (layout_of (table_in l.self)) (schema_of (table_in l.self)).columns.items l.before;
  small : bytes_before (layout_of (table_in l.self)) (schema_of (table_in l.self)).columns.items l.before ≤ 4160 * l.before;
}
