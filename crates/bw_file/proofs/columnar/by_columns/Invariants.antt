use Rattle.std.proofs.Common.{◌≡◌, ◌-◌, ◌+◌, ◌/◌, ◌++◌, flat_map, length}
use Rattle.std.specs.List.{range_with_len}
use Rattle.bw_file.specs.Blocks.{bytes_before}
use Rattle.bw_file.proofs.ColumnarLemmas.{blocks_among}
use Rattle.bw_file.proofs.columnar.by_columns.Given as goal

-- the columns so far are there, and the others are to come
abbrev pub invariant-loop-col : goal.invariant-loop-col
invariant-loop-col l = record {
  put : l.file.items ++ flat_map (blocks_among l.layout l.placement.schema.columns.items l.bytes l.initial.at ((l.rows + 511) / 512)) (range_with_len l.col (length l.placement.schema.columns.items - l.col))
      ≡ l.initial.file.items ++ flat_map (blocks_among l.layout l.placement.schema.columns.items l.bytes l.initial.at ((l.rows + 511) / 512)) (range_with_len 0 (length l.placement.schema.columns.items));
  place : l.at ≡ l.initial.at + bytes_before l.layout l.placement.schema.columns.items l.col;
}
