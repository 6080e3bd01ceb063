use Rattle.std.proofs.Common.{◌≡◌, map}
use Rattle.std.specs.List.{range_with_len}
use Rattle.bw_segment.specs.declared.column_blocks.ColumnBlocks.{ColumnBlocks}
use Rattle.bw_segment.specs.Packing.{block_size}
use Rattle.bw_segment.proofs.ColumnBlockLemmas.{no_bytes}
use Rattle.bw_segment.proofs.numbered_blocks.no_blocks.Given as goal

-- the columns so far have no block
abbrev pub invariant-loop-col : goal.invariant-loop-col
invariant-loop-col g l = record {
  sizes : map (λ (blocks : ColumnBlocks). blocks.size) l.kept.items ≡ map (block_size g.L.CodeLayout.packing l.placement.schema.columns.items) (range_with_len 0 l.col);
  strides : map (λ (blocks : ColumnBlocks). blocks.stride) l.kept.items ≡ map (block_size g.L.CodeLayout.packing l.placement.schema.columns.items) (range_with_len 0 l.col);
  none : map (λ (blocks : ColumnBlocks). blocks.bytes.items) l.kept.items ≡ map no_bytes (range_with_len 0 l.col);
}
