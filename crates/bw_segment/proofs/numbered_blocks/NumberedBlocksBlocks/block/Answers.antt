-- The block is at its place.
use Rattle.std.proofs.Common.{◌∙◌, ap, ℕ, ◌+◌, ◌*◌, List, length, get_or, slice_range, rules, arith}
use Rattle.bw_segment.proofs.ColumnBlockLemmas.{block_read, is_column, room_read}
use Rattle.bw_segment.proofs.numbered_blocks.NumberedBlocksBlocks.block.Goals as goal

pub offset_bounds-self-col : goal.offset_bounds-self-col
offset_bounds-self-col c = let there = is_column _ _ _ _ _ c.requires in search rules

pub bounds-self-col : goal.bounds-self-col
bounds-self-col c = is_column _ _ _ _ _ c.requires

pub overflow_mul-start : goal.overflow_mul-start
overflow_mul-start c = omega (arith, room_read _ _ _ _ _ c.requires c.index-self-col.result, ap length c.deref-bytes.ensures.value)

pub overflow_add-result : goal.overflow_add-result
overflow_add-result c = omega (arith, room_read _ _ _ _ _ c.requires c.index-self-col.result, ap length c.deref-bytes.ensures.value)

pub slice_bounds-result-end : goal.slice_bounds-result-end
slice_bounds-result-end c = omega (arith, room_read _ _ _ _ _ c.requires c.index-self-col.result, ap length c.deref-bytes.ensures.value)

pub returns : goal.returns
returns c =
    let column = get_or c.args.self.now.columns.now c.args.col c.index-self-col.result in
    let size = column.size in
    let start = c.args.self.now.number * column.stride in
    ap (λ (l : List ℕ). slice_range l start (start + size)) c.deref-bytes.ensures.value ∙ block_read _ _ _ _ _ c.requires c.index-self-col.result
