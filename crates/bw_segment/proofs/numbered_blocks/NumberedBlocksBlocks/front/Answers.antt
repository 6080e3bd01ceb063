-- They are those of the block at its place.
use Rattle.std.proofs.Common.{◌∙◌, ◌*◌, get_or, rules}
use Rattle.bw_segment.proofs.ColumnBlockLemmas.{block_read, is_column}
use Rattle.bw_segment.proofs.FrontLemmas.{front_is, if_some}
use Rattle.bw_segment.proofs.numbered_blocks.NumberedBlocksBlocks.front.Goals as goal

pub offset_bounds-self-col : goal.offset_bounds-self-col
offset_bounds-self-col c = let there = is_column _ _ _ _ _ c.requires in search rules

pub bounds-self-col : goal.bounds-self-col
bounds-self-col c = is_column _ _ _ _ _ c.requires

pub returns-clause-front : goal.returns-clause-front
returns-clause-front c =
    let column = get_or c.args.self.now.columns.now c.args.col c.index-self-col.result in
    if_some c.front.result _ _ (λ front is. is ∙ front_is column.size (c.args.self.now.number * column.stride) column.bytes.items _ (block_read _ _ _ _ _ c.requires c.index-self-col.result)) c.front.ensures.front
