-- Each block is where a segment of the layout has it.
use Rattle.bw_segment.proofs.ColumnBlockLemmas.{stands}
use Rattle.bw_segment.proofs.numbered_blocks.PackedSegment+L+NumberedBlocks.of_columns.Goals as goal

pub of_held_blocks-requires-clause-held : goal.of_held_blocks-requires-clause-held
of_held_blocks-requires-clause-held g c =
    stands g.L.CodeLayout.packing c.args.placement.value.schema.columns.items c.requires.kept.0 c.args.columns.now c.requires.kept.2 c.args.number c.requires.kept.1
