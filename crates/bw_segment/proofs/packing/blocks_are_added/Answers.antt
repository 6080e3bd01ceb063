use Rattle.bw_segment.proofs.LayoutLemmas.{block_added}
use Rattle.bw_segment.proofs.packing.blocks_are_added.Goals as goal

pub returns : goal.returns
returns c = block_added
