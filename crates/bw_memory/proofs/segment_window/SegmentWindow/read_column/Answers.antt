-- The blocks are those of the file.
use Rattle.bw_memory.proofs.WindowLemmas.{window_block}
use Rattle.bw_memory.proofs.segment_window.SegmentWindow.read_column.Goals as goal

pub returns-clause-read : goal.returns-clause-read
returns-clause-read g c = λ number there.
    let self = c.args.self.now in
    let read = c.in_ok-read_blocks.ensures in
    window_block _ c.args.columnar.now self.first self.table c.requires.part c.args.col _ number _ _ c.place_of-at.ensures.place read.long there read.filled (c.replace_column-before.ensures.column number there)
