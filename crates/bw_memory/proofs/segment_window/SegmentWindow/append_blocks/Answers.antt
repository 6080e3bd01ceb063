-- The blocks that were read follow those before.
use Rattle.std.proofs.Common.{◌∙◌, sym, ap, subst, ℕ, ◌+◌, List, ◌++◌}
use Rattle.bw_model.proofs.ErrLemmas.{err_passed_on}
use Rattle.bw_memory.specs.Columnar.{AreFirstBlocks}
use Rattle.bw_memory.specs.MemoryTable.{segments_in}
use Rattle.bw_memory.proofs.AppendedBlocks.{blocks_added, part_refused}
use Rattle.bw_memory.proofs.segment_window.SegmentWindow.append_blocks.Goals as goal

pub returns-in_err-read_blocks-clause-refused : goal.returns-in_err-read_blocks-clause-refused
returns-in_err-read_blocks-clause-refused g c =
    let self = c.args.self.now in
    rw (err_passed_on _ c.from_residual.ensures.1) (part_refused _ c.args.columnar.now self.first self.table c.requires.part c.args.col c.place_of-at.result c.args.blocks.now.items c.in_err-read_blocks.field-0.0
    c.place_of-at.ensures.place c.requires.before c.in_err-read_blocks.ensures.refused)

pub returns-clause-added : goal.returns-clause-added
returns-clause-added g c =
    let self = c.args.self.now in
    let read = c.in_ok-read_blocks.ensures in
    let known = (g.D.RandomAccess.state c.args.device.now).known in
    let added = blocks_added known c.args.columnar.now self.first self.table c.requires.part c.args.col c.place_of-at.result c.args.blocks.now.items c.read_blocks.new.blocks.items c.place_of-at.ensures.place c.requires.before read.long read.valid read.filled in
    subst (AreFirstBlocks known c.args.columnar.now c.args.col (self.first + segments_in self.table)) (sym (c.in_ok-extend_from_slice.ensures.items ∙ ap (λ (l : List ℕ). c.args.blocks.now.items ++ l) c.deref.ensures.value)) added
