-- Each column has the block of no rows.
use Rattle.bw_segment.specs.ColumnBlocks.{AreBlank}
use Rattle.bw_segment.proofs.ColumnBlockLemmas.{blank_numbered}
use Rattle.bw_file.specs.Blocks.{form_of}
use Rattle.bw_file.proofs.SegmentLemmas.{is_packing}
use Rattle.bw_memory.proofs.ColumnarLemmas.{unread_cut, unread_stored}
use Rattle.bw_memory.proofs.table.MemoryTable.blank.Goals as goal

pub invariant_of-result : goal.invariant_of-result
invariant_of-result c =
    let columns = c.args.placement.value.schema.columns.items in
    let items = c.in_ok-columns.columns.items in
    let blank : AreBlank (form_of c.args.layout) columns items = rw c.deref.ensures at c.in_ok-columns.ensures.blank in
    record {
      placed = c.requires.placed;
      within_limit = c.requires.rows;
      kept = unread_stored c.args.layout columns c.args.rows items blank;
      cut = unread_cut c.args.layout columns c.args.rows items blank;
    }

pub returns-clause-blank : goal.returns-clause-blank
returns-clause-blank c = λ column lt number there.
    let columns = c.args.placement.value.schema.columns.items in
    let items = c.in_ok-columns.columns.items in
    let blank : AreBlank (form_of c.args.layout) columns items = rw c.deref.ensures at c.in_ok-columns.ensures.blank in
    blank_numbered (form_of c.args.layout) (is_packing c.args.layout) columns items blank number column lt
