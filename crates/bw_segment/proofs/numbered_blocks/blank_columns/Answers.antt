-- One column more has the block of no rows.
use Rattle.std.proofs.Common.{[], ℕ, arith}
use Rattle.bw_segment.specs.declared.column_blocks.ColumnBlocks.{ColumnBlocks}
use Rattle.bw_segment.specs.Packing.{block_bytes, block_size}
use Rattle.bw_segment.proofs.ColumnBlockLemmas.{are_blank, mapped_more}
use Rattle.bw_segment.proofs.numbered_blocks.blank_columns.Goals as goal

pub loop-col-preserved : goal.loop-col-preserved
loop-col-preserved g c =
    let packing = g.L.CodeLayout.packing in
    let columns = c.args.placement.now.schema.columns.items in
    let old = c.loop-col.kept.items in
    let col = c.loop-col.col in
    let new = c.in_ok-blank_blocks.field-0 in
    let items = c.in_ok-push.ensures.items in
    let made = c.in_ok-blank_blocks.ensures in
    record {
      sizes = mapped_more (λ (blocks : ColumnBlocks). blocks.size) (block_size packing columns) old _ new col items c.loop-col.invariant.sizes made.size;
      strides = mapped_more (λ (blocks : ColumnBlocks). blocks.stride) (λ (column : ℕ). 0) old _ new col items c.loop-col.invariant.strides made.stride;
      bytes = mapped_more (λ (blocks : ColumnBlocks). blocks.bytes.items) (λ (column : ℕ). block_bytes packing columns column []) old _ new col items c.loop-col.invariant.bytes made.bytes;
    }

pub returns-clause-blank : goal.returns-clause-blank
returns-clause-blank g c =
    are_blank g.L.CodeLayout.packing c.args.placement.now.schema.columns.items c.loop-col.kept.items c.loop-col.col (omega (arith, c.len-col-end.ensures))
    c.loop-col.invariant.sizes c.loop-col.invariant.strides c.loop-col.invariant.bytes
