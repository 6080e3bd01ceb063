use Rattle.std.proofs.Common.{◌∙◌, ◌+◌, ap, ap₂, length, slice_range}
use Rattle.bw_segment.specs.declared.placement.Placement.{Placement}
use Rattle.bw_segment.specs.Packing.{bytes_before}
use Rattle.bw_segment.proofs.PackedLemmas.{length-block, slice_is_block}
use Rattle.bw_segment.proofs.packed.PackedSegment.block.Goals as goal

pub block-requires : goal.block-requires
block-requires g c =
    let packing = g.L.CodeLayout.packing in
    let segment = c.args.self.now in
    let start = c.start-start.ensures ∙ ap (λ (placement : Placement). bytes_before packing placement.schema.columns.items c.args.col) c.deref-placement.ensures in
    let end = c.start-end.ensures ∙ ap (λ (placement : Placement). bytes_before packing placement.schema.columns.items (c.args.col + 1)) c.deref-placement.ensures in
    rw (start, end) (segment.held c.args.col c.requires)

pub returns-clause-block : goal.returns-clause-block
returns-clause-block g c =
    let packing = g.L.CodeLayout.packing in
    let segment = c.args.self.now in
    let bytes = g.B.Blocks.bytes segment.bytes in
    let start = c.start-start.ensures ∙ ap (λ (placement : Placement). bytes_before packing placement.schema.columns.items c.args.col) c.deref-placement.ensures in
    let end = c.start-end.ensures ∙ ap (λ (placement : Placement). bytes_before packing placement.schema.columns.items (c.args.col + 1)) c.deref-placement.ensures in
    c.block.ensures ∙ ap₂ (slice_range bytes) start end ∙ slice_is_block packing segment.placement.value.schema.columns.items bytes c.args.col

pub returns-clause-size : goal.returns-clause-size
returns-clause-size g c = ap length (returns-clause-block g c) ∙ length-block c.args.self.now.packed c.args.col c.requires
