use Rattle.std.proofs.Common.{◌∙◌, ◌+◌, ap, ap₂, take, slice_range}
use Rattle.bw_segment.specs.declared.placement.Placement.{Placement}
use Rattle.bw_segment.specs.Packing.{bytes_before}
use Rattle.bw_segment.proofs.FrontLemmas.{if_some}
use Rattle.bw_segment.proofs.PackedLemmas.{slice_is_block}
use Rattle.bw_segment.proofs.packed.PackedSegment.front.Goals as goal

pub front-requires : goal.front-requires
front-requires g c =
    let packing = g.L.CodeLayout.packing in
    let segment = c.args.self.now in
    let start = c.start-start.ensures ∙ ap (λ (placement : Placement). bytes_before packing placement.schema.columns.items c.args.col) c.deref-placement.ensures in
    let end = c.start-end.ensures ∙ ap (λ (placement : Placement). bytes_before packing placement.schema.columns.items (c.args.col + 1)) c.deref-placement.ensures in
    rw (start, end) (segment.held c.args.col c.requires)

pub returns-clause-front : goal.returns-clause-front
returns-clause-front g c =
    let packing = g.L.CodeLayout.packing in
    let segment = c.args.self.now in
    let bytes = g.B.Blocks.bytes segment.bytes in
    let start = c.start-start.ensures ∙ ap (λ (placement : Placement). bytes_before packing placement.schema.columns.items c.args.col) c.deref-placement.ensures in
    let end = c.start-end.ensures ∙ ap (λ (placement : Placement). bytes_before packing placement.schema.columns.items (c.args.col + 1)) c.deref-placement.ensures in
    if_some c.front.result _ _ (λ front is. is ∙ ap (take 64) (ap₂ (slice_range bytes) start end ∙ slice_is_block packing segment.placement.value.schema.columns.items bytes c.args.col)) c.front.ensures.front
