use Rattle.std.proofs.Common.{◌∙◌, ap}
use Rattle.bw_model.specs.Code.{width_at}
use Rattle.bw_segment.specs.declared.placement.Placement.{Placement}
use Rattle.bw_segment.proofs.PackedLemmas.{codes_held, codes_small, length-kept}
use Rattle.bw_segment.proofs.packed.PackedSegment.column_codes.Goals as goal

pub returns-clause-size : goal.returns-clause-size
returns-clause-size g c =
    let width = c.width-width.ensures.width ∙ ap (λ (placement : Placement). width_at placement.schema.columns.items c.args.col) c.deref-placement.ensures in
    length-kept c.args.self.now.packed c.args.col c.width-width.result c.size.result c.block-block.result.now c.requires width c.size.ensures.size c.block-block.ensures.block

pub returns-clause-lanes : goal.returns-clause-lanes
returns-clause-lanes g c =
    let width = c.width-width.ensures.width ∙ ap (λ (placement : Placement). width_at placement.schema.columns.items c.args.col) c.deref-placement.ensures in
    codes_held c.args.self.now.packed c.args.col c.width-width.result c.size.result c.block-block.result.now c.requires width c.size.ensures.size c.block-block.ensures.block

pub returns-clause-small : goal.returns-clause-small
returns-clause-small g c =
    let width = c.width-width.ensures.width ∙ ap (λ (placement : Placement). width_at placement.schema.columns.items c.args.col) c.deref-placement.ensures in
    codes_small c.args.self.now.packed c.args.col c.width-width.result c.size.result c.block-block.result.now c.requires width c.size.ensures.size c.block-block.ensures.block
