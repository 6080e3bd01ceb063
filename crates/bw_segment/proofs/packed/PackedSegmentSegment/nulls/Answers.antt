use Rattle.std.proofs.Common.{◌∙◌, ap₂, List, ℕ}
use Rattle.bw_segment.specs.Packing.{block_nulls}
use Rattle.bw_segment.specs.declared.placement.Placement.{Placement}
use Rattle.bw_segment.proofs.FrontLemmas.{nulls_in_front}
use Rattle.bw_segment.proofs.PackedLemmas.{nulls_held}
use Rattle.bw_segment.proofs.packed.PackedSegmentSegment.nulls.Goals as goal

pub returns-in-Some : goal.returns-in-Some
returns-in-Some g c =
    c.nulls_in.ensures ∙ ap₂ (λ (placement : Placement) (block : List ℕ). block_nulls placement.schema.columns.items c.args.col block) c.deref.ensures c.in-Some.ensures.front
    ∙ nulls_in_front c.args.self.now.placement.value.schema.columns.items c.args.col _ ∙ nulls_held c.args.self.now.packed c.args.col c.requires

pub returns-in-None : goal.returns-in-None
returns-in-None g c =
    c.nulls_in-in-None.ensures ∙ ap₂ (λ (placement : Placement) (block : List ℕ). block_nulls placement.schema.columns.items c.args.col block) c.deref-in-None.ensures c.block.ensures.block
    ∙ nulls_held c.args.self.now.packed c.args.col c.requires
