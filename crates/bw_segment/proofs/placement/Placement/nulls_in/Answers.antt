use Rattle.std.proofs.Common.{◌∙◌, sym, ap, cond, false, take, replicate}
use Rattle.bw_lanes.specs.Lanes.{lanes_of_bytes}
use Rattle.bw_lanes.proofs.WordLemmas.{zeros_are_zero}
use Rattle.bw_model.specs.Groups.{group_size}
use Rattle.bw_segment.specs.Packing.{block_nulls}
use Rattle.bw_segment.proofs.PlacementLemmas.{nullable_read}
use Rattle.bw_segment.proofs.placement.Placement.nulls_in.Goals as goal

pub returns-else-index : goal.returns-else-index
unfolding block_nulls group_size
returns-else-index c =
    let never = nullable_read c.args.self.now.schema.columns.items c.args.col c.index.result.now c.requires.column c.index.ensures ∙ c.if-index.false in
    zeros_are_zero ∙ sym (ap (λ b. cond b (lanes_of_bytes (take 64 c.args.block.now)) (replicate 512 false)) never)
