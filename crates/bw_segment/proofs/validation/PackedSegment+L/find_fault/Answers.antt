use Rattle.std.proofs.Common.{◌≡◌, ◌∙◌, sym, ap, length, length-drop, arith}
use Rattle.bw_model.specs.Groups.{group_size}
use Rattle.bw_segment.specs.BlockFault.{lanes_fault, block_fault}
use Rattle.bw_segment.specs.Packing.{block_codes, null_size}
use Rattle.bw_segment.proofs.validation.PackedSegment+L.find_fault.Goals as goal

pub returns-then-are_good : goal.returns-then-are_good
unfolding block_fault block_codes
returns-then-are_good g c =
    sym (c.are_good.ensures c.if-are_good.true)
    ∙ (λ i. lanes_fault (c.span-span.ensures.span i) (sym c.if-rows-eq-LANES.true i) (c.nulls_in-nulls.ensures i) (g.L.CodeLayout.packing.codes (c.width-width.ensures.width i) (c.codes_in-codes.ensures i)))

pub fault_of_lanes-requires : goal.fault_of_lanes-requires
unfolding group_size
fault_of_lanes-requires g c = c.requires.rows

pub returns : goal.returns
unfolding block_fault block_codes
returns g c =
    let packing = g.L.CodeLayout.packing in
    let width = c.width-width in
    let bytes = c.codes_in-codes in
    let codes = packing.codes width.result bytes.result.now in
    let columns = c.args.placement.now.schema.columns.items in
    let long : length bytes.result.now ≡ packing.size width.result =
    omega (arith, ap length bytes.ensures, length-drop (null_size columns c.args.col) c.args.block.now, c.requires.size, ap packing.size width.ensures.width) in
    c.fault_of_lanes.ensures c.span-span.result codes (c.keeps_codes.ensures.codes_length width.result bytes.result.now long) c.lanes_with_code-used.ensures c.above-above.ensures
    ∙ (λ i. lanes_fault (c.span-span.ensures.span i) c.args.rows (c.nulls_in-nulls.ensures i) (packing.codes (width.ensures.width i) (bytes.ensures i)))
