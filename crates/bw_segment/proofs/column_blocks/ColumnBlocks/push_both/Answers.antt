-- The first bytes of the block come after those of the blocks before it.
use Rattle.std.proofs.Common.{arith, is_ok, length-take}
use Rattle.bw_segment.proofs.FrontLemmas.{fronts_pushed}
use Rattle.bw_segment.proofs.column_blocks.ColumnBlocks.push_both.Goals as goal

pub slice_bounds-extend_from_slice-end : goal.slice_bounds-extend_from_slice-end
slice_bounds-extend_from_slice-end c = omega (arith, c.requires.size, c.requires.capacity, length-take 64 c.args.block.now)

pub invariant_of-self-2 : goal.invariant_of-self-2
invariant_of-self-2 c =
    let old = c.args.self.now in
    record {
      same = fronts_pushed old.stride old.size old.bytes.items c.args.block.now old.fronts.items _ _ _ (is_ok c.extend_from_slice-2.result) c.requires.dense old.same c.requires.all c.requires.size c.requires.capacity
          c.in_ok-make_room.ensures.same c.in_ok-extend_from_slice.ensures.items c.extend_from_slice-2.ensures.items;
    }
