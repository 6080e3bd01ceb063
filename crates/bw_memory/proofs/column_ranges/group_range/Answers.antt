-- One segment more is in the range.
use Rattle.std.proofs.Common.{subst, ℕ, ◌*◌, arith}
use Rattle.bw_segment.specs.Meaning.{Meaning}
use Rattle.bw_memory.specs.MemoryTable.{meaning_numbered}
use Rattle.bw_memory.specs.Ranges.{HasRange}
use Rattle.bw_memory.proofs.RangeLemmas.{segment_more}
use Rattle.bw_memory.proofs.column_ranges.group_range.Goals as goal

pub loop-number-preserved : goal.loop-number-preserved
loop-number-preserved g c =
    let so_far = c.loop-number.invariant in
    let here = subst (λ (m : Meaning). HasRange c.segment_range.result c.args.col m.rows) c.in_ok-segment-2.ensures.means c.segment_range.ensures in
    record {
      from = omega (arith, so_far.from);
      range = segment_more (λ (n : ℕ). (meaning_numbered c.args.table.now n).rows) c.args.col (c.args.group * 4) c.loop-number.number c.loop-number.range c.segment_range.result c.hull-range.result so_far.range here c.hull-range.ensures;
    }
