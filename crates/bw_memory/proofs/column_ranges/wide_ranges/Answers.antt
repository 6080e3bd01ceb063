-- One wide group more.
use Rattle.std.proofs.Common.{subst, sym, arith}
use Rattle.bw_memory.specs.Ranges.{HasRangeInGroup}
use Rattle.bw_memory.proofs.RangeLemmas.{one_more_range}
use Rattle.bw_memory.proofs.column_ranges.wide_ranges.Goals as goal

pub loop-number-preserved : goal.loop-number-preserved
loop-number-preserved c =
    let so_far = c.loop-number.invariant in
    let range = c.wide_range.result in
    record {
      each = omega (arith, c.in_ok-push.ensures.len, so_far.each);
      wide = λ table column are.
          one_more_range 64 table column c.loop-number.wide.items c.push.new.self.items range c.in_ok-push.ensures.items (so_far.wide table column are)
          (subst (λ n. HasRangeInGroup 64 table n column range) (sym so_far.each) (c.wide_range.ensures table column are));
    }
