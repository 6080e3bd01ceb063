use Rattle.std.proofs.Common.{arith, ◌≤◌}
use Rattle.bw_rowwise.proofs.TotalLemmas.{small_below}
use Rattle.bw_rowwise.proofs.accumulator.Accumulator.add_total.Goals as goal

pub combine_totals-self-inside-requires-clause-within_limit : goal.combine_totals-self-inside-requires-clause-within_limit
combine_totals-self-inside-requires-clause-within_limit c = small_below c.self.inside.rows 16777216 c.self.inside.total c.self.invariant.0 c.self.invariant.1

pub combine_totals-self-inside-requires-clause-others : goal.combine_totals-self-inside-requires-clause-others
combine_totals-self-inside-requires-clause-others c =
    let room = c.requires.capacity in
    let few : c.args.count ≤ 16777216 = omega (arith, room) in
    small_below c.args.count 16777216 c.args.others few c.requires.small
