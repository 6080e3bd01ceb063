use Rattle.std.proofs.Common.{◌^◌}
use Rattle.bw_rowwise.proofs.TotalLemmas.{small_below, tally_append}
use Rattle.bw_rowwise.proofs.accumulator.Accumulator.add.Goals as goal

pub answer_with-self-inside-requires : goal.answer_with-self-inside-requires
answer_with-self-inside-requires c =
    small_below c.self.inside.rows (2 ^ 24) c.self.inside.total c.self.invariant.0 c.self.invariant.1

pub returns-clause-total : goal.returns-clause-total
returns-clause-total c = λ rows row is before.
    tally_append c.self.inside.item c.self.inside.rows c.self.inside.total _ c.args.self.now c.args.value rows row c.self.view_is c.answer_with-self-inside.ensures.value is before
