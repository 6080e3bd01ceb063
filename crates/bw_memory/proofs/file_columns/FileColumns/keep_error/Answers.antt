-- One column more is damaged.
use Rattle.std.proofs.Common.{refl, arith}
use Rattle.bw_memory.proofs.FileColumnsLemmas.{blank_still, have_still, one_more_damaged}
use Rattle.bw_memory.proofs.file_columns.FileColumns.keep_error.Goals as goal

pub invariant_of-self-clause-have : goal.invariant_of-self-clause-have
invariant_of-self-clause-have g c =
    have_still (g.D.RandomAccess.state c.args.self.now.device).known c.args.self.now.columnar c.args.column c.args.self.now.states.items (omega (arith, c.requires.column, c.args.self.now.all)) c.args.fault c.args.self.now.have

pub invariant_of-self-clause-blank : goal.invariant_of-self-clause-blank
invariant_of-self-clause-blank g c =
    blank_still (g.D.RandomAccess.state c.args.self.now.device).known c.args.self.now.columnar c.args.column c.args.self.now.states.items (omega (arith, c.requires.column, c.args.self.now.all)) c.args.fault c.requires.unread c.args.self.now.blank

pub invariant_of-self-clause-damage : goal.invariant_of-self-clause-damage
invariant_of-self-clause-damage g c =
    one_more_damaged (g.D.RandomAccess.state c.args.self.now.device).known c.args.self.now.columnar c.args.column c.args.self.now.states.items (omega (arith, c.requires.column, c.args.self.now.all)) c.args.fault
    ∣ (c.args.self.now.columnar, refl, c.requires.there) ∣₁ c.requires.table c.requires.damage c.args.self.now.damage
