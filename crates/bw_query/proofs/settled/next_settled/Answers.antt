-- The segment that was found isn't the first one, if that one isn't settled.
use Rattle.std.proofs.Common.{◌≡◌, ◌∙◌, sym, ap, inl, inr, true, false, arith}
use Rattle.std.proofs.lemmas.Bool.{cases_lt}
use Rattle.bw_query.specs.Settled.{is_settled}
use Rattle.bw_query.proofs.settled.next_settled.Goals as goal

pub returns-then-is_settled-clause-some : goal.returns-then-is_settled-clause-some
returns-then-is_settled-clause-some c = λ lt un. elim (cases_lt c.args.number c.loop-next.next) [
  | inl before ↦ before
  | inr last ↦ absurd (let same : c.loop-next.next ≡ c.args.number = omega arith in let e : true ≡ false = sym c.if-is_settled.true ∙ c.is_settled.ensures ∙ ap (is_settled c.args.settled.now) same ∙ un in cc e)
]
