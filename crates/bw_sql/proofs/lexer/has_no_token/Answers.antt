-- What is left after a gap has no token if the text has none.
use Rattle.std.proofs.Common.{refl, ◌<◌, None, [], length, arith, sym, ◌∙◌}
use Rattle.std.proofs.lemmas.Bool.{eqb-true, eqb-false}
use Rattle.bw_sql.proofs.Cuts.{bare_after, cut_step, ended_at, none_first, shrinks, token_first}
use Rattle.bw_sql.proofs.lexer.has_no_token.Goals as goal

pub returns-in_default : goal.returns-in_default
returns-in_default c =
    let ne = eqb-false (length c.loop-rest.rest.now) 0 (sym c.is_empty.ensures ∙ c.loop-rest-test.true) in
    let some : 0 < length c.loop-rest.rest.now = omega arith in
    ((λ no. absurd (cc no)), (λ bare. absurd (none_first _ _ (c.loop-rest.invariant.of_text bare) some c.in_default.ensures)))

pub returns-in-Token : goal.returns-in-Token
returns-in-Token c =
    let longest = rw c.in-Token.is at c.in-Some.ensures in
    ((λ no. absurd (cc no)), (λ bare. absurd (token_first _ _ _ _ (c.loop-rest.invariant.of_text bare) longest)))

pub returns : goal.returns
returns c =
    let none = eqb-true (length c.loop-rest.rest.now) 0 (sym c.is_empty.ensures ∙ c.loop-rest-test.false) in
    ((λ yes. c.loop-rest.invariant.of_rest (ended_at _ _ none)), (λ bare. refl))

pub loop-rest-preserved : goal.loop-rest-preserved
loop-rest-preserved c =
    let longest = rw c.in_default-piece.is at c.in-Some.ensures in
    record {
      shorter = omega (arith, shrinks _ _ _ longest);
      of_rest = λ cut. c.loop-rest.invariant.of_rest (cut_step _ _ _ [] None _ c.loop-rest.invariant.shorter longest cut);
      of_text = λ bare. bare_after _ _ _ c.loop-rest.invariant.shorter longest (c.loop-rest.invariant.of_text bare);
    }
