-- What has been cut so far goes before what is cut of the rest.
use Rattle.std.proofs.Common.{subst, ◌<◌, ◌-◌, Some, None, [], length, arith, sym, ◌∙◌, append-nil}
use Rattle.std.proofs.lemmas.Bool.{eqb-true, eqb-false}
use Rattle.bw_sql.specs.Cut.{IsCut, stopped}
use Rattle.bw_sql.proofs.Cuts.{ended_at, shrinks, cut_step, spots_push}
use Rattle.bw_sql.proofs.lexer.lex.Goals as goal

pub returns-in_default : goal.returns-in_default
returns-in_default c =
    let n = length c.args.text.now - length c.loop-rest.rest.now in
    let ne = eqb-false (length c.loop-rest.rest.now) 0 (sym c.is_empty.ensures ∙ c.loop-rest-test.true) in
    let some : 0 < length c.loop-rest.rest.now = omega arith in
    rw append-nil at (c.loop-rest.invariant.so_far [] (Some n) (stopped some c.in_default.ensures))

pub returns : goal.returns
returns c =
    let none = eqb-true (length c.loop-rest.rest.now) 0 (sym c.is_empty.ensures ∙ c.loop-rest-test.false) in
    rw append-nil at (c.loop-rest.invariant.so_far [] None (ended_at _ _ none))

pub loop-rest-preserved-in_ok-push : goal.loop-rest-preserved-in_ok-push
loop-rest-preserved-in_ok-push c =
    let longest = rw c.in-Token.is at c.in-Some.ensures in
    record {
      shorter = omega (arith, shrinks _ _ _ longest);
      so_far = λ tokens stop cut.
          subst (λ spots. IsCut 0 c.args.text.now spots stop) (sym (spots_push c.loop-rest.tokens.items c.push.new.self.items _ tokens c.in_ok-push.ensures.items))
          (c.loop-rest.invariant.so_far _ stop (cut_step _ _ _ tokens stop _ c.loop-rest.invariant.shorter longest cut));
    }

pub loop-rest-preserved : goal.loop-rest-preserved
loop-rest-preserved c =
    let longest = rw c.in_default-piece.is at c.in-Some.ensures in
    record {
      shorter = omega (arith, shrinks _ _ _ longest);
      so_far = λ tokens stop cut. c.loop-rest.invariant.so_far tokens stop (cut_step _ _ _ tokens stop _ c.loop-rest.invariant.shorter longest cut);
    }
