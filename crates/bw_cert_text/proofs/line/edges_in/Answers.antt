-- Each turn reads one more pair.
use Rattle.std.proofs.Common.{◌≡◌, ◌≢◌, ◌∙◌, sym, length, arith}
use Rattle.std.proofs.lemmas.Bool.{eqb-true, eqb-false}
use Rattle.bw_cert_text.proofs.EdgeLemmas.{edges-first, edges-second, edges-next, edges-all}
use Rattle.bw_cert_text.proofs.EdgeLemmas.{edges-half}
use Rattle.bw_cert_text.proofs.line.edges_in.Goals as goal

pub returns-in_default-natural_number : goal.returns-in_default-natural_number
returns-in_default-natural_number c =
    sym (edges-first c.loop-rest.rest.now _ c.loop-rest.edges.items _ c.loop-rest.invariant c.in-len2-up.len_at_least
    (sym c.natural_number.ensures ∙ c.in_default-natural_number.is))

pub returns-in_default-natural_number-2 : goal.returns-in_default-natural_number-2
returns-in_default-natural_number-2 c =
    sym (edges-second c.loop-rest.rest.now _ c.loop-rest.edges.items _ _ c.loop-rest.invariant c.in-len2-up.len_at_least
    (sym c.natural_number.ensures ∙ c.in-Some.is) (sym c.natural_number-in-len2-up.ensures ∙ c.in_default-natural_number-2.is))

pub loop-rest-preserved : goal.loop-rest-preserved
loop-rest-preserved c =
    edges-next c.loop-rest.rest.now _ c.loop-rest.edges.items _ _ _ _ c.loop-rest.invariant c.in-len2-up.len_at_least
    (sym c.natural_number.ensures ∙ c.in-Some.is) (sym c.natural_number-in-len2-up.ensures ∙ c.in-Some-natural_number.is) c.in_ok-push.ensures.items

pub returns-then-is_empty : goal.returns-then-is_empty
returns-then-is_empty c =
    edges-all c.loop-rest.rest.now c.loop-rest.edges.items _ c.loop-rest.invariant (eqb-true _ _ (sym c.is_empty.ensures ∙ c.if-is_empty.true))

pub returns-else-is_empty : goal.returns-else-is_empty
returns-else-is_empty c =
    let some : length c.loop-rest.rest.now ≢ 0 = eqb-false _ _ (sym c.is_empty.ensures ∙ c.if-is_empty.false) in
    let one : length c.loop-rest.rest.now ≡ 1 = omega (arith, some, c.in_default.len_below) in
    sym (edges-half c.loop-rest.rest.now c.loop-rest.edges.items _ c.loop-rest.invariant one)
