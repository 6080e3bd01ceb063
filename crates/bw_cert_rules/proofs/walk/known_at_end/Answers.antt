-- The lines of one instruction after another.
use Rattle.std.proofs.Common.{◌∙◌, refl, sym, ap, ◌+◌, [], arith}
use Rattle.bw_cert_rules.specs.Join.{edge_of, with_edge}
use Rattle.bw_cert_rules.specs.Known.{nothing_known}
use Rattle.bw_cert_rules.proofs.EdgeLemmas.{suc-is}
use Rattle.bw_cert_rules.proofs.WalkLemmas.{walked_on, walked_refused, walked_end}
use Rattle.bw_cert_rules.proofs.walk.known_at_end.Goals as goal
use Rattle.bw_model.proofs.ErrLemmas.{err_passed_on}

pub loop-number-init : goal.loop-number-init
unfolding nothing_known
loop-number-init c = record {
  walking = record { edges = []; holds = c.in_ok-edges.ensures.1; told = refl };
  room = c.in_ok-edges.ensures.0 ∙ ap (λ n. n + 1) c.len.ensures.count;
}

pub returns-in_err-rest-clause-checked : goal.returns-in_err-rest-clause-checked
returns-in_err-rest-clause-checked c =
    let walking = c.loop-number.invariant.walking in
    rw (err_passed_on _ c.from_residual-in_err-rest.ensures.1) (λ _. walking.told ∙ walked_refused _ _ _ _ _ _ _ _ c.instr-instr.ensures.instr c.in_err-rest.ensures.fault)

pub returns-in_err-rest-2-clause-checked : goal.returns-in_err-rest-2-clause-checked
returns-in_err-rest-2-clause-checked c =
    let walking = c.loop-number.invariant.walking in
    let holds = c.in_ok-add.ensures.holds walking.edges walking.holds in
    rw (err_passed_on _ c.from_residual-in_err-rest-2.ensures.1) (λ _. walking.told ∙ walked_on _ _ _ _ _ _ _ _ _ _ _ c.instr-instr.ensures.instr c.in_ok-rest.ensures.taken (sym (suc-is c.loop-number.number))
    (c.into_place.ensures _ holds) c.in_err-rest-2.ensures.fault)

pub loop-number-preserved : goal.loop-number-preserved
loop-number-preserved c =
    let walking = c.loop-number.invariant.walking in
    let holds = c.in_ok-add.ensures.holds walking.edges walking.holds in
    record {
      walking = record {
        edges = with_edge walking.edges (edge_of c.loop-number.known c.instr-instr.result);
        holds = holds;
        told = walking.told ∙ walked_on _ _ _ _ _ _ _ _ _ _ _ c.instr-instr.ensures.instr c.in_ok-rest.ensures.taken (sym (suc-is c.loop-number.number))
            (c.into_place.ensures _ holds) c.in_ok-rest-2.ensures.taken;
      };
      room = c.add.ensures.capacity ∙ c.loop-number.invariant.room;
    }

pub returns-clause-checked : goal.returns-clause-checked
returns-clause-checked c = c.loop-number.invariant.walking.told ∙ walked_end _ _ _ _ _ _ (omega (arith, c.loop-number-test.false, c.len-number-end.ensures.count))
