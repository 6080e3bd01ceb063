use Rattle.std.proofs.Common.{◌≡◌, refl, sym, ◌∙◌, ap, rules, false, true}
use Rattle.bw_session.specs.StatementState.{after, is_ended}
use Rattle.bw_session.proofs.ReadingLemmas.{begun, ended, keeps_as_none, more, no_more, one_more}
use Rattle.bw_session.proofs.ReadingLemmas.{whole}
use Rattle.bw_model.proofs.ErrLemmas.{err_passed_on}
use Rattle.std.proofs.KnownBytes.{Consumes-nil}
use Rattle.bw_session.proofs.reading.next_statement.Goals as goal

pub loop-init : goal.loop-init
loop-init g c = record { reads = begun _ _ c.clear.ensures.items; count = refl }

pub returns-then-is_ended-clause-statement : goal.returns-then-is_ended-clause-statement
returns-then-is_ended-clause-statement g c =
    let came = rw c.in-Some.is at c.in_ok-byte.ensures.byte in
    let end : is_ended (after c.loop.standing c.in-Some.byte) ≡ true =
    ap is_ended (sym c.after-standing.ensures) ∙ sym c.is_ended.ensures ∙ c.if-is_ended.true in
    rw c.in_ok-store_byte.ensures (whole c.loop.invariant.reads _ came end)

pub loop-preserved : goal.loop-preserved
loop-preserved g c =
    let came = rw c.in-Some.is at c.in_ok-byte.ensures.byte in
    let goes_on : is_ended (after c.loop.standing c.in-Some.byte) ≡ false =
    ap is_ended (sym c.after-standing.ensures) ∙ sym c.is_ended.ensures ∙ c.if-is_ended.false in
    record {
      reads = rw c.in_ok-store_byte.ensures (rw c.after-standing.ensures (more c.loop.invariant.reads _ came goes_on));
      count = search rules;
    }

pub returns-in_default-clause-statement : goal.returns-in_default-clause-statement
returns-in_default-clause-statement g c =
    let came = rw c.in_default.is at c.in_ok-byte.ensures.byte in
    ended c.loop.invariant.reads came.0 came.1

pub returns-in_err-byte-clause-begun : goal.returns-in_err-byte-clause-begun
returns-in_err-byte-clause-begun g c =
    rw (err_passed_on _ c.from_residual.ensures.1) (no_more c.loop.invariant.reads _ (keeps_as_none _ _ c.in_err-byte.ensures.same))

pub returns-in_err-store_byte-clause-begun : goal.returns-in_err-store_byte-clause-begun
returns-in_err-store_byte-clause-begun g c =
    let came = rw c.in-Some.is at c.in_ok-byte.ensures.byte in
    rw (err_passed_on _ c.from_residual-in_err-store_byte.ensures.1) (one_more c.loop.invariant.reads _ c.in-Some.byte came refl)

pub returns-clause-begun : goal.returns-clause-begun
returns-clause-begun g c = no_more c.loop.invariant.reads _ (Consumes-nil _)
