use Rattle.bw_shell.proofs.TextLemmas.{numbers_told, never_told}
use Rattle.bw_shell.proofs.check_call.numbers.Goals as goal
use Rattle.bw_model.proofs.ErrLemmas.{err_passed_on}

pub returns-in_err-found-clause-accepted : goal.returns-in_err-found-clause-accepted
returns-in_err-found-clause-accepted c = λ same program certificate trees is.
    rw (err_passed_on _ c.from_residual.ensures.1) (λ aside. absurd (never_told program certificate c.in_err-found.field-0.0 (c.in_err-found.ensures.accepted same program certificate trees is aside)))

pub returns-clause-accepted : goal.returns-clause-accepted
returns-clause-accepted c = λ same program certificate trees is. numbers_told program certificate c.in_ok-found.found (c.in_ok-found.ensures.accepted same program certificate trees is)
