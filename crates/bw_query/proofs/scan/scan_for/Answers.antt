-- A program file that is accepted is rejected only if memory runs out.
use Rattle.bw_model.proofs.ErrLemmas.{err_passed_on, memory_is}
use Rattle.bw_query.proofs.ScanLemmas.{only_memory}
use Rattle.bw_query.proofs.scan.scan_for.Goals as goal

pub returns-in_err-check_file-in-Some-clause-accepted : goal.returns-in_err-check_file-in-Some-clause-accepted
returns-in_err-check_file-in-Some-clause-accepted g =
    let fault = g.in_err-check_file-in-Some.field-0.0 in
    rw (err_passed_on _ g.from_residual.ensures.1) (λ same tree usable.
    let given = rw g.in-Some.is at usable in
    memory_is fault (only_memory fault (λ own. cc (g.in_err-check_file-in-Some.ensures.accepted same given.0 given.1 tree given.2 own))))
