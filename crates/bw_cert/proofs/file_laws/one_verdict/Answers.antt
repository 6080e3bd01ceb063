-- The parts of a file have the same lines, wherever it is cut, and texts are read by their lines.
use Rattle.bw_cert.proofs.VerdictLemmas.{Laws, one_way, no_fault, one_fault}
use Rattle.bw_cert.proofs.file_laws.one_verdict.Goals as goal

pub returns : goal.returns
returns c =
    let laws : Laws = record { judged = c.certificates_are_checked_by_their_fields.ensures; valid = c.valid_exactly_where_checked.ensures.complete } in
    record {
      certified = λ columns cond same file. one_way columns file cond same;
      none_certified = λ columns cond same file. no_fault laws columns file cond same;
      fault = λ columns cond same file. one_fault laws columns file cond same;
    }
