-- What is certified has no error, and is certified in one way.
use Rattle.bw_cert.proofs.VerdictLemmas.{accepted_from}
use Rattle.bw_cert.proofs.certified_file.check_file.Goals as goal

pub returns-clause-accepted : goal.returns-clause-accepted
returns-clause-accepted c = λ same program certificate trees is.
    let columns = c.args.schema.now.columns.items in
    let condition = c.args.condition.now in
    let file = c.args.file.now in
    accepted_from columns file condition same program certificate
    (λ next other as_well. c.one_verdict.ensures.certified columns same condition file program next certificate other is as_well)
    (λ fault refused. c.one_verdict.ensures.none_certified columns same condition file program certificate fault trees is refused)
    c.check_parts.result c.check_parts.ensures.valid c.check_parts.ensures.fault
