-- A file that is rejected isn't accepted.
use Rattle.std.proofs.Common.{◌≡◌, false, refl, rules}
use Rattle.bw_model.specs.Fault.{is_memory}
use Rattle.bw_query.proofs.scan.certify_by_file.Goals as goal

pub returns-in-Err-2-clause-found : goal.returns-in-Err-2-clause-found
returns-in-Err-2-clause-found c = λ usable.
    let own : is_memory c.in-Err-2.field-0 ≡ false = search rules in
    cc (c.in-Err-2.ensures.accepted c.args.cond.now usable.0 usable.1 refl usable.2 own)
