-- Each exit, by the contracts of its calls.
use Rattle.std.proofs.Common.{subst, sym}
use Rattle.bw_model.proofs.ErrLemmas.{err_passed_on}
use Rattle.bw_model.specs.declared.fault.Fault.{Fault}
use Rattle.bw_program.specs.Program.{ProgramShape}
use Rattle.bw_program.specs.ProgramText.{IsProgramText}
use Rattle.bw_shell.specs.Certification.{IsUncertified, no_certificate, program_refused}
use Rattle.bw_shell.proofs.certify_call.certified_file.Goals as goal

pub returns-in_err-program-clause-fault : goal.returns-in_err-program-clause-fault
returns-in_err-program-clause-fault c = rw (err_passed_on _ c.from_residual.ensures.1) (λ own. program_refused c.split_file-parts.ensures.cut (c.in_err-program.ensures.fault own))

pub returns-in_err-file-clause-fault : goal.returns-in_err-file-clause-fault
returns-in_err-file-clause-fault c =
    let F : Fault → Type 0 = λ refused. IsUncertified c.args.schema.now.columns.items c.args.text.now refused in
    rw (err_passed_on _ c.from_residual-in_err-file.ensures.1) (λ own. let found = c.in_err-file.ensures.fault own in subst F (sym found.2) (no_certificate found.0 found.1 c.split_file-parts.ensures.cut c.in_ok-program.ensures.spelled))

pub returns-clause-made : goal.returns-clause-made
returns-clause-made c =
    let printed = c.in_ok-file.ensures.printed in
    let certifies = c.in_ok-file.ensures.certifies in
    let P : ProgramShape → Type 0 = λ shown. IsProgramText c.args.schema.now.columns.items c.split_file-parts.result.program.now shown in
    record {
      given = c.split_file-parts.result.program.now;
      rest = c.split_file-parts.result.certificate.now;
      first = c.split_file-parts.result.first_line;
      program = certifies.0;
      certificate = certifies.1;
      cut = c.split_file-parts.ensures.cut;
      printed = printed.printed;
      same = subst P (sym printed.shown) c.in_ok-program.ensures.spelled;
      certifies = certifies.2;
    }
