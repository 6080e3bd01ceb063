-- Each exit, by the contracts of its calls.
use Rattle.std.proofs.Common.{List, ℕ, Result, Ok, Err, subst, sym}
use Rattle.bw_model.proofs.ErrLemmas.{err_passed_on}
use Rattle.bw_model.specs.declared.fault.Fault.{Fault}
use Rattle.bw_query.proofs.TableExits.{refused, unplanned_writes_nothing, went}
use Rattle.bw_shell.specs.Plan.{IsPlanFault, text_refused, unplanned}
use Rattle.bw_shell.proofs.plan_call.plan_text.Goals as goal

pub returns-in_err-parsed : goal.returns-in_err-parsed
returns-in_err-parsed g c =
    let given : Result (List ℕ) Fault = Err c.in_err-parsed.field-0.0 in
    rw (err_passed_on _ c.from_residual.ensures.1) (record { planned = (given, λ own. text_refused (c.in_err-parsed.ensures.fault own), refused (Unit {0}) _ _ c.in_err-parsed.ensures.code) })

pub returns-in_err-file : goal.returns-in_err-file
returns-in_err-file g c =
    let fault = c.in_err-file.field-0.0 in
    let given : Result (List ℕ) Fault = Err fault in
    let F : Fault → Type 0 = λ refused. IsPlanFault c.args.schema.now c.args.sql.now refused in
    let read = c.in_ok-parsed.ensures.read in
    rw (err_passed_on _ c.from_residual-in_err-file.ensures.1) (record {
      planned = (
        given,
        λ own. subst F (sym (c.in_err-file.ensures.fault own)) (unplanned c.in_ok-parsed.parsed.query read.spelled read.asked),
        refused (Unit {0}) _ _ (unplanned_writes_nothing fault c.in_err-file.ensures.fault),
      );
    })

pub returns : goal.returns
returns g c =
    let certifies = c.in_ok-file.ensures.certifies in
    let given : Result (List ℕ) Fault = Ok c.in_ok-file.file.items in
    let goes = rw c.deref.ensures.value at c.write_whole.ensures in
    record {
      planned = (
        given,
        record {
          schema = c.in_ok-parsed.parsed.schema;
          query = c.in_ok-parsed.parsed.query;
          program = certifies.0;
          certificate = certifies.1;
          spelled = c.in_ok-parsed.ensures.read.spelled;
          asked = c.in_ok-parsed.ensures.read.asked;
          printed = c.in_ok-file.ensures.printed;
          certifies = certifies.2;
        },
        went (Unit {0}) _ _ _ c.write_whole.result goes,
      );
    }
