-- Each exit, by the contracts of its calls.
use Rattle.std.proofs.Common.{List, ℕ, Result, Ok, Err, refl}
use Rattle.bw_model.proofs.ErrLemmas.{err_passed_on}
use Rattle.bw_model.specs.declared.fault.Fault.{Fault}
use Rattle.bw_io.proofs.SinkLemmas.{no_write_fault}
use Rattle.bw_shell.specs.Certification.{is_certification_fault, text_refused, uncertified}
use Rattle.bw_query.proofs.TableExits.{refused, went}
use Rattle.bw_shell.proofs.certify_call.certify_text.Goals as goal

pub returns-in_err-parsed : goal.returns-in_err-parsed
returns-in_err-parsed g c =
    let given : Result (List ℕ) Fault = Err c.in_err-parsed.field-0.0 in
    rw (err_passed_on _ c.from_residual.ensures.1) (record { certified = (given, λ own. text_refused (c.in_err-parsed.ensures.fault own), refused (Unit {0}) _ _ c.in_err-parsed.ensures.code) })

pub returns-in_err-file : goal.returns-in_err-file
returns-in_err-file g c =
    let fault = c.in_err-file.field-0.0 in
    let given : Result (List ℕ) Fault = Err fault in
    let read = c.in_ok-parsed.ensures.read in
    rw (err_passed_on _ c.from_residual-in_err-file.ensures.1) (record {
      certified = (
        given,
        λ own. uncertified c.in_ok-parsed.parsed.query read.spelled read.asked (c.in_err-file.ensures.fault own),
        refused (Unit {0}) _ _ (no_write_fault is_certification_fault fault c.in_err-file.ensures.code refl),
      );
    })

pub returns : goal.returns
returns g c =
    let given : Result (List ℕ) Fault = Ok c.in_ok-file.file.items in
    let goes = rw c.deref.ensures.value at c.write_whole.ensures in
    record {
      certified = (
        given,
        record {
          schema = c.in_ok-parsed.parsed.schema;
          query = c.in_ok-parsed.parsed.query;
          spelled = c.in_ok-parsed.ensures.read.spelled;
          asked = c.in_ok-parsed.ensures.read.asked;
          made = c.in_ok-file.ensures.made;
        },
        went (Unit {0}) _ _ _ c.write_whole.result goes,
      );
    }
