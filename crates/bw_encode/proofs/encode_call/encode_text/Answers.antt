-- Where the call ends, and what it has written there.
use Rattle.std.proofs.Common.{sym, subst}
use Rattle.bw_io.specs.Source.{is_read_fault}
use Rattle.bw_model.proofs.ErrLemmas.{err_passed_on}
use Rattle.bw_encode.specs.Encode.{IsRefusedBy, nothing, beginning, both}
use Rattle.bw_encode.proofs.EncodeLemmas.{refused_read, second_false, untouched}
use Rattle.bw_encode.proofs.encode_call.encode_text.Goals as goal

pub returns-in_err-csv-clause-encoded : goal.returns-in_err-csv-clause-encoded
returns-in_err-csv-clause-encoded g c =
    let a = c.in_err-csv.ensures.answered in (
      a.0,
      a.1,
      rw (err_passed_on _ c.from_residual.ensures.1)
          (nothing c.in_err-csv.ensures.fault (λ aside. refused_read c.args.dialect c.args.selection a.0 c.in_err-csv.field-0.0 a.2) (untouched _) (untouched _)),
    )

pub returns-in_err-texts-clause-encoded : goal.returns-in_err-texts-clause-encoded
returns-in_err-texts-clause-encoded g c =
    let a = c.in_ok-csv.ensures.answered in
    let refused = rw c.deref.ensures.value at c.in_err-texts.ensures.fault in (
      a.0,
      a.1,
      rw (err_passed_on _ c.from_residual-in_err-texts.ensures.1)
          (nothing (second_false (is_read_fault c.in_err-texts.field-0.0) _ c.in_err-texts.ensures.device)
          (λ aside. subst (λ came. IsRefusedBy c.args.dialect c.args.selection came c.in_err-texts.field-0.0) (sym a.2) (refused aside)) (untouched _) (untouched _)),
    )

pub returns-in_err-write_whole-clause-encoded : goal.returns-in_err-write_whole-clause-encoded
returns-in_err-write_whole-clause-encoded g c =
    let a = c.in_ok-csv.ensures.answered in
    let texts = rw c.deref.ensures.value at c.in_ok-texts.ensures.texts in
    let out = rw c.deref-2.ensures.value at c.in_err-write_whole.ensures in (
      a.0,
      a.1,
      rw (err_passed_on _ c.from_residual-in_err-write_whole.ensures.1, out.0)
          (beginning c.in_ok-csv.csv.items c.in_ok-texts.texts.fields.items c.in_ok-texts.texts.table.items a.2 texts out.1 out.2 (untouched _)),
    )

pub returns-clause-encoded : goal.returns-clause-encoded
returns-clause-encoded g c =
    let a = c.in_ok-csv.ensures.answered in
    let texts = rw c.deref.ensures.value at c.in_ok-texts.ensures.texts in
    let out = rw c.deref-2.ensures.value at c.in_ok-write_whole.ensures in
    let last = rw c.deref-3.ensures.value at c.write_whole-2.ensures in
    (a.0, a.1, both c.in_ok-csv.csv.items c.in_ok-texts.texts.fields.items c.in_ok-texts.texts.table.items a.2 texts out.0 out.1 last)
