-- The heading, and then the records after it.
use Rattle.std.proofs.Common.{◌∙◌, sym, subst, length, refl, ◌&&◌, not}
use Rattle.csv.specs.declared.parser.State.TheVariants as st
use Rattle.bw_model.proofs.ErrLemmas.{err_passed_on}
use Rattle.bw_encode.specs.Records.{HasNoRecord, IsReadAs}
use Rattle.bw_encode.specs.Rows.{field_rows}
use Rattle.bw_encode.specs.Selection.{count_in}
use Rattle.bw_encode.proofs.RowLemmas.{heading_none, heading_wrong, heading_right, heading_end, heading_passed}
use Rattle.bw_encode.proofs.columns.read_columns.Goals as goal

pub returns-in_default-clause-fault : goal.returns-in_default-clause-fault
returns-in_default-clause-fault c =
    let nothing : HasNoRecord c.args.dialect st.StartRecord c.after_byte_order_mark-records.result.now = rw c.in_default.is at c.in_ok-heading.ensures in
    λ aside. rw c.at_record.ensures (heading_none c.args.dialect c.args.selection c.args.text.now (subst (HasNoRecord c.args.dialect st.StartRecord) c.after_byte_order_mark-records.ensures nothing))

pub returns-in_err-check_heading-clause-fault : goal.returns-in_err-check_heading-clause-fault
returns-in_err-check_heading-clause-fault c =
    let read : IsReadAs c.args.dialect st.StartRecord c.after_byte_order_mark-records.result.now c.read.new.self c.in-Some.heading = rw c.in-Some.is at c.in_ok-heading.ensures in
    let is = subst (λ text. IsReadAs c.args.dialect st.StartRecord text c.read.new.self c.in-Some.heading) c.after_byte_order_mark-records.ensures read in
    let wrong = rw (c.is_rejected.ensures, c.len-width.ensures) at c.in_err-check_heading.ensures.checked in
    rw (err_passed_on _ c.from_residual-in_err-check_heading.ensures.1) (λ aside. heading_wrong c.args.dialect c.args.selection c.args.text.now c.read.new.self c.in-Some.heading is _ (sym wrong))

pub returns-in_err-left-clause-fault : goal.returns-in_err-left-clause-fault
returns-in_err-left-clause-fault c =
    let read : IsReadAs c.args.dialect st.StartRecord c.after_byte_order_mark-records.result.now c.read.new.self c.in-Some.heading = rw c.in-Some.is at c.in_ok-heading.ensures in
    let is = subst (λ text. IsReadAs c.args.dialect st.StartRecord text c.read.new.self c.in-Some.heading) c.after_byte_order_mark-records.ensures read in
    let right = rw (c.is_rejected.ensures, c.len-width.ensures) at c.in_ok-check_heading.ensures.checked in
    let kept = heading_passed c.args.selection.columns (c.in-Some.heading.is_loose && not c.args.dialect.is_lenient) (length c.read.new.self) (sym right) in
    rw (err_passed_on _ c.from_residual-in_err-left.ensures.1)
    (λ aside. heading_right c.args.dialect c.args.selection c.args.text.now c.read.new.self c.in-Some.heading is (sym right) kept.0
    ∙ rw (rw c.len-width.ensures at (c.in_err-left.ensures.fault aside)) refl)

pub returns-clause-columns : goal.returns-clause-columns
returns-clause-columns c =
    let read : IsReadAs c.args.dialect st.StartRecord c.after_byte_order_mark-records.result.now c.read.new.self c.in-Some.heading = rw c.in-Some.is at c.in_ok-heading.ensures in
    let is = subst (λ text. IsReadAs c.args.dialect st.StartRecord text c.read.new.self c.in-Some.heading) c.after_byte_order_mark-records.ensures read in
    let right = rw (c.is_rejected.ensures, c.len-width.ensures) at c.in_ok-check_heading.ensures.checked in
    let kept = heading_passed c.args.selection.columns (c.in-Some.heading.is_loose && not c.args.dialect.is_lenient) (length c.read.new.self) (sym right) in
    let done = rw c.len-width.ensures at c.in_ok-left.ensures.rows in (
      field_rows (count_in c.args.selection.columns (length c.read.new.self)) done.0,
      heading_right c.args.dialect c.args.selection c.args.text.now c.read.new.self c.in-Some.heading is (sym right) kept.0 ∙ rw done.1 refl,
      done.2,
      done.3,
      kept.1,
      kept.2,
    )

pub returns-clause-end : goal.returns-clause-end
returns-clause-end c =
    let read : IsReadAs c.args.dialect st.StartRecord c.after_byte_order_mark-records.result.now c.read.new.self c.in-Some.heading = rw c.in-Some.is at c.in_ok-heading.ensures in
    let is = subst (λ text. IsReadAs c.args.dialect st.StartRecord text c.read.new.self c.in-Some.heading) c.after_byte_order_mark-records.ensures read in
    rw (c.saturating_sub.ensures, c.in_ok-left.ensures.left, heading_end c.args.dialect c.args.selection c.args.text.now c.read.new.self c.in-Some.heading is) refl
