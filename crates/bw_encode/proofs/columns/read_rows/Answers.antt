-- Each turn adds a record's row.
use Rattle.std.proofs.Common.{◌≡◌, ◌∙◌, sym, ap, length, List, ℕ, true, false}
use Rattle.bw_model.proofs.ErrLemmas.{err_passed_on}
use Rattle.bw_encode.specs.Place.{state_of}
use Rattle.bw_encode.specs.Records.{HasNoRecord, IsReadAs}
use Rattle.bw_encode.specs.Selection.{is_past}
use Rattle.bw_encode.proofs.RowLemmas.{no_rows, row_wrong, row_more, rows_end, rows_past, end_none, end_past, passed}
use Rattle.bw_encode.proofs.columns.read_rows.Goals as goal

pub rows-init : goal.rows-init
rows-init c = no_rows c.args.dialect c.args.selection c.args.width (state_of c.args.heading.place) c.args.heading.text.now c.args.columns.now.items c.requires

pub add_row-requires : goal.add_row-requires
add_row-requires c = c.rows.invariant.into.count

pub returns-then-is_past-clause-rows : goal.returns-then-is_past-clause-rows
returns-then-is_past-clause-rows c =
    let is : IsReadAs c.args.dialect (state_of c.rows.place) c.rows.text.now c.read.new.self c.in-Some.after = rw c.in-Some.is at c.in_ok-after.ensures in
    let past : is_past c.args.selection.rows c.rows.number ≡ true = sym c.is_past.ensures ∙ c.if-is_past.true in
    (c.rows.invariant.rows, rows_past _ _ _ _ _ _ _ _ _ _ _ _ c.rows.invariant is past, c.rows.invariant.into, c.rows.invariant.within)

pub returns-then-is_past-clause-left : goal.returns-then-is_past-clause-left
returns-then-is_past-clause-left c =
    let is : IsReadAs c.args.dialect (state_of c.rows.place) c.rows.text.now c.read.new.self c.in-Some.after = rw c.in-Some.is at c.in_ok-after.ensures in
    let past : is_past c.args.selection.rows c.rows.number ≡ true = sym c.is_past.ensures ∙ c.if-is_past.true in
    ap (λ (xs : List ℕ). length xs) (end_past _ _ _ _ _ _ _ _ _ _ _ _ c.rows.invariant is past)

pub returns-in_err-check_record-clause-fault : goal.returns-in_err-check_record-clause-fault
returns-in_err-check_record-clause-fault c =
    let is : IsReadAs c.args.dialect (state_of c.rows.place) c.rows.text.now c.read.new.self c.in-Some.after = rw c.in-Some.is at c.in_ok-after.ensures in
    let here : is_past c.args.selection.rows c.rows.number ≡ false = sym c.is_past.ensures ∙ c.if-is_past.false in
    let wrong = rw (c.is_rejected-is_rejected.ensures, c.has_length-has_length.ensures, c.len.ensures) at c.in_err-check_record.ensures.checked in
    rw (err_passed_on _ c.from_residual-in_err-check_record.ensures.1) (λ aside. row_wrong _ _ _ _ _ _ _ _ _ _ _ _ c.rows.invariant is _ here (sym wrong))

pub rows-preserved : goal.rows-preserved
rows-preserved c =
    let is : IsReadAs c.args.dialect (state_of c.rows.place) c.rows.text.now c.read.new.self c.in-Some.after = rw c.in-Some.is at c.in_ok-after.ensures in
    let here : is_past c.args.selection.rows c.rows.number ≡ false = sym c.is_past.ensures ∙ c.if-is_past.false in
    let right = rw (c.is_rejected-is_rejected.ensures, c.has_length-has_length.ensures, c.len.ensures) at c.in_ok-check_record.ensures.checked in
    let kept = passed _ _ _ (sym right) in
    row_more _ _ _ _ _ _ _ _ _ _ _ _ c.rows.invariant is _ here (sym right) kept.1 kept.0 c.in_ok-add_row.ensures

pub returns-clause-rows : goal.returns-clause-rows
returns-clause-rows c =
    let nothing : HasNoRecord c.args.dialect (state_of c.rows.place) c.rows.text.now = rw c.in_default.is at c.in_ok-after.ensures in
    (c.rows.invariant.rows, rows_end _ _ _ _ _ _ _ _ _ _ c.rows.invariant nothing, c.rows.invariant.into, c.rows.invariant.within)

pub returns-clause-left : goal.returns-clause-left
returns-clause-left c =
    let nothing : HasNoRecord c.args.dialect (state_of c.rows.place) c.rows.text.now = rw c.in_default.is at c.in_ok-after.ensures in
    ap (λ (xs : List ℕ). length xs) (end_none _ _ _ _ _ _ _ _ _ _ c.rows.invariant nothing)
