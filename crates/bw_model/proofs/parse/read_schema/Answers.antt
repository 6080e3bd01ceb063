-- Each turn adds the column of the next line; the end and each error are the text's.
use Rattle.std.proofs.Common.{◌≡◌, ◌≢◌, ◌∷◌, [], ◌<◌, ◌∙◌, length, arith, ap, sym, length-append}
use Rattle.std.proofs.Common.{refl, ℕ, Ok, Err}
use Rattle.std.proofs.lemmas.Bool.{eqb-true, eqb-false}
use Rattle.bw_model.specs.Column.{names_of}
use Rattle.bw_model.specs.Fault.{at_line, ◌>>=◌}
use Rattle.bw_text.specs.Lines.{lines_in, end_in, line_of}
use Rattle.bw_model.specs.Name.{are_apart}
use Rattle.bw_model.specs.SchemaText.{column_shape, column_on, schema_on, columns_on, with_columns}
use Rattle.bw_model.proofs.SchemaLemmas.{are_apart-push, names_of-push, schema_of-lines}
use Rattle.bw_model.proofs.SchemaLemmas.{schema_of-long, schema_of-first, schema_on-nothing}
use Rattle.bw_model.proofs.SchemaLemmas.{columns_on-next, columns_on-nothing, shapes-push}
use Rattle.bw_model.proofs.SchemaLemmas.{with_columns-none, with_columns-some}
use Rattle.bw_model.proofs.parse.read_schema.Goals as goal
use Rattle.bw_model.proofs.ErrLemmas.{err_passed_on}

pub loop-columns-init : goal.loop-columns-init
unfolding are_apart
loop-columns-init c = rw c.new-columns.ensures.items (record { limited = omega arith; apart = refl; told = refl; end = refl })

pub loop-columns-preserved : goal.loop-columns-preserved
loop-columns-preserved c =
    let before = c.loop-columns.columns.items in
    let room : length before < 64 = rw (← c.deref.ensures.value) c.in_ok-column.ensures.capacity in
    let fresh = are_apart-push (names_of before) c.in_ok-column.column.name c.loop-columns.invariant.apart (rw (← c.deref.ensures.value) c.in_ok-column.ensures.apart) in
    let line = rw c.in-Some-2.is at c.in_ok-line.ensures.line in
    let column : column_on (names_of before) (line_of c.in-Some-2.line) ≡ Ok (column_shape c.in_ok-column.column) = rw (← c.deref.ensures.value) c.in_ok-column.ensures.column in
    let next = columns_on-next before _ _ _ _ line column in
    rw c.in_ok-push.ensures.items (record {
      limited = omega (arith, length-append before (c.in_ok-column.column ∷ []));
      apart = rw (names_of-push before c.in_ok-column.column) fresh;
      told = c.loop-columns.invariant.told ∙ next ∙ ap (λ shapes. columns_on shapes (lines_in c.next_line-in-loop-columns.new.self)) (sym (shapes-push before c.in_ok-column.column));
      end = c.loop-columns.invariant.end ∙ sym c.in_ok-line.ensures.end;
    })

pub returns-then-text-gt-MAX_SCHEMA_LEN : goal.returns-then-text-gt-MAX_SCHEMA_LEN
returns-then-text-gt-MAX_SCHEMA_LEN c = λ _. schema_of-long c.args.text.now c.if-text-gt-MAX_SCHEMA_LEN.true ∙ ap Err (sym c.new.ensures)

pub returns-in_default : goal.returns-in_default
returns-in_default c = λ _.
    let none = rw c.in_default.is at c.in_ok-first.ensures.none in
    schema_of-lines c.args.text.now c.if-text-gt-MAX_SCHEMA_LEN.false
    ∙ ap (λ u. schema_on (lines_in u) (end_in u)) (sym c.new-lines.ensures)
    ∙ schema_on-nothing _ _ none.0
    ∙ ap (λ (n : ℕ). Err (at_line 101 n)) (none.1 ∙ sym c.number.ensures)
    ∙ ap Err (sym c.at_line.ensures)

pub returns-in_err-name : goal.returns-in_err-name
returns-in_err-name c =
    let first = rw c.in-Some.is at c.in_ok-first.ensures.line in
    rw (err_passed_on _ c.from_residual-in_err-name.ensures.1) (λ aside.
    schema_of-first c.args.text.now c.new-lines.result _ _ (Err c.in_err-name.field-0.0) c.if-text-gt-MAX_SCHEMA_LEN.false c.new-lines.ensures first (c.in_err-name.ensures aside))

pub returns-in_err-column : goal.returns-in_err-column
returns-in_err-column c =
    let first = rw c.in-Some.is at c.in_ok-first.ensures.line in
    let line = rw c.in-Some-2.is at c.in_ok-line.ensures.line in
    let before = c.loop-columns.columns.items in
    rw (err_passed_on _ c.from_residual-in_err-column.ensures.1) (λ aside.
    let column : column_on (names_of before) (line_of c.in-Some-2.line) ≡ Err c.in_err-column.field-0.0 = rw (← c.deref.ensures.value) (c.in_err-column.ensures.column aside) in
    schema_of-first c.args.text.now c.new-lines.result _ _ (Ok c.in_ok-name.name) c.if-text-gt-MAX_SCHEMA_LEN.false c.new-lines.ensures first c.in_ok-name.ensures
    ∙ ap (λ r. r >>= λ columns. with_columns c.in_ok-name.name (end_in c.new-lines.result) columns)
    (c.loop-columns.invariant.told ∙ columns_on-next before _ _ _ _ line column))

pub returns-then-is_empty : goal.returns-then-is_empty
returns-then-is_empty c = λ _.
    let first = rw c.in-Some.is at c.in_ok-first.ensures.line in
    let none = rw c.in_default-2.is at c.in_ok-line.ensures.none in
    let before = c.loop-columns.columns.items in
    let empty : length before ≡ 0 = sym c.loop-columns.columns.ok.0 ∙ eqb-true _ _ (sym c.is_empty.ensures ∙ c.if-is_empty.true) in
    schema_of-first c.args.text.now c.new-lines.result _ _ (Ok c.in_ok-name.name) c.if-text-gt-MAX_SCHEMA_LEN.false c.new-lines.ensures first c.in_ok-name.ensures
    ∙ ap (λ r. r >>= λ columns. with_columns c.in_ok-name.name (end_in c.new-lines.result) columns)
    (c.loop-columns.invariant.told ∙ columns_on-nothing before _ none.0)
    ∙ with_columns-none before c.in_ok-name.name (end_in c.new-lines.result) empty
    ∙ ap (λ (n : ℕ). Err (at_line 105 n)) (sym c.in_ok-first.ensures.end ∙ c.loop-columns.invariant.end ∙ none.1 ∙ sym c.number-then-is_empty.ensures)
    ∙ ap Err (sym c.at_line-then-is_empty.ensures)

pub returns : goal.returns
returns c =
    let first = rw c.in-Some.is at c.in_ok-first.ensures.line in
    let none = rw c.in_default-2.is at c.in_ok-line.ensures.none in
    let before = c.loop-columns.columns.items in
    let some : length before ≢ 0 = λ e. eqb-false _ _ (sym c.is_empty.ensures ∙ c.if-is_empty.false) (c.loop-columns.columns.ok.0 ∙ e) in
    schema_of-first c.args.text.now c.new-lines.result _ _ (Ok c.in_ok-name.name) c.if-text-gt-MAX_SCHEMA_LEN.false c.new-lines.ensures first c.in_ok-name.ensures
    ∙ ap (λ r. r >>= λ columns. with_columns c.in_ok-name.name (end_in c.new-lines.result) columns)
    (c.loop-columns.invariant.told ∙ columns_on-nothing before _ none.0)
    ∙ with_columns-some before c.in_ok-name.name (end_in c.new-lines.result) some
