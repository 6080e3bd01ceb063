-- The tests of a line, one after another.
use Rattle.std.proofs.Common.{◌≡◌, ◌∙◌, ap, sym, Some, Err, Ok, FitsSigned, w64, to_z, of_z, rules}
use Rattle.std.proofs.lemmas.Int.{to_z-of_z}
use Rattle.bw_text.specs.Lines.{line_of}
use Rattle.bw_model.specs.SchemaText.{column_words, words_shape, is_range}
use Rattle.bw_model.proofs.SchemaLemmas.{list_any_names, column_on-twice, column_on-range}
use Rattle.bw_model.proofs.SchemaLemmas.{column_on-taken, ap2, same_shape}
use Rattle.bw_model.proofs.parse.column_of.Goals as goal

pub returns-then-has_name-clause-column : goal.returns-then-has_name-clause-column
returns-then-has_name-clause-column c = λ _.
    let words : column_words (line_of c.args.line.now).words ≡ Some (words_shape c.in-Some.words) =
    rw (← c.as_slice.ensures.value) (sym c.in-Some.ensures) in
    column_on-twice c.args.before.now (line_of c.args.line.now) (words_shape c.in-Some.words) words c.if-before-ge-MAX_COLUMNS.false
    (sym c.is_name.ensures ∙ c.if-not-is_name.false) (sym c.has_name.ensures ∙ c.if-has_name.true)
    ∙ ap Err (sym c.at_line-then-has_name.ensures)

pub returns-then-not-is_range-clause-column : goal.returns-then-not-is_range-clause-column
returns-then-not-is_range-clause-column c = λ _.
    let words : column_words (line_of c.args.line.now).words ≡ Some (words_shape c.in-Some.words) =
    rw (← c.as_slice.ensures.value) (sym c.in-Some.ensures) in
    let lo_fits : FitsSigned w64 c.in-Some.words.lo = search rules in
    let hi_fits : FitsSigned w64 c.in-Some.words.hi = search rules in
    let lo : to_z w64 (of_z w64 c.in-Some.words.lo) ≡ c.in-Some.words.lo = to_z-of_z w64 _ lo_fits in
    let hi : to_z w64 (of_z w64 c.in-Some.words.hi) ≡ c.in-Some.words.hi = to_z-of_z w64 _ hi_fits in
    column_on-range c.args.before.now (line_of c.args.line.now) (words_shape c.in-Some.words) words c.if-before-ge-MAX_COLUMNS.false
    (sym c.is_name.ensures ∙ c.if-not-is_name.false) (sym c.has_name.ensures ∙ c.if-has_name.false) (ap2 is_range (sym lo) (sym hi) ∙ (sym c.is_range.ensures.test ∙ c.if-not-is_range.true))
    ∙ ap Err (sym c.at_line-then-not-is_range.ensures)

pub returns-clause-column : goal.returns-clause-column
returns-clause-column c =
    let words : column_words (line_of c.args.line.now).words ≡ Some (words_shape c.in-Some.words) =
    rw (← c.as_slice.ensures.value) (sym c.in-Some.ensures) in
    let lo_fits : FitsSigned w64 c.in-Some.words.lo = search rules in
    let hi_fits : FitsSigned w64 c.in-Some.words.hi = search rules in
    let lo : to_z w64 (of_z w64 c.in-Some.words.lo) ≡ c.in-Some.words.lo = to_z-of_z w64 _ lo_fits in
    let hi : to_z w64 (of_z w64 c.in-Some.words.hi) ≡ c.in-Some.words.hi = to_z-of_z w64 _ hi_fits in
    let taken = column_on-taken c.args.before.now (line_of c.args.line.now) (words_shape c.in-Some.words) words c.if-before-ge-MAX_COLUMNS.false
    (sym c.is_name.ensures ∙ c.if-not-is_name.false) (sym c.has_name.ensures ∙ c.if-has_name.false) (ap2 is_range (sym lo) (sym hi) ∙ (sym c.is_range.ensures.test ∙ c.if-not-is_range.false)) in
    taken ∙ ap Ok (same_shape _ _ _ _ _ _ c.in-Some.words.nullable (sym c.in_ok-new.ensures) (sym lo) (sym hi))

pub returns-clause-apart : goal.returns-clause-apart
returns-clause-apart c = rw c.in_ok-new.ensures (list_any_names c.args.before.now c.in-Some.words.name.now ∙ (sym c.has_name.ensures ∙ c.if-has_name.false))
