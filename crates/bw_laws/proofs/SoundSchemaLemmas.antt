-- A schema text spells a schema whose names are names and whose bounds 64 bits hold.
use Rattle.std.proofs.Common.{◌≡◌, ℕ, ℤ, pos, ◌-ℤ◌, ◌≤◌, ◌<◌, ◌^◌, ◌==◌, List, [], ◌∷◌, drop, Bool}
use Rattle.std.proofs.Common.{true, false, not, ◌||◌, Option, Some, None, All, FitsSigned, w64}
use Rattle.std.proofs.Common.{refl, subst, arith, nat_le, nat_lt, codes, if◌then◌else◌, slice_index}
use Rattle.std.specs.List.{AllZip}
use Rattle.std.proofs.lemmas.Bool.{leb-true, ltb-true}
use Rattle.std.proofs.lemmas.Int.{ints}
use Rattle.std.proofs.lemmas.Option.{cond_some}
use Rattle.std.proofs.lemmas.List.Elements.{All-nil, All-cons}
use Rattle.bw_text.specs.Lines.{NumberedWords, lines_in, whole}
use Rattle.bw_text.specs.Number.{are_digits, digits_value, number_of}
use Rattle.bw_text.specs.Text.{same_text}
use Rattle.bw_model.specs.Schema.{IsColumn, IsSchema}
use Rattle.bw_model.specs.SchemaText.{ColumnShape, SchemaShape, shape, bound_of, signed_digits}
use Rattle.bw_model.specs.SchemaText.{with_bounds, are_not_null, column_words, SpellsColumn}
use Rattle.bw_model.specs.SchemaText.{SpellsSchema, IsSchemaText}

-- a number that a sign and digits spell is one that 64 bits hold
pub number_fits : (is_negative : Bool) (digits : List ℕ) (n : ℤ) → number_of is_negative digits ≡ Some n → FitsSigned w64 n
unfolding number_of
number_fits true digits n e =
    let is = cond_some (nat_le (digits_value digits) (2 ^ 63)) (pos 0 -ℤ pos (digits_value digits)) n e in
    let few : digits_value digits ≤ 2 ^ 63 = leb-true _ _ is.0 in
    let same : pos 0 -ℤ pos (digits_value digits) ≡ n = is.1 in
    omega (arith, ints)
number_fits false digits n e =
    let is = cond_some (nat_lt (digits_value digits) (2 ^ 63)) (pos (digits_value digits)) n e in
    let few : digits_value digits < 2 ^ 63 = ltb-true _ _ is.0 in
    let same : pos (digits_value digits) ≡ n = is.1 in
    omega (arith, ints)

signed_fits : (is_negative : Bool) (digits : List ℕ) (are : Bool) (n : ℤ) → (if are then number_of is_negative digits else None) ≡ Some n → FitsSigned w64 n
signed_fits is_negative digits true n e = number_fits is_negative digits n e
signed_fits is_negative digits false n e = absurd (cc e)

bound_by : (text : List ℕ) (minus : Bool) (n : ℤ) → (if minus then signed_digits true (drop 1 text) else signed_digits false text) ≡ Some n → FitsSigned w64 n
bound_by text true n e = signed_fits true (drop 1 text) (are_digits (drop 1 text)) n e
bound_by text false n e = signed_fits false text (are_digits text) n e

bound_fits : (text : List ℕ) (n : ℤ) → bound_of text ≡ Some n → FitsSigned w64 n
unfolding bound_of
bound_fits text n e = bound_by text (slice_index text 0 == 45) n e

-- so are the bounds of a column
abbrev BoundsFit : ColumnShape → Type 0
BoundsFit column = FitsSigned w64 column.lo × FitsSigned w64 column.hi

bounds_fit : (name : List ℕ) (lo hi : Option ℤ) (nullable : Bool) (column : ColumnShape) → ((n : ℤ) → lo ≡ Some n → FitsSigned w64 n)
    → ((n : ℤ) → hi ≡ Some n → FitsSigned w64 n) → with_bounds name lo hi nullable ≡ Some column → BoundsFit column
bounds_fit name (Some l) (Some h) nullable column low high e =
    let same : shape name l h nullable ≡ column = cc e in subst BoundsFit same (low l refl, high h refl)
bounds_fit name _ _ nullable column low high e = absurd (cc e)

after_test : (b : Bool) (r : Option ColumnShape) (column : ColumnShape) → (if b then None else r) ≡ Some column → r ≡ Some column
after_test true r column e = absurd (cc e)
after_test false r column e = e

column_fits : (words : List (List ℕ)) (column : ColumnShape) → column_words words ≡ Some column → BoundsFit column
unfolding column_words
column_fits (keyword ∷ name ∷ lo ∷ hi ∷ []) column e =
    bounds_fit name (bound_of lo) (bound_of hi) true column (bound_fits lo) (bound_fits hi)
    (after_test (not (same_text keyword (codes "COLUMN"))) (with_bounds name (bound_of lo) (bound_of hi) true) column e)
column_fits (keyword ∷ name ∷ lo ∷ hi ∷ negates ∷ null ∷ []) column e =
    bounds_fit name (bound_of lo) (bound_of hi) false column (bound_fits lo) (bound_fits hi)
    (after_test (not (same_text keyword (codes "COLUMN")) || not (are_not_null negates null)) (with_bounds name (bound_of lo) (bound_of hi) false) column e)
column_fits _ column e = absurd (cc e)

columns_sound : (lines : List NumberedWords) (columns : List ColumnShape) → AllZip SpellsColumn lines columns → All IsColumn columns
columns_sound [] [] h = All-nil IsColumn
columns_sound (line ∷ lines) (column ∷ columns) h =
    let fit = column_fits line.words column h.0.0 in
    All-cons IsColumn column columns (record { name = h.0.1; lo = fit.0; hi = fit.1 }) (columns_sound lines columns h.1)
columns_sound _ _ h = absurd h

sound_by : (lines : List NumberedWords) (schema : SchemaShape) → SpellsSchema lines schema → IsSchema schema
sound_by [] schema h = absurd h
sound_by (line ∷ lines) schema h = record { name = h.1; columns = columns_sound lines schema.columns h.2 }

pub sound_shape : (text : List ℕ) (schema : SchemaShape) → IsSchemaText text schema → IsSchema schema
sound_shape text schema h = sound_by (lines_in (whole text)) schema h.1
