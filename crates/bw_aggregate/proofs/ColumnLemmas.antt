-- The values of a column in selected rows, by its codes and its nulls.
use Rattle.std.proofs.Common.{◌≡◌, ◌∙◌, refl, sym, ap, ap₂, ℕ, suc, ℤ, pos, ◌-◌, ◌<◌, Bool, true}
use Rattle.std.proofs.Common.{false, not, cond, ◌&&◌, ◌||◌, List, [], ◌∷◌, ◌++◌, map, count_by, length}
use Rattle.std.proofs.Common.{replicate, Option, Some, None, subst, ◌+ℤ◌, unwrap_or, arith, get_or, le-ltb}
use Rattle.std.proofs.lemmas.List.{length-map}
use Rattle.std.specs.Int.{int_max, int_min}
use Rattle.std.specs.List.{list_all, list_any, cons_option, reduce}
use Rattle.std.proofs.lemmas.List.Sums.{sum_by-cons}
use lib.Lanes.{zip2}
use Rattle.bw_lanes.specs.Lanes.{lanes_of_words}
use Rattle.bw_model.specs.declared.column.Column.{Column}
use Rattle.bw_model.specs.Row.{Value, value_in}
use Rattle.bw_model.specs.Code.{span_of, value_at}
use Rattle.bw_model.specs.Column.{admits_values}
use Rattle.bw_model.specs.Groups.{group_size}
use Rattle.bw_model.specs.Selection.{selected_items}
use Rattle.bw_model.specs.StoredCodes.{stored_at}
use Rattle.bw_model.specs.Total.{combine_totals, present, total}
use Rattle.bw_model.specs.declared.query.Item.TheVariants.{Max, Min}
use Rattle.bw_model.specs.Truth.{is_null}
use Rattle.bw_model.proofs.BitsLemmas.{both}
use Rattle.bw_segment.specs.Packing.{value_held}
use Rattle.bw_segment.specs.Meaning.{Meaning, IsGroup, code_lanes, null_bits, stored_codes}
use Rattle.bw_segment.proofs.LaneValues.{codes_within}
use Rattle.bw_segment.proofs.ValueLemmas.{held_admitted}
use Rattle.bw_segment.specs.Selected.{codes_in, is_beyond}
use Rattle.bw_segment.proofs.SelectedCodes.{codes_counted}
use Rattle.bw_aggregate.proofs.ValueLemmas.{greatest_kept, least_kept, neither}
use Rattle.bw_aggregate.specs.Selected.{IsWithin, present_lanes, values_in, selected_rows}

-- nothing is selected past the rows
none_past : (lanes nulls : List Bool) (codes : List ℕ) → IsWithin 0 lanes → selected_items (zip2 (λ a b. a && b) lanes nulls) codes ≡ []
none_past [] nulls codes within = refl
none_past (lane ∷ lanes) [] codes within = refl
none_past (true ∷ lanes) (null ∷ nulls) codes within = not_both (within 0 (omega arith))
  where
    not_both : true ≡ false → selected_items (zip2 (λ a b. a && b) (true ∷ lanes) (null ∷ nulls)) codes ≡ []
    not_both e = cc
none_past (false ∷ lanes) (null ∷ nulls) [] within = refl
none_past (false ∷ lanes) (null ∷ nulls) (code ∷ codes) within = none_past lanes nulls codes (λ row le. within (suc row) (omega arith))

one_more : (columns : List Column) (col code : ℕ) (value : Value) (rest : List ℤ) (lanes : List Bool) (codes : List ℕ) → value_held columns col (is_null value) code ≡ value
    → rest ≡ map (value_at columns col) (selected_items lanes codes) → cons_option value rest ≡ map (value_at columns col) (selected_items (not (is_null value) ∷ lanes) (code ∷ codes))
one_more columns col code None rest lanes codes held same = same
one_more columns col code (Some n) rest lanes codes held same = ap₂ ◌∷◌ (ap (λ v. unwrap_or v (pos 0)) (sym held)) same

values_of_rows : (columns : List Column) (col n : ℕ) (rows : List (List Value)) (lanes : List Bool) → list_all (admits_values columns) rows ≡ true → col < length columns → IsWithin (length rows) lanes
    → present col (selected_items lanes rows)
    ≡ map (value_at columns col) (selected_items (zip2 (λ a b. a && b) lanes (map not (map (λ row. is_null (value_in row col)) rows ++ replicate n false))) (map (λ row. stored_at columns col (value_in row col)) rows ++ replicate n 0))
values_of_rows columns col n rows [] all lt within = refl
values_of_rows columns col n [] (lane ∷ lanes) all lt within =
    ap (map (value_at columns col)) (sym (none_past (lane ∷ lanes) (map not (replicate n false)) (replicate n 0) within))
values_of_rows columns col n (row ∷ rows) (true ∷ lanes) all lt within =
    let each = both (admits_values columns row) (list_all (admits_values columns) rows) all in
    let later = values_of_rows columns col n rows lanes each.1 lt (λ at le. within (suc at) (omega arith)) in
    one_more columns col (stored_at columns col (value_in row col)) (value_in row col) (present col (selected_items lanes rows)) _ _ (held_admitted columns row col each.0 lt) later
values_of_rows columns col n (row ∷ rows) (false ∷ lanes) all lt within =
    values_of_rows columns col n rows lanes (both (admits_values columns row) (list_all (admits_values columns) rows) all).1 lt (λ at le. within (suc at) (omega arith))

-- the values of selected rows are those of the codes, if the column isn't null
pub values_are_codes : (meaning : Meaning) (col : ℕ) (lanes : List Bool) → IsGroup meaning → col < length meaning.columns → IsWithin (length meaning.rows) lanes
    → present col (selected_rows meaning lanes) ≡ values_in meaning col (present_lanes meaning col lanes)
unfolding present_lanes null_bits codes_in stored_codes
values_are_codes meaning col lanes group lt within = values_of_rows meaning.columns col (group_size - length meaning.rows) meaning.rows lanes group.admitted lt within

none_counted : (lanes : List Bool) → IsWithin 0 lanes → count_by (λ lane. lane) lanes ≡ 0
none_counted [] within = refl
none_counted (true ∷ lanes) within = absurd (true_is_not_false (within 0 (omega arith)))
  where
    true_is_not_false : true ≡ false → ⊥
    true_is_not_false e = cc
none_counted (false ∷ lanes) within = sum_by-cons (λ b. cond b 1 0) false lanes ∙ omega (arith, none_counted lanes (λ row le. within (suc row) (omega arith)))

-- the lanes that are 1 are as many as the selected rows
pub rows_counted : (rows : List (List Value)) (lanes : List Bool) → IsWithin (length rows) lanes → count_by (λ lane. lane) lanes ≡ length (selected_items lanes rows)
rows_counted rows [] within = refl
rows_counted [] (lane ∷ lanes) within = none_counted (lane ∷ lanes) within
rows_counted (row ∷ rows) (true ∷ lanes) within = sum_by-cons (λ b. cond b 1 0) true lanes ∙ omega (arith, rows_counted rows lanes (λ at le. within (suc at) (omega arith)))
rows_counted (row ∷ rows) (false ∷ lanes) within = sum_by-cons (λ b. cond b 1 0) false lanes ∙ omega (arith, rows_counted rows lanes (λ at le. within (suc at) (omega arith)))

-- the lanes in which a column is there are as many as its values in the selected rows
pub values_counted : (meaning : Meaning) (col : ℕ) (lanes : List Bool) (words : List ℕ) → IsGroup meaning → col < length meaning.columns → IsWithin (length meaning.rows) lanes → length words ≡ 8
    → lanes_of_words words ≡ present_lanes meaning col lanes → count_by (λ lane. lane) (lanes_of_words words) ≡ length (present col (selected_rows meaning lanes))
values_counted meaning col lanes words group lt within eight is =
    codes_counted meaning col words group eight ∙ ap (λ l. length (codes_in meaning col l)) is ∙ sym (length-map (codes_in meaning col (present_lanes meaning col lanes)) (value_at meaning.columns col))
    ∙ ap length (sym (values_are_codes meaning col lanes group lt within))

-- what holds of no code in some lanes holds of none in those of them whose row isn't null
none_in_both : (test : ℕ → Bool) (lanes others : List Bool) (codes : List ℕ) → list_any test (selected_items lanes codes) ≡ false → list_any test (selected_items (zip2 (λ a b. a && b) lanes others) codes) ≡ false
none_in_both test [] others codes none = refl
none_in_both test (lane ∷ lanes) [] codes none = refl
none_in_both test (lane ∷ lanes) (other ∷ others) [] none = refl
none_in_both test (false ∷ lanes) (other ∷ others) (code ∷ codes) none = none_in_both test lanes others codes none
none_in_both test (true ∷ lanes) (true ∷ others) (code ∷ codes) none =
    let parts = neither (test code) _ none in ap₂ ◌||◌ parts.0 (none_in_both test lanes others codes parts.1)
none_in_both test (true ∷ lanes) (false ∷ others) (code ∷ codes) none = none_in_both test lanes others codes (neither (test code) _ none).1

pub none_in_present : (test : ℕ → Bool) (meaning : Meaning) (col : ℕ) (lanes : List Bool) → list_any test (codes_in meaning col lanes) ≡ false → list_any test (codes_in meaning col (present_lanes meaning col lanes)) ≡ false
unfolding present_lanes codes_in
none_in_present test meaning col lanes none = none_in_both test lanes (map not (null_bits meaning.rows col)) (code_lanes meaning col) none

-- rows whose codes aren't beyond that of a total leave the total as it is
pub minimum_left : (meaning : Meaning) (col code : ℕ) (lo : ℤ) (so_far : Option ℤ) (lanes : List Bool) → IsGroup meaning → col < length meaning.columns → IsWithin (length meaning.rows) lanes
    → ((other : ℕ) → value_at meaning.columns col other ≡ lo +ℤ pos other) → so_far ≡ Some (lo +ℤ pos code) → list_any (is_beyond false code) (codes_in meaning col (present_lanes meaning col lanes)) ≡ false
    → combine_totals (Min col) so_far None ≡ combine_totals (Min col) so_far (total (Min col) (selected_rows meaning lanes))
minimum_left meaning col code lo so_far lanes group lt within values is none =
    subst (λ a. combine_totals (Min col) a None ≡ combine_totals (Min col) a (reduce int_min (present col (selected_rows meaning lanes)))) (sym is)
    (least_kept lo (value_at meaning.columns col) col code (codes_in meaning col (present_lanes meaning col lanes)) values none ∙ ap (λ vs. combine_totals (Min col) (Some (lo +ℤ pos code)) (reduce int_min vs)) (sym (values_are_codes meaning col lanes group lt within)))

pub maximum_left : (meaning : Meaning) (col code : ℕ) (lo : ℤ) (so_far : Option ℤ) (lanes : List Bool) → IsGroup meaning → col < length meaning.columns → IsWithin (length meaning.rows) lanes
    → ((other : ℕ) → value_at meaning.columns col other ≡ lo +ℤ pos other) → so_far ≡ Some (lo +ℤ pos code) → list_any (is_beyond true code) (codes_in meaning col lanes) ≡ false
    → combine_totals (Max col) so_far None ≡ combine_totals (Max col) so_far (total (Max col) (selected_rows meaning lanes))
maximum_left meaning col code lo so_far lanes group lt within values is none =
    subst (λ a. combine_totals (Max col) a None ≡ combine_totals (Max col) a (reduce int_max (present col (selected_rows meaning lanes)))) (sym is)
    (greatest_kept lo (value_at meaning.columns col) col code (codes_in meaning col (present_lanes meaning col lanes)) values (none_in_present (is_beyond true code) meaning col lanes none)
    ∙ ap (λ vs. combine_totals (Max col) (Some (lo +ℤ pos code)) (reduce int_max vs)) (sym (values_are_codes meaning col lanes group lt within)))

none_of : (test : ℕ → Bool) (lanes : List Bool) (codes : List ℕ) → ((at : ℕ) → at < length codes → test (get_or codes at 0) ≡ false) → list_any test (selected_items lanes codes) ≡ false
none_of test [] codes each = refl
none_of test (lane ∷ lanes) [] each = refl
none_of test (true ∷ lanes) (code ∷ codes) each =
    ap (λ b. b || list_any test (selected_items lanes codes)) (each 0 (omega arith)) ∙ none_of test lanes codes (λ at lt. each (suc at) (omega (arith, lt)))
none_of test (false ∷ lanes) (code ∷ codes) each = none_of test lanes codes (λ at lt. each (suc at) (omega (arith, lt)))

-- no code is below 0, and none is above the column's maximum
pub none_below_first : (meaning : Meaning) (col code : ℕ) → code ≡ 0 → (lanes : List Bool) → list_any (is_beyond false code) (codes_in meaning col lanes) ≡ false
unfolding codes_in
none_below_first meaning col code first lanes =
    none_of (is_beyond false code) lanes (code_lanes meaning col) (λ at lt. le-ltb (get_or (code_lanes meaning col) at 0) code (omega (arith, first)))

pub none_above_last : (meaning : Meaning) (col code : ℕ) (column : Column) → col < length meaning.columns → column ≡ get_or meaning.columns col column → code ≡ span_of column → (lanes : List Bool)
    → list_any (is_beyond true code) (codes_in meaning col lanes) ≡ false
unfolding codes_in
none_above_last meaning col code column lt read last lanes =
    let within = codes_within meaning col column lt read in
    none_of (is_beyond true code) lanes (code_lanes meaning col) (λ at there. le-ltb code (get_or (code_lanes meaning col) at 0) (omega (arith, last, within at 0 there)))
