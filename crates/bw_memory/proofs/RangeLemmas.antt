-- The range of a column's values in some rows, from their codes.
use Rattle.std.proofs.Common.{◌≡◌, ◌∙◌, inl, inr, refl, sym, ap, ap₂, subst, ℕ, zero, suc, ◌+◌, ◌-◌, ◌*◌, ◌/◌, ◌<◌, ◌≤◌, min, max, get_or, IsTrue, ◌||◌, ℤ, ◌-ℤ◌, unsigned_abs, Bool, true, false, cond, not, ◌&&◌, All, List, [], ◌∷◌, ◌++◌, map, length, replicate, Option, Some, None, unwrap_or, arith}
use Rattle.std.specs.Prelude.{int_le}
use Rattle.std.specs.List.{fold, list_all, reduce}
use Rattle.std.proofs.lemmas.Bool.{and_parts, cases_Bool, cases_lt}
use Rattle.std.proofs.lemmas.List.{length-append, get_or_append_left}
use Rattle.std.proofs.Math.Seq.{get_or-append_seam}
use Rattle.std.proofs.lemmas.List.Elements.{All-cons, All-head, All-tail}
use lib.Lanes.{zip2}
use Rattle.bw_model.specs.declared.column.Column.{Column}
use Rattle.bw_model.specs.Code.{code_at}
use Rattle.bw_model.specs.Column.{admits_value, admits_values}
use Rattle.bw_model.specs.Row.{Value, value_in}
use Rattle.bw_model.specs.Selection.{selected_items}
use Rattle.bw_model.specs.StoredCodes.{stored_at}
use Rattle.bw_model.specs.Truth.{is_null}
use Rattle.bw_model.specs.Groups.{group_size}
use Rattle.bw_segment.specs.Meaning.{IsGroup, Meaning, null_bits, stored_codes}
use Rattle.bw_segment.specs.Selected.{codes_in}
use Rattle.bw_ranges.specs.declared.column_range.ColumnRange.{ColumnRange}
use Rattle.bw_ranges.specs.ColumnRange.{has_value, only_null}
use Rattle.bw_memory.specs.declared.table.MemoryTable.{MemoryTable}
use Rattle.bw_memory.specs.MemoryTable.{meaning_numbered}
use Rattle.bw_memory.specs.Ranges.{AreRangesOf, HasRange, HasRangeInGroup}

holds : (a b : Bool) → a ≡ true → b ≡ true → (a && b) ≡ true
holds a b p q = rw (p, q) refl

-- the bounds of some codes
min_bounds : (a : ℕ) (codes : List ℕ) → (fold min a codes ≤ a) × All (λ code. fold min a codes ≤ code) codes
min_bounds a [] = (omega arith, λ k d lt. absurd (omega (arith, lt)))
min_bounds a (code ∷ codes) =
    let rest = min_bounds (min a code) codes in
    (omega (arith, rest.0), All-cons (λ c. fold min (min a code) codes ≤ c) code codes (omega (arith, rest.0)) rest.1)

max_bounds : (a : ℕ) (codes : List ℕ) → (a ≤ fold max a codes) × All (λ code. code ≤ fold max a codes) codes
max_bounds a [] = (omega arith, λ k d lt. absurd (omega (arith, lt)))
max_bounds a (code ∷ codes) =
    let rest = max_bounds (max a code) codes in
    (omega (arith, rest.0), All-cons (λ c. c ≤ fold max (max a code) codes) code codes (omega (arith, rest.0)) rest.1)

-- a code from one to another
abbrev pub IsBetween : ℕ → ℕ → ℕ → Type 0
IsBetween least greatest code = (least ≤ code) × (code ≤ greatest)

pub codes_between : (codes : List ℕ) (least greatest : ℕ) → Some least ≡ reduce min codes → Some greatest ≡ reduce max codes → All (IsBetween least greatest) codes
codes_between [] least greatest low high = absurd (cc low)
codes_between (code ∷ codes) least greatest low high =
    let from : least ≡ fold min code codes = cc low in
    let to : greatest ≡ fold max code codes = cc high in
    let lows = min_bounds code codes in
    let highs = max_bounds code codes in
    rw (from, to) (All-cons (IsBetween (fold min code codes) (fold max code codes)) code codes (lows.0, highs.0) (λ k d lt. (lows.1 k d lt, highs.1 k d lt)))

pub no_codes : (codes : List ℕ) (P : ℕ → Type 0) → None ≡ reduce min codes → All P codes
no_codes [] P none = λ k d lt. absurd (omega (arith, lt))
no_codes (code ∷ codes) P none = absurd (cc none)

-- a column's code of a value that it admits is the one that is stored
code_stored : (columns : List Column) (values : List Value) (col : ℕ) (n : ℤ) → admits_values columns values ≡ true → col < length columns → value_in values col ≡ Some n
    → code_at columns col (Some n) ≡ Some (stored_at columns col (Some n))
code_stored [] values col n admitted lt is = absurd (omega (arith, lt))
code_stored (c ∷ columns) [] col n admitted lt is = absurd (cc admitted)
code_stored (c ∷ columns) (value ∷ values) zero n admitted lt is =
    let admits : admits_value c (Some n) ≡ true = ap (admits_value c) (sym is) ∙ (and_parts (admits_value c value) (admits_values columns values) admitted).0 in
    given (int_le c.lo n && int_le n c.hi) (unsigned_abs (n -ℤ c.lo)) admits
  where
    given : (b : Bool) (code : ℕ) → b ≡ true → ◌≡◌ {A = Option ℕ} (cond b (Some code) None) (Some (unwrap_or (cond b (Some code) None) 0))
    given true code e = refl
    given false code e = absurd (cc e)
code_stored (c ∷ columns) (value ∷ values) (suc col) n admitted lt is =
    code_stored columns values col n (and_parts (admits_value c value) (admits_values columns values) admitted).1 (omega (arith, lt)) is

-- A range has the values of rows if it has the numbers of all codes of those that aren't null, and null if one is.
module _ (columns : List Column) (col : ℕ) (there : col < length columns) (range : ColumnRange) (P : ℕ → Type 0)
    (numbers : (n : ℤ) (code : ℕ) → code_at columns col (Some n) ≡ Some code → P code → has_value range (Some n) ≡ true) where
  abbrev null_at : List Value → Bool
  null_at row = is_null (value_in row col)

  abbrev code_in : List Value → ℕ
  code_in row = stored_at columns col (value_in row col)

  -- the codes of the rows that aren't null, in lanes that are padded
  abbrev picked : List (List Value) → ℕ → ℕ → List Bool → List ℕ → List ℕ
  picked rows n m nulls codes = selected_items (zip2 (λ x y. x && y) (replicate n true ++ replicate m false) (map not (map null_at rows ++ nulls))) (map code_in rows ++ codes)

  one : (row : List Value) (v : Value) → value_in row col ≡ v → admits_values columns row ≡ true → (lanes : List Bool) (codes : List ℕ) (more : Bool)
      → All P (selected_items ((true && not (is_null v)) ∷ lanes) (stored_at columns col v ∷ codes)) → (range.has_nulls ≡ false → (not (is_null v) && more) ≡ true)
      → (has_value range v ≡ true) × All P (selected_items lanes codes) × (range.has_nulls ≡ false → more ≡ true)
  one row None is admitted lanes codes more all none = (
    elim (cases_Bool range.has_nulls) [
      | inl nulls ↦ nulls
      | inr un ↦ let bad : false ≡ true = none un in absurd (cc bad)
    ],
    all,
    λ un. let bad : false ≡ true = none un in absurd (cc bad),
  )
  one row (Some n) is admitted lanes codes more all none = (
    numbers n (stored_at columns col (Some n)) (code_stored columns row col n admitted there is) (All-head P (stored_at columns col (Some n)) (selected_items lanes codes) all),
    All-tail P (stored_at columns col (Some n)) (selected_items lanes codes) all,
    none,
  )

  range_of_picked : (rows : List (List Value)) (n m : ℕ) (nulls : List Bool) (codes : List ℕ) → n ≡ length rows → list_all (admits_values columns) rows ≡ true → All P (picked rows n m nulls codes)
      → (range.has_nulls ≡ false → list_all not (map null_at rows ++ nulls) ≡ true) → HasRange range col rows
  range_of_picked [] n m nulls codes count admitted all none = refl
  range_of_picked (row ∷ rows) zero m nulls codes count admitted all none = absurd (omega (arith, count))
  range_of_picked (row ∷ rows) (suc n) m nulls codes count admitted all none =
      let parts = and_parts (admits_values columns row) (list_all (admits_values columns) rows) admitted in
      let first = one row (value_in row col) refl parts.0 (zip2 (λ x y. x && y) (replicate n true ++ replicate m false) (map not (map null_at rows ++ nulls))) (map code_in rows ++ codes) (list_all not (map null_at rows ++ nulls)) all none in
      holds (has_value range (value_in row col)) (list_all (λ row. has_value range (value_in row col)) rows) first.0 (range_of_picked rows n m nulls codes (omega (arith, count)) parts.1 first.1 first.2)

pub range_of_segment : (meaning : Meaning) (col : ℕ) → IsGroup meaning → col < length meaning.columns → (range : ColumnRange) (P : ℕ → Type 0)
    → ((n : ℤ) (code : ℕ) → code_at meaning.columns col (Some n) ≡ Some code → P code → has_value range (Some n) ≡ true) → (n m : ℕ) → n ≡ length meaning.rows → (all nulls others lanes : List Bool)
    → all ≡ replicate n true ++ replicate m false → nulls ≡ null_bits meaning.rows col → others ≡ map not nulls → lanes ≡ zip2 (λ x y. x && y) all others
    → All P (codes_in meaning col lanes) → (range.has_nulls ≡ false → list_all not nulls ≡ true) → HasRange range col meaning.rows
unfolding null_bits stored_codes codes_in
range_of_segment meaning col group there range P numbers n m count all nulls others lanes all_is nulls_are others_are lanes_are codes none =
    let picked : lanes ≡ zip2 (λ x y. x && y) (replicate n true ++ replicate m false) (map not (null_bits meaning.rows col)) = lanes_are ∙ ap₂ (zip2 (λ x y. x && y)) all_is (others_are ∙ ap (map not) nulls_are) in
    range_of_picked meaning.columns col there range P numbers meaning.rows n m (replicate (group_size - length meaning.rows) false) (replicate (group_size - length meaning.rows) 0) count group.admitted
    (subst (λ (l : List Bool). All P (codes_in meaning col l)) picked codes) (λ un. ap (list_all not) (sym nulls_are) ∙ none un)

-- a wider range
wider : (a h : ColumnRange) → ((v : Value) → has_value a v ≡ true → has_value h v ≡ true) → (col : ℕ) (rows : List (List Value)) → HasRange a col rows → HasRange h col rows
wider a h more col [] has = refl
wider a h more col (row ∷ rows) has =
    let parts = and_parts (has_value a (value_in row col)) (list_all (λ row. has_value a (value_in row col)) rows) has in
    holds (has_value h (value_in row col)) (list_all (λ row. has_value h (value_in row col)) rows) (more (value_in row col) parts.0) (wider a h more col rows parts.1)

or_true : (a b : Bool) → b ≡ true → (a || b) ≡ true
or_true true b e = refl
or_true false b e = e

-- one segment more of a group
pub segment_more : (rows : ℕ → List (List Value)) (col first k : ℕ) (old range hull : ColumnRange) → ((number : ℕ) → first ≤ number → number < k → HasRange old col (rows number)) → HasRange range col (rows k)
    → ((v : Value) → IsTrue (has_value range v || has_value old v) → IsTrue (has_value hull v)) → (number : ℕ) → first ≤ number → number < k + 1 → HasRange hull col (rows number)
segment_more rows col first k old range hull before here wide number le lt = elim (cases_lt number k) [
  | inl earlier ↦ wider old hull (λ v e. wide v (or_true (has_value range v) (has_value old v) e)) col (rows number) (before number le earlier)
  | inr last ↦
      let same : k ≡ number = omega (arith, lt, last) in
      subst (λ n. HasRange hull col (rows n)) same (wider range hull (λ v e. wide v (ap (λ b. b || has_value old v) e)) col (rows k) here)
]

-- the range of one group more
pub one_more_range : (size : ℕ) (table : MemoryTable) (column : ℕ) (old new : List ColumnRange) (range : ColumnRange) → new ≡ old ++ range ∷ [] → AreRangesOf size table column old → HasRangeInGroup size table (length old) column range
    → AreRangesOf size table column new
one_more_range size table column old new range is before here number there within = subst (λ (l : List ColumnRange). HasRange (get_or l (number / size) only_null) column (meaning_numbered table number).rows) (sym is) (elim (cases_lt (number / size) (length old)) [
  | inl earlier ↦
      subst (λ (r : ColumnRange). HasRange r column (meaning_numbered table number).rows) (sym (get_or_append_left old (range ∷ []) only_null (number / size) earlier)) (before number there earlier)
  | inr late ↦
      let same = end_is (number / size) (length old) (length new) late within (ap length is ∙ length-append old (range ∷ [])) in
      subst (λ (r : ColumnRange). HasRange r column (meaning_numbered table number).rows) (sym (ap (λ i. get_or (old ++ range ∷ []) i only_null) same ∙ get_or-append_seam old range [] only_null)) (here number there same)
])
  where
    end_is : (i n m : ℕ) → n ≤ i → i < m → m ≡ n + 1 → i ≡ n
    end_is i n m le lt e = omega (arith, le, lt, e)

-- the hull of more groups
pub hull_more : (ranges : List ColumnRange) (first k : ℕ) (old hull : ColumnRange) → ((group : ℕ) → first ≤ group → group < k → (v : Value) → IsTrue (has_value (get_or ranges group only_null) v) → IsTrue (has_value old v))
    → ((v : Value) → IsTrue (has_value (get_or ranges k only_null) v || has_value old v) → IsTrue (has_value hull v))
    → (group : ℕ) → first ≤ group → group < k + 1 → (v : Value) → IsTrue (has_value (get_or ranges group only_null) v) → IsTrue (has_value hull v)
hull_more ranges first k old hull before wide group le lt v has = elim (cases_lt group k) [
  | inl earlier ↦ wide v (or_true (has_value (get_or ranges k only_null) v) (has_value old v) (before group le earlier v has))
  | inr last ↦
      let same : group ≡ k = omega (arith, lt, last) in
      wide v (ap (λ b. b || has_value old v) (subst (λ n. has_value (get_or ranges n only_null) v ≡ true) same has))
]

-- the range of a wide group has the values of each of its groups
pub wide_in_group : (ranges : List ColumnRange) (wide : ℕ) (hull : ColumnRange) → wide * 16 + 16 ≤ length ranges
    → ((group : ℕ) → wide * 16 ≤ group → group < wide * 16 + 16 → (v : Value) → IsTrue (has_value (get_or ranges group only_null) v) → IsTrue (has_value hull v))
    → (table : MemoryTable) (column : ℕ) → AreRangesOf 4 table column ranges → HasRangeInGroup 64 table wide column hull
wide_in_group ranges wide hull room has table column are number there same =
    wider (get_or ranges (number / 4) only_null) hull (has (number / 4) (omega (arith, same)) (omega (arith, same))) column (meaning_numbered table number).rows (are number there (omega (arith, same, room)))
