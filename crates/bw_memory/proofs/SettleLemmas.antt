-- Verdicts on groups of segments, by the ranges that are put in place of others.
use Rattle.std.proofs.Common.{◌≡◌, ◌≢◌, ◌∙◌, ◌⊎◌, inl, inr, refl, sym, ap, subst, ℕ, zero, suc, ◌+◌, ◌-◌, ◌*◌, ◌/◌, ◌<◌, ◌≤◌, ◌==◌, ◌||◌, Bool, true, false, List, [], ◌∷◌, ◌++◌, length, map, take, drop, get_or, replicate, slice_set, arith}
use Rattle.std.specs.List.{list_all}
use Rattle.std.proofs.Math.Nat.{min-le_left}
use Rattle.std.proofs.Math.Seq.{get_or-append_seam}
use Rattle.std.proofs.lemmas.Bool.{and_parts, cases_eq, cases_lt}
use Rattle.std.proofs.lemmas.Bool.Decides.{nat_tests}
use Rattle.std.proofs.lemmas.List.{get_or-set_other, get_or-set_same, get_or_append_left, get_or_past, length-append}
use Rattle.bw_model.specs.declared.column.Column.{Column}
use Rattle.bw_model.specs.declared.cond.Cond.{Cond}
use Rattle.bw_model.specs.Column.{admits_values}
use Rattle.bw_model.specs.Cond.{is_match}
use Rattle.bw_model.specs.Groups.{group_size}
use Rattle.bw_model.specs.Row.{Value, value_in}
use Rattle.bw_model.specs.Selection.{matching_rows}
use Rattle.bw_segment.specs.ColumnBlocks.{segment_numbered}
use Rattle.bw_segment.proofs.SoundLemmas.{spelled_group}
use Rattle.bw_file.specs.Blocks.{form_of}
use Rattle.bw_file.proofs.SegmentLemmas.{is_packing}
use Rattle.bw_ranges.specs.declared.column_range.ColumnRange.{ColumnRange}
use Rattle.bw_ranges.specs.declared.verdict.Verdict.{Verdict}
use Rattle.bw_ranges.specs.declared.verdict.Verdict.TheVariants.{NoRow, EveryRow, Open}
use Rattle.bw_ranges.specs.ColumnRange.{IsWithin, has_value, only_null, range_in, range_of_column}
use Rattle.bw_ranges.proofs.WithinLemmas.{admitted_within}
use Rattle.bw_memory.specs.declared.table.MemoryTable.{MemoryTable}
use Rattle.bw_memory.specs.MemoryTable.{layout_of, meaning_numbered, schema_of, segments_in}
use Rattle.bw_memory.specs.Ranges.{AreWithin, HasRange, HasRangeInGroup, HasRangeInTable, is_named}
use Rattle.bw_memory.specs.Settled.{HaveVerdicts, HoldsOn, verdict_on}
use Rattle.bw_memory.specs.StoredSegments.{rows_numbered}

-- the first of some rows is within ranges, and so are the others
module _ (ranges : List ColumnRange) (row : List Value) (rows : List (List Value)) (within : AreWithin ranges (row ∷ rows)) where
  parts : (column : ℕ) → (has_value (range_in ranges column) (value_in row column) ≡ true) × HasRange (range_in ranges column) column rows
  parts column = and_parts (has_value (range_in ranges column) (value_in row column)) (list_all (λ row. has_value (range_in ranges column) (value_in row column)) rows) (within column)

  first_within : IsWithin ranges row
  first_within column = (parts column).0

  rest_within : AreWithin ranges rows
  rest_within column = (parts column).1

-- a verdict on the rows within ranges holds of any of them
module _ (cond : Cond) (ranges : List ColumnRange) where
  none_match : ((row : List Value) → IsWithin ranges row → is_match cond row ≡ false) → (rows : List (List Value)) → AreWithin ranges rows → matching_rows cond rows ≡ []
  none_match none [] within = refl
  none_match none (row ∷ rows) within = rw (none row (first_within ranges row rows within)) (none_match none rows (rest_within ranges row rows within))

  all_match : ((row : List Value) → IsWithin ranges row → is_match cond row ≡ true) → (rows : List (List Value)) → AreWithin ranges rows → matching_rows cond rows ≡ rows
  all_match all [] within = refl
  all_match all (row ∷ rows) within = rw (all row (first_within ranges row rows within)) (ap (λ (l : List (List Value)). row ∷ l) (all_match all rows (rest_within ranges row rows within)))

  pub verdict_holds : (verdict : Verdict) → (verdict ≡ NoRow → (row : List Value) → IsWithin ranges row → is_match cond row ≡ false) → (verdict ≡ EveryRow → (row : List Value) → IsWithin ranges row → is_match cond row ≡ true)
      → (rows : List (List Value)) → AreWithin ranges rows → HoldsOn cond rows verdict
  verdict_holds NoRow none all rows within = none_match (none refl) rows within
  verdict_holds EveryRow none all rows within = all_match (all refl) rows within
  verdict_holds Open none all rows within = tt

-- rows that columns admit are within their ranges
admitted_have : (columns : List Column) (rows : List (List Value)) → list_all (admits_values columns) rows ≡ true → AreWithin (map range_of_column columns) rows
admitted_have columns [] admitted column = refl
admitted_have columns (row ∷ rows) admitted column =
    let parts = and_parts (admits_values columns row) (list_all (admits_values columns) rows) admitted in
    rw (admitted_within columns row parts.0 column) (admitted_have columns rows parts.1 column)

pub table_within : (table : MemoryTable) (ranges : List ColumnRange) → ranges ≡ map range_of_column (schema_of table).columns.items → (column : ℕ) → HasRangeInTable table column (range_in ranges column)
unfolding group_size
table_within table ranges are column number there =
    let columns = (schema_of table).columns.items in
    let count = rows_numbered table.rows number in
    let some : 1 ≤ count = omega (arith, table.kept.nonempty number there) in
    let group = spelled_group (form_of (layout_of table)) (is_packing (layout_of table)) columns count (segment_numbered table.columns.items number) (min-le_left group_size (table.rows - group_size * number)) (table.kept.sound number there) [] some in
    subst (λ (l : List ColumnRange). HasRange (range_in l column) column (meaning_numbered table number).rows) (sym are) (admitted_have columns (meaning_numbered table number).rows group.admitted column)

-- one verdict on each segment
pub same_verdicts : (cond : Cond) (table : MemoryTable) (verdict : Verdict) → ((number : ℕ) → number < segments_in table → HoldsOn cond (meaning_numbered table number).rows verdict) → (count : ℕ)
    → HaveVerdicts cond table (replicate count verdict)
same_verdicts cond table verdict holds count number there = by (get_or (replicate count verdict) (number / 4) Open) (one_or_open count (number / 4))
  where
    one_or_open : (count at : ℕ) → (get_or (replicate count verdict) at Open ≡ verdict) ⊎ (get_or (replicate count verdict) at Open ≡ Open)
    one_or_open zero at = inr refl
    one_or_open (suc count) zero = inl refl
    one_or_open (suc count) (suc at) = one_or_open count at

    by : (v : Verdict) → (v ≡ verdict) ⊎ (v ≡ Open) → HoldsOn cond (meaning_numbered table number).rows v
    by v (inl e) = subst (HoldsOn cond (meaning_numbered table number).rows) (sym e) (holds number there)
    by v (inr e) = subst (HoldsOn cond (meaning_numbered table number).rows) (sym e) tt

-- one verdict more
pub more_verdicts : (cond : Cond) (table : MemoryTable) (old new : List Verdict) (verdict : Verdict) → new ≡ old ++ verdict ∷ [] → HaveVerdicts cond table old
    → ((number : ℕ) → number < segments_in table → number / 4 ≡ length old → HoldsOn cond (meaning_numbered table number).rows verdict) → HaveVerdicts cond table new
more_verdicts cond table old new verdict is before here number there = subst (λ (l : List Verdict). Holds (verdict_on l number)) (sym is) (elim (cases_lt (number / 4) (length old)) [
  | inl earlier ↦ subst Holds (sym (get_or_append_left old (verdict ∷ []) Open (number / 4) earlier)) (before number there)
  | inr late ↦ elim (cases_eq (number / 4) (length old)) [
    | inl same ↦ subst Holds (sym (ap (λ i. get_or (old ++ verdict ∷ []) i Open) same ∙ get_or-append_seam old verdict [] Open)) (here number there same)
    | inr past ↦ subst Holds (sym (get_or_past (old ++ verdict ∷ []) (number / 4) Open (omega (arith, late, past, length-append old (verdict ∷ []))))) tt
  ]
])
  where
    Holds : Verdict → Type 0
    Holds v = HoldsOn cond (meaning_numbered table number).rows v

-- a list that is filled from nothing
pub filled : (count len : ℕ) (verdict : Verdict) (old : List Verdict) → old ≡ [] → len ≡ 0 → take count old ++ replicate (count - len) verdict ≡ replicate count verdict
filled zero len verdict old none long = rw long refl
filled (suc count) len verdict old none long = let all : suc count - 0 ≡ suc count = omega arith in rw (none, long) (ap (λ n. replicate n verdict) all)

-- the values of a group are in the ranges of the columns, but for those that are named from a place on
abbrev pub FitFrom : ℕ → MemoryTable → List ℕ → ℕ → List ColumnRange → ℕ → Type 0
FitFrom size table columns group ranges from = (column : ℕ) → is_named (drop from columns) column ≡ false → HasRangeInGroup size table group column (range_in ranges column)

pub other_than : (columns : List ℕ) (k column : ℕ) → k < length columns → is_named columns column ≡ false → column ≢ get_or columns k 0
other_than [] k column lt off = absurd (omega (arith, lt))
other_than (first ∷ rest) zero column lt off = λ own.
    let equal : (first == column) ≡ true = grind (arith, nat_tests, own) in
    let both : (true || is_named rest column) ≡ false = ap (λ b. b || is_named rest column) (sym equal) ∙ off in
    absurd (cc both)
other_than (first ∷ rest) (suc k) column lt off = other_than rest k column (omega (arith, lt)) (later (first == column) (is_named rest column) off)
  where
    later : (a b : Bool) → (a || b) ≡ false → b ≡ false
    later true b e = absurd (cc e)
    later false b e = e

named_later : (columns : List ℕ) (k column : ℕ) → k < length columns → column ≢ get_or columns k 0 → is_named (drop (k + 1) columns) column ≡ false → is_named (drop k columns) column ≡ false
named_later [] k column lt other off = absurd (omega (arith, lt))
named_later (first ∷ rest) zero column lt other off = let unequal : (first == column) ≡ false = grind (arith, nat_tests, other) in rw unequal off
named_later (first ∷ rest) (suc k) column lt other off =
    let next : suc (k + 1) ≡ suc k + 1 = omega arith in
    named_later rest k column (omega (arith, lt)) other (ap (λ n. is_named (drop n (first ∷ rest)) column) next ∙ off)

-- one column more has the range of a group
module _ (size : ℕ) (table : MemoryTable) (columns : List ℕ) (group k : ℕ) (ranges : List ColumnRange) (lt : k < length columns) (before : FitFrom size table columns group ranges k) where
  pub one_put : (r : ColumnRange) → get_or columns k 0 < length ranges → HasRangeInGroup size table group (get_or columns k 0) r → FitFrom size table columns group (slice_set ranges (get_or columns k 0) r) (k + 1)
  one_put r room has column off number there same = elim (cases_eq column (get_or columns k 0)) [
    | inl own ↦
        subst (λ n. HasRange (range_in (slice_set ranges (get_or columns k 0) r) n) n (meaning_numbered table number).rows) (sym own)
        (subst (λ (x : ColumnRange). HasRange x (get_or columns k 0) (meaning_numbered table number).rows) (sym (get_or-set_same ranges (get_or columns k 0) r only_null room)) (has number there same))
    | inr other ↦
        subst (λ (x : ColumnRange). HasRange x column (meaning_numbered table number).rows) (sym (get_or-set_other ranges (get_or columns k 0) column r only_null other))
        (before column (named_later columns k column lt other off) number there same)
  ]

  -- or isn't a column of the table
  pub none_put : (whole : List ColumnRange) → length ranges ≡ length whole → length ranges ≤ get_or columns k 0 → ((column : ℕ) → HasRangeInTable table column (range_in whole column)) → FitFrom size table columns group ranges (k + 1)
  none_put whole same past has column off number there at = elim (cases_eq column (get_or columns k 0)) [
    | inl own ↦
        let range : range_in whole column ≡ range_in ranges column = get_or_past whole column only_null (omega (arith, own, past, same)) ∙ sym (get_or_past ranges column only_null (omega (arith, own, past))) in
        subst (λ (x : ColumnRange). HasRange x column (meaning_numbered table number).rows) range (has column number there)
    | inr other ↦ before column (named_later columns k column lt other off) number there at
  ]
