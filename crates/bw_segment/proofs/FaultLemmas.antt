-- The first error of lanes, from planes that tell of them.
use Rattle.std.proofs.Common.{◌≡◌, ◌∙◌, refl, sym, ap, ap₂, ℕ, zero, suc, ◌+◌, ◌-◌, ◌<◌, ◌≤◌, Bool}
use Rattle.std.proofs.Common.{true, false, not, cond, ltb, ◌==◌, ◌&&◌, ◌||◌, List, [], ◌∷◌, ◌++◌}
use Rattle.std.proofs.Common.{map, length, get_or, replicate, length-append, Option, Some, None}
use Rattle.std.proofs.Common.{◌⊎◌, inl, inr, arith}
use Rattle.std.specs.List.{list_all, list_any}
use Rattle.std.proofs.lemmas.Bool.{cases_lt, le-ltb, lt-ltb, or_parts}
use Rattle.std.proofs.lemmas.Bool.Decides.{nat_tests}
use Rattle.std.proofs.lemmas.List.{get_or-map, length-map, length-replicate}
use Rattle.std.proofs.lemmas.List.Folds.{list_any_at}
use Rattle.std.proofs.lemmas.Simd.{get_or-zip2, length-zip2}
use Rattle.std.proofs.Math.Bool.{and-true}
use Rattle.bw_model.proofs.BitsLemmas.{both}
use lib.Lanes.{zip2}
use Rattle.bw_model.specs.Groups.{group_size}
use Rattle.bw_model.specs.Selection.{selected_items}
use Rattle.bw_segment.specs.BlockFault.{or_else, padding_fault, row_fault, first_fault, lanes_fault}
use Rattle.bw_segment.specs.BlockFault.{TellsCodes}

pub first_none : (fault : ℕ → Option ℕ) (n : ℕ) → ((row : ℕ) → row < n → fault row ≡ None) → first_fault fault n ≡ None
first_none fault zero none = refl
first_none fault (suc n) none = ap (λ f. or_else f (fault n)) (first_none fault n (λ row lt. none row (omega arith))) ∙ none n (omega arith)

none_of_first : (a b : Option ℕ) → or_else a b ≡ None → (a ≡ None) × (b ≡ None)
none_of_first None b is = (refl, is)
none_of_first (Some x) b is = cc

pub first_none_at : (fault : ℕ → Option ℕ) (n row : ℕ) → first_fault fault n ≡ None → row < n → fault row ≡ None
first_none_at fault zero row none lt = absurd (omega arith)
first_none_at fault (suc n) row none lt =
    let parts = none_of_first (first_fault fault n) (fault n) none in
    elim (cases_lt row n) [ inl before ↦ first_none_at fault n row parts.0 before | inr not_before ↦ ap fault {x = row} {y = n} (omega arith) ∙ parts.1 ]

-- a row's error, if none before it has one
first_stays : (fault : ℕ → Option ℕ) (n row x : ℕ) → first_fault fault row ≡ None → fault row ≡ Some x → row < n → first_fault fault n ≡ Some x
first_stays fault zero row x none here lt = absurd (omega arith)
first_stays fault (suc n) row x none here lt = elim (cases_lt row n) [
  | inl before ↦ ap (λ f. or_else f (fault n)) (first_stays fault n row x none here before)
  | inr not_before ↦ ap (λ f. or_else f (fault n)) (ap (first_fault fault) {x = n} {y = row} (omega arith) ∙ none) ∙ ap fault {x = n} {y = row} (omega arith) ∙ here
]

-- if each error is the same
either_is : (x : ℕ) (a b : Option ℕ) → (a ≡ None) ⊎ (a ≡ Some x) → (b ≡ None) ⊎ (b ≡ Some x) → (or_else a b ≡ None) ⊎ (or_else a b ≡ Some x)
either_is x a b first second = grind arith

first_is : (fault : ℕ → Option ℕ) (x n : ℕ) → ((row : ℕ) → (fault row ≡ None) ⊎ (fault row ≡ Some x)) → (first_fault fault n ≡ None) ⊎ (first_fault fault n ≡ Some x)
first_is fault x zero each = inl refl
first_is fault x (suc n) each = either_is x (first_fault fault n) (fault n) (first_is fault x n each) (each n)

first_same : (fault : ℕ → Option ℕ) (x n row : ℕ) → ((row : ℕ) → (fault row ≡ None) ⊎ (fault row ≡ Some x)) → fault row ≡ Some x → row < n → first_fault fault n ≡ Some x
first_same fault x n row each here lt = elim (first_is fault x n each) [
  | inl none ↦ let not_here = sym here ∙ first_none_at fault n row none lt in cc
  | inr some ↦ some
]

-- what stands in a lane that is without error
pub padding_none : (null : Bool) (code : ℕ) → padding_fault null code ≡ None → (null ≡ false) × (code ≡ 0)
padding_none null code none = (grind (arith, nat_tests), grind (arith, nat_tests))

pub row_none : (span : ℕ) (null : Bool) (code : ℕ) → row_fault span null code ≡ None → (null ≡ true → code ≡ 0) × (code ≤ span)
row_none span null code none = (λ set. grind (arith, nat_tests), grind (arith, nat_tests))

pub row_clear : (span : ℕ) (null : Bool) (code : ℕ) → (null ≡ true → code ≡ 0) → code ≤ span → row_fault span null code ≡ None
row_clear span null code zero_of within = grind (arith, nat_tests, zero_of)

module _ (span count : ℕ) (nulls : List Bool) (codes : List ℕ) where
  -- the errors of padding rows, and of rows
  abbrev pub paddings : ℕ → Option ℕ
  paddings row = padding_fault (get_or nulls (count + row) false) (get_or codes (count + row) 0)

  abbrev pub of_rows : ℕ → Option ℕ
  of_rows row = row_fault span (get_or nulls row false) (get_or codes row 0)

  pub lanes_none : ((row : ℕ) → count ≤ row → row < 512 → padding_fault (get_or nulls row false) (get_or codes row 0) ≡ None) → lanes_fault span count nulls codes ≡ first_fault of_rows count
  unfolding lanes_fault group_size
  lanes_none clear = ap (λ f. or_else f (first_fault of_rows count)) (first_none paddings (512 - count) (λ row lt. clear (count + row) (omega arith) (omega arith)))

  pub lanes_padding : (row : ℕ) → count ≤ row → row < 512 → padding_fault (get_or nulls row false) (get_or codes row 0) ≡ Some 308 → lanes_fault span count nulls codes ≡ Some 308
  unfolding lanes_fault group_size
  lanes_padding row from to here =
      ap (λ f. or_else f (first_fault of_rows count)) (first_same paddings 308 (512 - count) (row - count) (λ row. grind (arith, nat_tests))
      (ap (λ k. padding_fault (get_or nulls k false) (get_or codes k 0)) {x = count + (row - count)} {y = row} (omega arith) ∙ here) (omega arith))

  -- lanes that are without error
  pub lanes_none_at : lanes_fault span count nulls codes ≡ None
      → ((row : ℕ) → count ≤ row → row < 512 → padding_fault (get_or nulls row false) (get_or codes row 0) ≡ None) × ((row : ℕ) → row < count → of_rows row ≡ None)
  unfolding lanes_fault group_size
  lanes_none_at none =
      let parts = none_of_first (first_fault paddings (512 - count)) (first_fault of_rows count) none in (
        λ row from to.
            ap (λ k. padding_fault (get_or nulls k false) (get_or codes k 0)) {x = row} {y = count + (row - count)} (omega arith)
            ∙ first_none_at paddings (512 - count) (row - count) parts.0 (omega arith),
        λ row lt. first_none_at of_rows count row parts.1 lt,
      )

-- a lane that is 1, if not all are 0
one_somewhere : (lanes : List Bool) → list_all not lanes ≡ false → (row : ℕ) × (row < length lanes) × (get_or lanes row false ≡ true)
one_somewhere [] all = cc
one_somewhere (true ∷ lanes) all = (0, omega arith, refl)
one_somewhere (false ∷ lanes) all = let more = one_somewhere lanes all in (suc more.0, omega (arith, more.1), more.2)

pub zero_everywhere : (lanes : List Bool) (row : ℕ) → list_all not lanes ≡ true → get_or lanes row false ≡ false
zero_everywhere [] row all = refl
zero_everywhere (true ∷ lanes) row all = cc
zero_everywhere (false ∷ lanes) zero all = refl
zero_everywhere (false ∷ lanes) (suc row) all = zero_everywhere lanes row all

-- the lanes past the rows
abbrev pub outside : ℕ → List Bool
outside rows = map not (replicate rows true ++ replicate (512 - rows) false)

length-outside : (rows : ℕ) → rows ≤ 512 → length (outside rows) ≡ 512
length-outside rows le = simp (length-map, length-append, length-replicate) (omega arith)

outside_at : (count rest row : ℕ) → row < count + rest → get_or (map not (replicate count true ++ replicate rest false)) row false ≡ not (ltb row count)
outside_at zero zero row lt = absurd (omega arith)
outside_at zero (suc rest) zero lt = refl
outside_at zero (suc rest) (suc row) lt = outside_at zero rest row (omega arith) ∙ grind (arith, nat_tests)
outside_at (suc count) rest zero lt = grind (arith, nat_tests)
outside_at (suc count) rest (suc row) lt = outside_at count rest row (omega arith) ∙ grind (arith, nat_tests)

module _ (rows : ℕ) (nulls used : List Bool) (few : rows ≤ 512) (long_nulls : length nulls ≡ 512) (long_used : length used ≡ 512) where
  abbrev pub either : List Bool
  either = zip2 (λ x y. x || y) nulls used

  abbrev pub kept : List Bool
  kept = zip2 (λ x y. x && y) either (outside rows)

  long_either : length either ≡ 512
  long_either = length-zip2 (λ x y. x || y) nulls used (long_nulls ∙ sym long_used) ∙ long_nulls

  kept_at : (row : ℕ) → row < 512 → get_or kept row false ≡ ((get_or nulls row false || get_or used row false) && get_or (outside rows) row false)
  kept_at row lt =
      get_or-zip2 (λ x y. x && y) either (outside rows) row false false false (omega (arith, long_either)) (omega (arith, length-outside rows few))
      ∙ ap (λ b. b && get_or (outside rows) row false) (get_or-zip2 (λ x y. x || y) nulls used row false false false (omega (arith, long_nulls)) (omega (arith, long_used)))

  pub padding_is_clear : list_all not kept ≡ true → (row : ℕ) → rows ≤ row → row < 512 → (get_or nulls row false || get_or used row false) ≡ false
  padding_is_clear all row from to =
      sym (kept_at row to ∙ ap (λ b. (get_or nulls row false || get_or used row false) && b) (outside_at rows (512 - rows) row (omega arith) ∙ ap not (le-ltb row rows from)) ∙ and-true (get_or nulls row false || get_or used row false))
      ∙ zero_everywhere kept row all

  pub padding_is_set : list_all not kept ≡ false → (row : ℕ) × (rows ≤ row) × (row < 512) × ((get_or nulls row false || get_or used row false) ≡ true)
  padding_is_set all =
      let found = one_somewhere kept all in
      let row = found.0 in
      let long : length kept ≡ 512 = length-zip2 (λ x y. x && y) either (outside rows) (long_either ∙ sym (length-outside rows few)) ∙ long_either in
      let below : row < 512 = omega (arith, found.1, long) in
      let parts = both (get_or nulls row false || get_or used row false) (get_or (outside rows) row false) (sym (kept_at row below) ∙ found.2) in
      let past : not (ltb row rows) ≡ true = sym (outside_at rows (512 - rows) row (omega arith)) ∙ parts.1 in
      (row, grind (arith, nat_tests), below, parts.0)

told : (null used : Bool) (code : ℕ) → used ≡ not (code == 0) → padding_fault null code ≡ cond (null || used) (Some 308) None
told null used code tells = ap (λ b. cond (null || b) (Some 308) None) (sym tells)

row_told : (span code : ℕ) (null used : Bool) → (null ≡ true → used ≡ not (code == 0)) → row_fault span null code ≡ cond (null && used) (Some 307) (cond (ltb span code) (Some 306) None)
row_told span code true used tells = ap (λ b. cond b (Some 307) (cond (ltb span code) (Some 306) None)) (sym (tells refl))
row_told span code false used tells = refl

module _ (span count : ℕ) (nulls used above : List Bool) (codes : List ℕ) (few : count ≤ 512) (long_nulls : length nulls ≡ 512) (long_used : length used ≡ 512) (long : length codes ≡ group_size)
    (tells : TellsCodes count nulls codes used) (is_above : above ≡ map (ltb span) codes) where
  -- the lanes that are null and have a code
  abbrev pub with_code : List Bool
  with_code = zip2 (λ x y. x && y) nulls used

  -- a row's error, by its bits in two planes
  pub row_is : (row : ℕ) → row < 512 → (coded over : Bool) → get_or with_code row false ≡ coded → get_or above row false ≡ over
      → of_rows span count nulls codes row ≡ cond coded (Some 307) (cond over (Some 306) None)
  unfolding group_size
  row_is row lt coded over has is_over =
      let both_set = get_or-zip2 (λ x y. x && y) nulls used row false false false (omega (arith, long_nulls)) (omega (arith, long_used)) in
      let is = ap (λ l. get_or l row false) is_above ∙ get_or-map (ltb span) codes row 0 false (omega (arith, long)) in
      row_told span (get_or codes row 0) (get_or nulls row false) (get_or used row false) (λ null. tells.null row lt null)
      ∙ ap₂ (λ b a. cond b (Some 307) (cond a (Some 306) None)) (sym both_set ∙ has) (sym is ∙ is_over)

  pub fault_in_padding : (row : ℕ) → count ≤ row → row < 512 → (get_or nulls row false || get_or used row false) ≡ true → lanes_fault span count nulls codes ≡ Some 308
  unfolding group_size
  fault_in_padding row from to set =
      lanes_padding span count nulls codes row from to (told (get_or nulls row false) (get_or used row false) (get_or codes row 0) (tells.padding row from to) ∙ ap (λ b. cond b (Some 308) None) set)

  pub fault_in_rows : ((row : ℕ) → count ≤ row → row < 512 → (get_or nulls row false || get_or used row false) ≡ false) → lanes_fault span count nulls codes ≡ first_fault (of_rows span count nulls codes) count
  unfolding group_size
  fault_in_rows clear =
      lanes_none span count nulls codes (λ row from to. told (get_or nulls row false) (get_or used row false) (get_or codes row 0) (tells.padding row from to) ∙ ap (λ b. cond b (Some 308) None) (clear row from to))

  pub fault_at : (x row : ℕ) (coded over : Bool) → ((row : ℕ) → count ≤ row → row < 512 → (get_or nulls row false || get_or used row false) ≡ false)
      → first_fault (of_rows span count nulls codes) row ≡ None → get_or with_code row false ≡ coded → get_or above row false ≡ over → cond coded (Some 307) (cond over (Some 306) None) ≡ Some x
      → row < count → lanes_fault span count nulls codes ≡ Some x
  fault_at x row coded over clear before has is_over is lt =
      fault_in_rows clear ∙ first_stays (of_rows span count nulls codes) count row x before (row_is row (omega arith) coded over has is_over ∙ is) lt

  pub rows_fine : list_all not (zip2 (λ x y. x || y) with_code above) ≡ true → first_fault (of_rows span count nulls codes) count ≡ None
  unfolding group_size
  rows_fine all = first_none (of_rows span count nulls codes) count (λ row lt.
      let long_with : length with_code ≡ 512 = length-zip2 (λ x y. x && y) nulls used (long_nulls ∙ sym long_used) ∙ long_nulls in
      let long_above : length above ≡ 512 = ap length is_above ∙ length-map codes (ltb span) ∙ long in
      let none = sym (get_or-zip2 (λ x y. x || y) with_code above row false false false (omega (arith, long_with)) (omega (arith, long_above))) ∙ zero_everywhere (zip2 (λ x y. x || y) with_code above) row all in
      let parts = or_parts (get_or with_code row false) (get_or above row false) none in
      row_is row (omega arith) false false parts.0 parts.1)

-- planes that say which codes aren't 0, if that is asked
pub tells_nothing : (count : ℕ) (nulls used : List Bool) (codes : List ℕ) → count ≡ 512 → list_all not nulls ≡ true → TellsCodes count nulls codes used
unfolding group_size
tells_nothing count nulls used codes whole none = record {
  padding = λ row from to. absurd (omega arith);
  null = λ row lt set. let unset = sym set ∙ zero_everywhere nulls row none in cc;
}

-- no code is used in no lanes
pub none_used : (test : ℕ → Bool) (lanes : List Bool) (codes : List ℕ) → list_all not lanes ≡ true → list_any test (selected_items lanes codes) ≡ false
none_used test [] codes none = refl
none_used test (lane ∷ lanes) [] none = refl
none_used test (true ∷ lanes) (code ∷ codes) none = cc
none_used test (false ∷ lanes) (code ∷ codes) none = none_used test lanes codes none

unused_at : (lanes : List Bool) (codes : List ℕ) (row : ℕ) → list_any (λ code. not (code == 0)) (selected_items lanes codes) ≡ false → row < length codes → get_or lanes row false ≡ true → get_or codes row 0 ≡ 0
unused_at [] codes row none lt set = cc
unused_at (lane ∷ lanes) [] row none lt set = absurd (omega arith)
unused_at (true ∷ lanes) (code ∷ codes) zero none lt set = grind (arith, nat_tests, or_parts (not (code == 0)) _ none)
unused_at (false ∷ lanes) (code ∷ codes) zero none lt set = cc
unused_at (true ∷ lanes) (code ∷ codes) (suc row) none lt set = unused_at lanes codes row (or_parts (not (code == 0)) _ none).1 (omega arith) set
unused_at (false ∷ lanes) (code ∷ codes) (suc row) none lt set = unused_at lanes codes row none (omega arith) set

-- 512 rows of which none that is null has a code, and none a code above the greatest
pub all_good : (span : ℕ) (nulls : List Bool) (codes : List ℕ) → length codes ≡ group_size → list_any (λ code. not (code == 0)) (selected_items nulls codes) ≡ false → list_any (ltb span) codes ≡ false
    → lanes_fault span 512 nulls codes ≡ None
unfolding group_size
all_good span nulls codes long unused within =
    lanes_none span 512 nulls codes (λ row from to. absurd (omega arith))
    ∙ first_none (of_rows span 512 nulls codes) 512 (λ row lt.
    row_clear span (get_or nulls row false) (get_or codes row 0) (unused_at nulls codes row unused (omega (arith, long))) (elim (cases_lt span (get_or codes row 0)) [
      | inl above ↦ let found = list_any_at (ltb span) codes row 0 (omega (arith, long)) (lt-ltb span (get_or codes row 0) above) in cc
      | inr le ↦ le
    ]))
