-- What is seen of the codes of a column.
use Rattle.std.proofs.Common.{◌≡◌, ◌∙◌, refl, sym, ap, subst, ℕ, ◌-◌, ◌<◌, ◌≤◌, pos, Bool, true, false, List, [], ◌∷◌, length, map, Some, None, Option, arith, get_or, slice_get, nat_lt, Contains, inl, inr, ◌-ℤ◌, ◌^◌}
use Rattle.std.proofs.Common.{◌↔◌}
use Rattle.std.specs.List.{list_any}
use Rattle.std.specs.Cmp.Lexicographic.{slice_cmp, nat_list_cmp_total}
use Rattle.std.specs.Ordering.{nat_cmp, ordering_reverse}
use Rattle.std.specs.declared.cmp.Ordering.TheVariants.{Less, Equal}
use Rattle.std.proofs.lemmas.Cmp.{tied_itself}
use Rattle.std.proofs.lemmas.Int.{ints}
use Rattle.std.proofs.lemmas.Option.{slice_get-get_or, get_or_from_slice_get, slice_get_cases}
use Rattle.std.proofs.lemmas.List.{get_or-map, length-map}
use Rattle.std.proofs.lemmas.List.Elements.{All-get_or, All-from_get_or, All-map, Contains-get_or}
use Rattle.std.proofs.lemmas.Map.Keys.{sorted_from_all_adjacent, Less-from_sorted}
use borrow.Author.Tests.{ltb-true, ltb-false}
use Rattle.std.specs.List.Sorted.{IsStrictlySortedBy}
use Rattle.bw_model.proofs.SchemaLemmas.{ordered, narrow}
use Rattle.bw_model.specs.Row.{Value}
use Rattle.bw_model.specs.SchemaText.{is_range}
use Rattle.bw_model.specs.Truth.{is_null}
use Rattle.bw_encode.specs.Dictionary.{IsAscending, IsEncoded}
use Rattle.bw_encode.specs.Seen.{IsSeenOf, IsWithin, seen_of_codes}

abbrev as_value : ℕ → Value
as_value code = Some (pos code)

-- a list in order has a field at one place only
pub one_place : (list : List (List ℕ)) → IsAscending list → (i j : ℕ) → i < length list → j < length list → get_or list i [] ≡ get_or list j [] → i ≡ j
one_place list up i j a b same = by (nat_lt i j) refl (nat_lt j i) refl
  where
    sorted : IsStrictlySortedBy (slice_cmp nat_cmp) list
    sorted = sorted_from_all_adjacent nat_list_cmp_total list [] up

    apart : (m n : ℕ) → m < n → n < length list → get_or list m [] ≡ get_or list n [] → ⊥
    apart m n lt in' e =
        let less : slice_cmp nat_cmp (get_or list m []) (get_or list n []) ≡ Less = Less-from_sorted (slice_cmp nat_cmp) list m n [] sorted lt in' in
        let equal : slice_cmp nat_cmp (get_or list n []) (get_or list n []) ≡ Equal = tied_itself nat_list_cmp_total (get_or list n []) in
        let both = rw e at less in
        cc (both, equal)

    by : (p : Bool) → nat_lt i j ≡ p → (q : Bool) → nat_lt j i ≡ q → i ≡ j
    by true h q k = absurd (apart i j (ltb-true i j h) b same)
    by false h true k = absurd (apart j i (ltb-true j i k) a (sym same))
    by false h false k = let l = ltb-false i j h in let r = ltb-false j i k in omega arith

module _ (fields list : List (List ℕ)) (counts codes : List ℕ) (is : IsEncoded fields list counts codes) where
  pub codes_size : length codes ≡ length fields
  codes_size = sym (length-map codes (slice_get list)) ∙ ap length is.spelled ∙ length-map fields Some

  -- a row's code is the place of its field
  code_at : (row : ℕ) → row < length fields → slice_get list (get_or codes row 0) ≡ Some (get_or fields row [])
  code_at row lt = let size' = codes_size in
      let in' : row < length codes = omega arith in
      sym (get_or-map (slice_get list) codes row 0 None in') ∙ ap (λ (xs : List (Option (List ℕ))). get_or xs row None) is.spelled ∙ get_or-map Some fields row [] None lt

  below : (code : ℕ) (f : List ℕ) → slice_get list code ≡ Some f → code < length list
  below code f e = elim ((slice_get_cases list code).1) [ inl found ↦ found.1 | inr past ↦ let none = past.1 in absurd (cc (none, e)) ]

  same_field : (row : ℕ) (f : List ℕ) → row < length fields → get_or fields row f ≡ f → get_or fields row [] ≡ f
  same_field row f lt e =
      let a = slice_get-get_or fields row f lt in
      let b = slice_get-get_or fields row [] lt in
      let c : ◌≡◌ {A = Option (List ℕ)} (Some (get_or fields row [])) (Some (get_or fields row f)) = sym b ∙ a in
      cc

  -- every place is the code of a row
  pub code_there : (place : ℕ) → place < length list → Contains (map as_value codes) (Some (pos place))
  code_there place lt =
      let f = get_or list place [] in
      let row = All-get_or (Contains fields) list place [] lt is.used in
      let size' = codes_size in
      let in' : row.0 < length codes = let h = row.1 in omega arith in
      let at : slice_get list (get_or codes row.0 0) ≡ Some f = code_at row.0 row.1 ∙ ap Some (same_field row.0 f row.1 row.2) in
      let same : get_or codes row.0 0 ≡ place = one_place list is.ascending (get_or codes row.0 0) place (below (get_or codes row.0 0) f at) lt (get_or_from_slice_get list (get_or codes row.0 0) f [] at) in
      let long : row.0 < length (map as_value codes) = omega (arith, length-map codes as_value) in
      subst (Contains (map as_value codes)) (get_or-map as_value codes row.0 0 None in' ∙ ap as_value same) (Contains-get_or (map as_value codes) row.0 None long)

  low_code : (row : ℕ) → row < length codes → get_or codes row 0 < length list
  low_code row lt = let size' = codes_size in
      let in' : row < length fields = omega arith in
      below (get_or codes row 0) (get_or fields row []) (code_at row in')

  no_null : (codes : List ℕ) → false ≡ list_any is_null (map as_value codes)
  no_null [] = refl
  no_null (c ∷ cs) = no_null cs

  pub codes_seen : IsSeenOf (map as_value codes) (seen_of_codes (length list))
  codes_seen = record {
    bounds = record {
      within = All-map (IsWithin (pos 0) (pos (length list - 1))) as_value codes
          (All-from_get_or (λ code. IsWithin (pos 0) (pos (length list - 1)) (as_value code)) codes 0
          (λ row lt. let low = low_code row lt in (omega (arith, ints), omega (arith, ints))));
      some = λ h. let lt = ltb-true 0 (length list) h in (code_there 0 lt, code_there (length list - 1) (omega arith));
      none = λ h. let le = ltb-false 0 (length list) h in (
        All-map (λ value. value ≡ None) as_value codes (All-from_get_or (λ code. as_value code ≡ None) codes 0 (λ row lt. let low = low_code row lt in absurd (omega arith))),
        refl,
        ap pos (omega arith),
      );
    };
    null = no_null codes;
  }

pub sorted_list : (list : List (List ℕ)) → IsAscending list → IsStrictlySortedBy (slice_cmp nat_cmp) list
sorted_list list up = sorted_from_all_adjacent nat_list_cmp_total list [] up

-- codes compare as the fields do
pub compare_codes : (fields list : List (List ℕ)) (counts codes : List ℕ) (i j : ℕ) → IsEncoded fields list counts codes → i < length fields → j < length fields
    → (get_or codes i 0 < get_or codes j 0) ↔ (slice_cmp nat_cmp (get_or fields i []) (get_or fields j []) ≡ Less)
compare_codes fields list counts codes i j is a b = (λ lt. less m n lt (in' j b) (at i a) (at j b), λ l. by l (nat_lt m n) refl (nat_lt n m) refl)
  where
    m : ℕ
    m = get_or codes i 0

    n : ℕ
    n = get_or codes j 0

    in' : (row : ℕ) → row < length fields → get_or codes row 0 < length list
    in' row lt = below fields list counts codes is (get_or codes row 0) (get_or fields row []) (code_at fields list counts codes is row lt)

    at : (row : ℕ) → row < length fields → get_or list (get_or codes row 0) [] ≡ get_or fields row []
    at row lt = get_or_from_slice_get list (get_or codes row 0) (get_or fields row []) [] (code_at fields list counts codes is row lt)

    less : (p q : ℕ) → p < q → q < length list → {x y : List ℕ} → get_or list p [] ≡ x → get_or list q [] ≡ y → slice_cmp nat_cmp x y ≡ Less
    less p q lt inside e f = rw (← e, ← f) (Less-from_sorted (slice_cmp nat_cmp) list p q [] (sorted_list list is.ascending) lt inside)

    by : slice_cmp nat_cmp (get_or fields i []) (get_or fields j []) ≡ Less → (s : Bool) → nat_lt m n ≡ s → (t : Bool) → nat_lt n m ≡ t → m < n
    by l true h t k = ltb-true m n h
    by l false h true k =
        let back : slice_cmp nat_cmp (get_or fields j []) (get_or fields i []) ≡ Less = less n m (ltb-true n m k) (in' i a) (at j b) (at i a) in
        let turned = nat_list_cmp_total.antisymm (get_or fields i []) (get_or fields j []) ∙ ap ordering_reverse back in
        absurd (cc (turned, l))
    by l false h false k =
        let p = ltb-false m n h in
        let q = ltb-false n m k in
        let same : m ≡ n = omega arith in
        let one : get_or fields i [] ≡ get_or fields j [] = sym (at i a) ∙ ap (λ (code : ℕ). get_or list code []) same ∙ at j b in
        let equal : slice_cmp nat_cmp (get_or fields j []) (get_or fields j []) ≡ Equal = tied_itself nat_list_cmp_total (get_or fields j []) in
        let lower = rw one at l in
        absurd (cc (equal, lower))

pub codes_range : (count : ℕ) → count ≤ 16777216 → is_range (pos 0) (pos (count - 1)) ≡ true
unfolding is_range
codes_range count le = rw (ordered (pos 0) (pos (count - 1)) (omega (arith, ints)), narrow (pos (count - 1) -ℤ pos 0) (pos (2 ^ 63)) (omega (arith, ints))) refl
