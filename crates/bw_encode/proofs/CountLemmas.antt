-- Counts of distinct fields, one row more.
use Rattle.std.proofs.Common.{◌≡◌, ◌∙◌, refl, sym, ap, ℕ, zero, suc, ◌+◌, ◌-◌, ◌<◌, ◌≤◌, false, List, [], ◌∷◌, ◌++◌, length, map, arith, get_or, take, set, replicate, slice_get, Some}
use Rattle.std.specs.List.{AllByRecursion}
use Rattle.std.specs.Str.{bytes_eq}
use Rattle.std.specs.Cmp.Lexicographic.{nat_list_eq_equiv}
use Rattle.std.proofs.lemmas.List.Sums.{count_by_more_yes, count_by_more_no, count_by-le-length}
use Rattle.std.proofs.lemmas.Option.{slice_get-get_or}
use Rattle.std.proofs.lemmas.List.{get_or-map, map-append, map_more, length-map, length-take}
use Rattle.std.proofs.lemmas.Map.Keys.{IsDistinct-head, IsDistinct-tail, apart_from_distinct}
use Rattle.bw_encode.specs.Dictionary.{occurrences}
use Rattle.bw_encode.specs.FieldSet.{AreDistinct}
use Rattle.bw_encode.proofs.SetLemmas.{placed_size, rank_at}

module _ (p q : List ℕ → ℕ) (f : List ℕ) (here : q f ≡ p f + 1) (there : (y : List ℕ) → bytes_eq y f ≡ false → q y ≡ p y) where
  others : (xs : List (List ℕ)) → AllByRecursion (λ y. bytes_eq f y ≡ false) xs → map p xs ≡ map q xs
  others [] h = refl
  others (x ∷ xs) h = rw (there x (nat_list_eq_equiv.symm x f ∙ h.0), others xs h.1) refl

  pub bump : (xs : List (List ℕ)) (place : ℕ) → AreDistinct xs → place < length xs → get_or xs place [] ≡ f
      → set (map p xs) place (get_or (map p xs) place 0 + 1) ≡ map q xs
  bump [] place distinct lt is = absurd (omega arith)
  bump (x ∷ xs) zero distinct lt is =
      let head = IsDistinct-head bytes_eq x xs distinct in
      rw (is, here, ← others xs (rw is at head)) refl
  bump (x ∷ xs) (suc n) distinct lt is =
      let apart : bytes_eq x f ≡ false = rw (← is) (apart_from_distinct bytes_eq (x ∷ xs) zero (suc n) [] distinct (omega arith) lt) in
      rw (there x apart) (ap (λ (rest : List ℕ). p x ∷ rest) (bump xs n (IsDistinct-tail bytes_eq x xs distinct) (omega arith) is))

-- the counts among the fields before a row, and with that row's
pub counts_more : (fields xs : List (List ℕ)) (row place : ℕ) → AreDistinct xs → place < length xs → row < length fields
    → get_or xs place [] ≡ get_or fields row []
    → set (map (occurrences (take row fields)) xs) place (get_or (map (occurrences (take row fields)) xs) place 0 + 1) ≡ map (occurrences (take (row + 1) fields)) xs
counts_more fields xs row place distinct lt in' is =
    let f = get_or fields row [] in
    bump (occurrences (take row fields)) (occurrences (take (row + 1) fields)) f
    (count_by_more_yes (bytes_eq f) fields row [] in' (nat_list_eq_equiv.refl f))
    (λ y apart. count_by_more_no (bytes_eq y) fields row [] in' apart)
    xs place distinct lt is

-- before the first row nothing is counted
pub counts_none : (xs : List (List ℕ)) → replicate (length xs) 0 ≡ map (occurrences []) xs
counts_none [] = refl
counts_none (x ∷ xs) = ap (λ (rest : List ℕ). 0 ∷ rest) (counts_none xs)

pub counts_new : (n : ℕ) → take {A = ℕ} n [] ++ replicate (n - 0) 0 ≡ replicate n 0
counts_new n = grind arith

-- a count is at most the number of rows
pub count_small : (fields xs : List (List ℕ)) (place : ℕ) → place < length xs → get_or (map (occurrences fields) xs) place 0 ≤ length fields
count_small fields xs place lt = rw (get_or-map (occurrences fields) xs place [] 0 lt) (count_by-le-length (bytes_eq (get_or xs place [])) fields)

some_at : (xs : List (List ℕ)) (place : ℕ) (f : List ℕ) → place < length xs → get_or xs place [] ≡ f → slice_get xs place ≡ Some f
some_at xs place f lt is = slice_get-get_or xs place [] lt ∙ ap Some is

-- the codes of the rows before a row, and that row's
pub coded_more : (fields xs : List (List ℕ)) (codes : List ℕ) (row place : ℕ) → row < length fields → place < length xs → get_or xs place [] ≡ get_or fields row []
    → map (slice_get xs) codes ≡ map Some (take row fields) → map (slice_get xs) (codes ++ place ∷ []) ≡ map Some (take (row + 1) fields)
coded_more fields xs codes row place in' lt is coded =
    rw (map-append (slice_get xs) codes (place ∷ []), coded, some_at xs place (get_or fields row []) lt is) (sym (map_more Some fields row [] in'))

-- an element is the same whatever stands for what is past the end
pub same_default : (xs : List ℕ) (i d e : ℕ) → i < length xs → get_or xs i d ≡ get_or xs i e
same_default xs i d e lt =
    let a = slice_get-get_or xs i d lt in
    let b = slice_get-get_or xs i e lt in
    cc

-- all that is counted and coded
pub record AreCoded (fields xs : List (List ℕ)) (counts codes : List ℕ) (row : ℕ) : Type 0 where
  pub counted : counts ≡ map (occurrences (take row fields)) xs
  pub coded : map (slice_get xs) codes ≡ map Some (take row fields)

pub count_bounded : (fields xs : List (List ℕ)) (counts codes : List ℕ) (row place n : ℕ) → AreCoded fields xs counts codes row → place < length xs → n ≡ get_or counts place n → n ≤ row
count_bounded fields xs counts codes row place n coded lt is =
    let size : length counts ≡ length xs = ap length coded.counted ∙ length-map xs (occurrences (take row fields)) in
    let value : n ≡ get_or (map (occurrences (take row fields)) xs) place 0 = is ∙ same_default counts place n 0 (omega arith) ∙ ap (λ (ys : List ℕ). get_or ys place 0) coded.counted in
    let small = count_small (take row fields) xs place lt in
    omega (arith, length-take row fields)

pub coded_row : (fields xs : List (List ℕ)) (counts codes : List ℕ) (row place n : ℕ) → AreCoded fields xs counts codes row → AreDistinct xs → row < length fields
    → place < length xs → get_or xs place [] ≡ get_or fields row [] → n ≡ get_or counts place n
    → AreCoded fields xs (set counts place (n + 1)) (codes ++ place ∷ []) (row + 1)
coded_row fields xs counts codes row place n coded distinct in' lt is value =
    let size : length counts ≡ length xs = ap length coded.counted ∙ length-map xs (occurrences (take row fields)) in
    let zero' : n ≡ get_or counts place 0 = value ∙ same_default counts place n 0 (omega arith) in
    record {
      counted = rw (zero', coded.counted) (counts_more fields xs row place distinct lt in' is);
      coded = coded_more fields xs codes row place in' lt is coded.coded;
    }

-- the code of a row, by the place of its field and the place's rank
pub code_is : (fields firsts sorted : List (List ℕ)) (places ranks : List ℕ) → map (slice_get firsts) places ≡ map Some fields → map (slice_get sorted) ranks ≡ map Some firsts
    → (row place code : ℕ) → row < length places → place ≡ get_or places row place
    → (place < length ranks) × (code ≡ get_or ranks place code → (code < length sorted) × (get_or sorted code [] ≡ get_or fields row []))
code_is fields firsts sorted places ranks placed ranked row place code lt at =
    let size = placed_size firsts fields places placed in
    let in' : row < length fields = omega arith in
    let all = rank_at fields firsts sorted places ranks placed ranked row in' in
    let place' : place ≡ get_or places row 0 = at ∙ same_default places row place 0 lt in
    let low : place < length ranks = rw place' all.0 in
    (low, λ is. let code' : code ≡ get_or ranks (get_or places row 0) 0 = is ∙ same_default ranks place code 0 low ∙ ap (λ n. get_or ranks n 0) place' in rw code' (all.1, all.2))
