-- Numbers that a value is looked up among: how they are found, and that their order is no matter.
-- The items of a list, in any order.
use Rattle.std.proofs.Common.{◌≡◌, ◌∙◌, refl, sym, ap, subst, ◌⊎◌, inl, inr, ℕ, ◌<◌, ◌≤◌, ℤ, ◌<ℤ◌}
use Rattle.std.proofs.Common.{leb, eqb}
use Rattle.std.proofs.Common.{◌==◌, Bool, true, false, List, [], ◌∷◌, ◌++◌, map, take, Some, None}
use Rattle.std.proofs.Common.{Result, Ok, Err, length, get_or, ◌+◌, arith, IsPermutation, IsSorted}
use Rattle.std.proofs.Common.{Less, Equal, Greater, int_cmp, int_eq, is_ok}
use Rattle.std.specs.List.{dedup, list_any, Contains}
use Rattle.std.specs.List.Sorted.{IsBinarySearchResult, IsPartitionPoint, IsSearchInRange}
use Rattle.std.specs.List.Sorted.{IsStrictlySortedBy}
use Rattle.std.specs.Ordering.{is_lt, ordering_reverse}
use Rattle.std.proofs.lemmas.Bool.{eqb-true}
use Rattle.std.proofs.lemmas.Bool.Decides.{Decides-int_eq, leb_tells}
use Rattle.std.proofs.lemmas.Cmp.{int_cmp_total, int_ranked, int_eq_equiv}
use Rattle.std.proofs.lemmas.Int.{ints}
use Rattle.std.proofs.lemmas.List.Sorted.{Contains-permutation, IsPermutation-sym}
use Rattle.std.proofs.lemmas.List.Sorted.{searchable_from_sorted}
use Rattle.std.proofs.lemmas.List.Folds.{Any-from_list_any}
use Rattle.std.proofs.lemmas.List.Kept.{Contains-dedup, Contains-from_dedup}
use Rattle.std.proofs.lemmas.List.Kept.{IsStrictlySortedBy-dedup}
use Rattle.std.proofs.lemmas.Map.Keys.{Less-from_sorted}
use Rattle.std.proofs.lemmas.Map.Views.{list_any-from_Contains, Contains-from_any}
use Rattle.std.proofs.lemmas.List.{get_or_default, map-append, take_more}
use Rattle.std.proofs.lemmas.Simd.{map-map}
use Rattle.bw_model.specs.declared.cond.Op.TheVariants.{Eq}
use Rattle.bw_model.specs.declared.cond.Operand.{Operand}
use Rattle.bw_model.specs.declared.cond.Operand.TheVariants.{Col, Lit, Null}
use Rattle.bw_model.specs.Cond.{operand_value}
use Rattle.bw_model.specs.declared.cond.Truth.{Truth}
use Rattle.bw_model.specs.declared.cond.Truth.TheVariants.{No, Unknown, Yes}
use Rattle.bw_model.specs.Row.{Value, value_in}
use Rattle.bw_model.specs.Truth.{any_of, in_list, compare_values, greatest, truth_from}
use Rattle.bw_rowwise.proofs.LogicLemmas.{greatest_assoc, greatest_comm}
use Rattle.bw_rowwise.specs.Numbers.{among_numbers}
use Rattle.bw_rowwise.specs.Prepared.{null_truth}
use Rattle.bw_rowwise.proofs.PreparedLemmas.{member_absorbed}

-- what one of the numbers is, and what the rest has
here_or_there : (here there : Bool) (numbers : List ℤ) (n m : ℤ) → int_eq n m ≡ here → list_any (int_eq n) numbers ≡ there
    → greatest (truth_from here) (truth_from there) ≡ truth_from (list_any (int_eq n) (m ∷ numbers))
here_or_there true there numbers n m is has = rw (is) refl
here_or_there false there numbers n m is has = rw (is, has) refl

-- a number is one of the numbers, or it isn't
pub number_among : (n : ℤ) (numbers : List ℤ) → among_numbers (Some n) numbers ≡ truth_from (list_any (int_eq n) numbers)
number_among n [] = refl
number_among n (m ∷ numbers) = ap (greatest (truth_from (int_eq n m))) (number_among n numbers) ∙ here_or_there (int_eq n m) (list_any (int_eq n) numbers) numbers n m refl refl

-- null may be any of the numbers
null_among : (n : ℤ) (numbers : List ℤ) → among_numbers None (n ∷ numbers) ≡ Unknown
null_among n [] = refl
null_among n (m ∷ numbers) = ap (greatest Unknown) (null_among m numbers)

pub null_among_some : (numbers : List ℤ) (len : ℕ) → len ≡ length numbers → false ≡ (len == 0) → among_numbers None numbers ≡ Unknown
null_among_some [] len same some = let none : false ≡ true = some ∙ ap (λ k. k == 0) same in absurd (cc none)
null_among_some (n ∷ numbers) len same some = null_among n numbers

equal_numbers : (x y : ℤ) → int_eq x y ≡ true → x ≡ y
equal_numbers x y = (Decides-int_eq x y).0

-- a number is below those after a place, and above those before it
not_at : (n : ℤ) (numbers : List ℤ) (i k : ℕ) → IsPartitionPoint (λ m. int_cmp m n ≡ Less) (λ m. int_cmp m n ≡ Greater) numbers i → k < length numbers
    → get_or numbers k n ≡ n → ((leb i k ≡ true) × (i ≤ k)) ⊎ ((leb i k ≡ false) × (k < i)) → ⊥
not_at n numbers i k parted lt is (inl above) =
    let greater : n <ℤ get_or numbers k n = int_ranked (get_or numbers k n) n Greater (sym (parted.1 k n above.1 lt)) in omega (arith, ints)
not_at n numbers i k parted lt is (inr below) =
    let less : get_or numbers k n <ℤ n = int_ranked (get_or numbers k n) n Less (sym (parted.0 k n (omega arith) below.1)) in omega (arith, ints)

-- a number that isn't found isn't there
not_there : (n : ℤ) (numbers : List ℤ) (i : ℕ) → IsSorted int_cmp numbers → IsBinarySearchResult (λ m. int_cmp m n) numbers (Err i) → Contains numbers n → ⊥
not_there n numbers i up found (k, lt, is) =
    not_at n numbers i k (found (searchable_from_sorted int_cmp_total (λ m. m) numbers n up)) lt is (leb_tells i k)

absent : (b : Bool) → (b ≡ true → ⊥) → false ≡ b
absent false never = refl
absent true never = absurd (never refl)

-- what a search by halving finds in ascending numbers
pub searched : (n : ℤ) (numbers : List ℤ) (r : Result ℕ ℕ) → IsSearchInRange r (length numbers) → IsSorted int_cmp numbers → IsBinarySearchResult (λ m. int_cmp m n) numbers r
    → is_ok r ≡ list_any (int_eq n) numbers
searched n numbers (Ok i) range up found =
    sym (list_any-from_Contains int_eq_equiv n numbers (i, range, int_ranked (get_or numbers i n) n Equal (sym (found n))))
searched n numbers (Err i) range up found =
    absent (list_any (int_eq n) numbers) (λ is. not_there n numbers i up found (Contains-from_any equal_numbers n numbers is))

alike : (a b : Bool) → (a ≡ true → b ≡ true) → (b ≡ true → a ≡ true) → a ≡ b
alike true b to from = sym (to refl)
alike false true to from = from refl
alike false false to from = refl

none_contained : (n : ℤ) → Contains {X = ℤ} [] n → ⊥
none_contained n c = omega (arith, c.1)

-- lists with the same members are the same numbers
same_numbers : (x : Value) (xs ys : List ℤ) → ((n : ℤ) → Contains xs n → Contains ys n) → ((n : ℤ) → Contains ys n → Contains xs n) → among_numbers x ys ≡ among_numbers x xs
same_numbers None [] [] to from = refl
same_numbers None (x ∷ xs) (y ∷ ys) to from = null_among y ys ∙ sym (null_among x xs)
same_numbers None [] (y ∷ ys) to from = absurd (none_contained y (from y (0, omega arith, refl)))
same_numbers None (x ∷ xs) [] to from = absurd (none_contained x (to x (0, omega arith, refl)))
same_numbers (Some n) xs ys to from =
    number_among n ys
    ∙ ap truth_from (alike (list_any (int_eq n) ys) (list_any (int_eq n) xs)
    (λ is. list_any-from_Contains int_eq_equiv n xs (from n (Contains-from_any equal_numbers n ys is)))
    (λ is. list_any-from_Contains int_eq_equiv n ys (to n (Contains-from_any equal_numbers n xs is))))
    ∙ sym (number_among n xs)

-- in another order and each once they're the same numbers
pub sorted_same : (x : Value) (numbers sorted once : List ℤ) → IsPermutation numbers sorted → once ≡ dedup int_eq sorted → among_numbers x once ≡ among_numbers x numbers
sorted_same x numbers sorted once moved is =
    ap (among_numbers x) is
    ∙ same_numbers x sorted (dedup int_eq sorted) (Contains-dedup int_eq_equiv equal_numbers sorted) (Contains-from_dedup int_eq sorted)
    ∙ same_numbers x numbers sorted (λ n c. Contains-permutation numbers sorted n moved c) (λ n c. Contains-permutation sorted numbers n (IsPermutation-sym numbers sorted moved) c)

-- sorted numbers are sorted when each stands once
pub once_ascending : (sorted once : List ℤ) → IsSorted int_cmp sorted → once ≡ dedup int_eq sorted → IsSorted int_cmp once
once_ascending sorted once up is = λ k d low high.
    let next = Less-from_sorted int_cmp once k (k + 1) d (subst (IsStrictlySortedBy int_cmp) (sym is) (IsStrictlySortedBy-dedup int_cmp_total (λ x y. refl) sorted up)) (omega arith) high in
    ap is_lt (int_cmp_total.antisymm (get_or once (k + 1) d) (get_or once k d) ∙ ap ordering_reverse next)

-- one item more
pub among_more : (x : Value) (items : List Value) (item : Value) → in_list x (items ++ item ∷ []) ≡ greatest (in_list x items) (compare_values Eq x item)
among_more x [] item = greatest_comm (compare_values Eq x item) No
among_more x (y ∷ items) item = ap (greatest (compare_values Eq x y)) (among_more x items item) ∙ sym (greatest_assoc (compare_values Eq x y) (in_list x items) (compare_values Eq x item))

-- what comes last may stand between the numbers and the others
pub beside : (a b c : Truth) → greatest (greatest a c) b ≡ greatest (greatest a b) c
beside a b c = greatest_assoc a c b ∙ ap (greatest a) (greatest_comm c b) ∙ sym (greatest_assoc a b c)

-- one item more in a list, at its end
items_more : (x : Value) (row : List Value) (items : List Operand) (i : ℕ) (d : Operand) → i < length items
    → in_list x (map (operand_value row) (take (i + 1) items)) ≡ greatest (in_list x (map (operand_value row) (take i items))) (compare_values Eq x (operand_value row (get_or items i d)))
items_more x row items i d within =
    ap (λ (those : List Operand). in_list x (map (operand_value row) those)) (take_more items i d within)
    ∙ ap (in_list x) (map-append (operand_value row) (take i items) (get_or items i d ∷ []))
    ∙ among_more x (map (operand_value row) (take i items)) (operand_value row (get_or items i d))

-- a number more among numbers
pub number_pushed : (x : Value) (numbers : List ℤ) (n : ℤ) → among_numbers x (numbers ++ n ∷ []) ≡ greatest (among_numbers x numbers) (compare_values Eq x (Some n))
number_pushed x numbers n = ap (in_list x) (map-append Some numbers (n ∷ [])) ∙ among_more x (map Some numbers) (Some n)

-- a column more among columns, which may have it already
pub column_pushed : (x : Value) (row : List Value) (columns : List ℕ) (column : ℕ)
    → in_list x (map (value_in row) (columns ++ column ∷ [])) ≡ greatest (in_list x (map (value_in row) columns)) (compare_values Eq x (value_in row column))
column_pushed x row columns column = ap (in_list x) (map-append (value_in row) columns (column ∷ [])) ∙ among_more x (map (value_in row) columns) (value_in row column)

pub column_repeated : (x : Value) (row : List Value) (columns : List ℕ) (column : ℕ) → list_any (λ other. other == column) columns ≡ true
    → in_list x (map (value_in row) columns) ≡ greatest (in_list x (map (value_in row) columns)) (compare_values Eq x (value_in row column))
column_repeated x row columns column is =
    let there = Any-from_list_any (λ other. other == column) columns is in
    let same : get_or columns there.0 0 ≡ column = get_or_default columns there.0 0 there.1 there.2 ∙ there.3 ∙ eqb-true there.1 column there.4 in
    let value = λ (other : ℕ). compare_values Eq x (value_in row other) in
    let all = map-map (compare_values Eq x) (value_in row) columns in
    sym (ap (λ l. greatest (any_of l) (value column)) all ∙ (member_absorbed value columns there.0 (get_or columns there.0 0) (value column) there.2 (ap value (sym same ∙ get_or_default columns there.0 0 _ there.2))).any ∙ sym (ap any_of all))

null_item : (x : Value) → compare_values Eq x None ≡ Unknown
null_item None = refl
null_item (Some n) = refl

-- what a NULL decides is decided by one
null_again : (has_null : Bool) → greatest (null_truth has_null) Unknown ≡ Unknown
null_again true = refl
null_again false = refl

-- the item at hand goes to the numbers or to the columns, or is noted
module _ (x : Value) (row : List Value) (items : List Operand) (numbers columns : Truth) (has_null : Bool) (i : ℕ) (d : Operand) (within : i < length items)
    (so_far : greatest numbers (greatest columns (null_truth has_null)) ≡ in_list x (map (operand_value row) (take i items))) where
  item_more : (item : Operand) → get_or items i d ≡ item
      → greatest (greatest numbers (greatest columns (null_truth has_null))) (compare_values Eq x (operand_value row item)) ≡ in_list x (map (operand_value row) (take (i + 1) items))
  item_more item is =
      ap (λ (t : Truth). greatest t (compare_values Eq x (operand_value row item))) so_far
      ∙ sym (items_more x row items i d within ∙ ap (λ (item : Operand). greatest (in_list x (map (operand_value row) (take i items))) (compare_values Eq x (operand_value row item))) is)

  pub number_more : (n : ℤ) → get_or items i d ≡ Lit n
      → greatest (greatest numbers (compare_values Eq x (Some n))) (greatest columns (null_truth has_null)) ≡ in_list x (map (operand_value row) (take (i + 1) items))
  number_more n is = beside numbers (greatest columns (null_truth has_null)) (compare_values Eq x (Some n)) ∙ item_more (Lit n) is

  pub column_more : (column : ℕ) → get_or items i d ≡ Col column
      → greatest numbers (greatest (greatest columns (compare_values Eq x (value_in row column))) (null_truth has_null)) ≡ in_list x (map (operand_value row) (take (i + 1) items))
  column_more column is =
      let t = compare_values Eq x (value_in row column) in
      ap (greatest numbers) (beside columns (null_truth has_null) t) ∙ sym (greatest_assoc numbers (greatest columns (null_truth has_null)) t) ∙ item_more (Col column) is

  pub null_more : get_or items i d ≡ Null
      → greatest numbers (greatest columns Unknown) ≡ in_list x (map (operand_value row) (take (i + 1) items))
  null_more is =
      ap (greatest numbers) (ap (greatest columns) (sym (null_again has_null)) ∙ sym (greatest_assoc columns (null_truth has_null) Unknown))
      ∙ sym (greatest_assoc numbers (greatest columns (null_truth has_null)) Unknown)
      ∙ ap (greatest (greatest numbers (greatest columns (null_truth has_null)))) (sym (null_item x))
      ∙ item_more Null is
