-- The size of a total, and totals of one more row.
use Rattle.std.proofs.Common.{◌≡◌, ◌∙◌, refl, sym, ap, ◌⊎◌, inl, inr, ℕ, ℤ, pos, ◌+◌, ◌≤◌, ◌+ℤ◌}
use Rattle.std.proofs.Common.{List, [], ◌∷◌, ◌++◌, length, length-append, append-nil, Option, Some}
use Rattle.std.proofs.Common.{None, FitsSigned, w64, arith, option_map, option_to_list}
use Rattle.std.specs.List.{fold, reduce, cons_option}
use Rattle.std.specs.Int.{int_min, int_max}
use Rattle.std.proofs.lemmas.List.Sums.{fold-append}
use Rattle.std.proofs.lemmas.List.Elements.{filter_map-append}
use Rattle.std.proofs.lemmas.Int.{ints, clamps}
use Rattle.bw_model.specs.declared.query.Item.{Item}
use Rattle.bw_model.specs.declared.query.Item.TheVariants.{Plain, CountAll, Count, Sum, Min, Max}
use Rattle.bw_model.specs.Row.{Value, value_in}
use Rattle.bw_model.specs.Total.{total, present, of_both}
use Rattle.bw_rowwise.specs.Accumulator.{Tally, tally_of, IsTotalOfRows, answer_with, include_value}
use Rattle.bw_rowwise.specs.Accumulator.{value_for}

pub small_one : (rows : ℕ) (n : ℤ) → FitsSigned w64 n → IsTotalOfRows (rows + 1) (Some n)
small_one rows n fits x is =
    let same : n ≡ x = cc in (omega (arith, ints), omega (arith, ints))

pub small_more : (rows : ℕ) (answer : Option ℤ) → IsTotalOfRows rows answer → IsTotalOfRows (rows + 1) answer
small_more rows answer small x is = let s = small x is in (omega (arith, ints), omega (arith, ints))

pub small_sum : (rows : ℕ) (m n sum : ℤ) (next : Option ℤ) → IsTotalOfRows rows (Some m) → FitsSigned w64 n → sum ≡ m +ℤ n → next ≡ Some sum → IsTotalOfRows (rows + 1) next
small_sum rows m n sum next small fits is then x e =
    let s = small m refl in
    let same : sum ≡ x = cc in (omega (arith, ints), omega (arith, ints))

pub small_greatest : (rows : ℕ) (m n greatest : ℤ) (next : Option ℤ) → IsTotalOfRows rows (Some m) → FitsSigned w64 n → greatest ≡ int_max m n → next ≡ Some greatest → IsTotalOfRows (rows + 1) next
small_greatest rows m n greatest next small fits is then x e =
    let s = small m refl in
    let same : greatest ≡ x = cc in (omega (arith, ints, clamps), omega (arith, ints, clamps))

-- all but the least and the greatest add
pub adds : (item : Item) (m n : ℤ) →
    ((column : ℕ) × (item ≡ Plain column)) ⊎ ((item ≡ CountAll) ⊎ (((column : ℕ) × (item ≡ Count column)) ⊎ ((column : ℕ) × (item ≡ Sum column)))) →
    m +ℤ n ≡ of_both item m n
adds item m n (inl (column, is)) = ap (λ (item : Item). of_both item m n) (sym is)
adds item m n (inr (inl is)) = ap (λ (item : Item). of_both item m n) (sym is)
adds item m n (inr (inr (inl (column, is)))) = ap (λ (item : Item). of_both item m n) (sym is)
adds item m n (inr (inr (inr (column, is)))) = ap (λ (item : Item). of_both item m n) (sym is)

pub small_below : (rows limit : ℕ) (answer : Option ℤ) → rows ≤ limit → IsTotalOfRows rows answer → IsTotalOfRows limit answer
small_below rows limit answer le small x is = let s = small x is in (omega (arith, ints), omega (arith, ints))

-- totals of some rows and others
pub small_left : (rows more : ℕ) (answer : Option ℤ) → IsTotalOfRows rows answer → IsTotalOfRows (rows + more) answer
small_left rows more answer small x is = let s = small x is in (omega (arith, ints), omega (arith, ints))

pub small_right : (rows more : ℕ) (answer : Option ℤ) → IsTotalOfRows more answer → IsTotalOfRows (rows + more) answer
small_right rows more answer small x is = let s = small x is in (omega (arith, ints), omega (arith, ints))

pub small_both : (rows more : ℕ) (a b total : ℤ) → IsTotalOfRows rows (Some a) → IsTotalOfRows more (Some b) → total ≡ a +ℤ b → IsTotalOfRows (rows + more) (Some total)
small_both rows more a b total small other is x e =
    let s = small a refl in
    let o = other b refl in
    let same : total ≡ x = cc in (omega (arith, ints), omega (arith, ints))

reduce_append : (f : ℤ → ℤ → ℤ) (xs : List ℤ) (value : Value) → reduce f (xs ++ option_to_list value) ≡ include_value f (reduce f xs) value
reduce_append f [] None = refl
reduce_append f [] (Some n) = refl
reduce_append f (x ∷ xs) None = ap (λ ys. Some (fold f x ys)) (append-nil xs)
reduce_append f (x ∷ xs) (Some n) = ap Some (fold-append f x xs (n ∷ []))

present_append : (column : ℕ) (rows : List (List Value)) (row : List Value) → present column (rows ++ row ∷ []) ≡ present column rows ++ option_to_list (value_in row column)
present_append column rows row = filter_map-append (λ row. value_in row column) rows (row ∷ []) ∙ ap (λ ys. present column rows ++ ys) (one (value_in row column))
  where
    one : (value : Value) → cons_option value [] ≡ option_to_list value
    one None = refl
    one (Some n) = refl

length_append : (xs : List ℤ) (value : Value) → Some (pos (length (xs ++ option_to_list value))) ≡ include_value (λ a b. a +ℤ b) (Some (pos (length xs))) (option_map (λ _. pos 1) value)
length_append xs None = ap (λ ys. Some (pos (length ys))) (append-nil xs)
length_append xs (Some n) = ap (λ k. Some (pos k)) (length-append xs (n ∷ []))

-- the total over some rows and one more
pub total_append : (item : Item) (rows : List (List Value)) (row : List Value) → total item (rows ++ row ∷ []) ≡ answer_with item (total item rows) (value_for item row)
total_append (Plain column) rows row = refl
total_append CountAll rows row = ap (λ k. Some (pos k)) (length-append rows (row ∷ []))
total_append (Count column) rows row = ap (λ ys. Some (pos (length ys))) (present_append column rows row) ∙ length_append (present column rows) (value_in row column)
total_append (Sum column) rows row = ap (reduce (λ a b. a +ℤ b)) (present_append column rows row) ∙ reduce_append (λ a b. a +ℤ b) (present column rows) (value_in row column)
total_append (Min column) rows row = ap (reduce int_min) (present_append column rows row) ∙ reduce_append int_min (present column rows) (value_in row column)
total_append (Max column) rows row = ap (reduce int_max) (present_append column rows row) ∙ reduce_append int_max (present column rows) (value_in row column)

-- the tally of some rows and one more
pub tally_append : (item : Item) (count : ℕ) (answer next : Option ℤ) (now : Tally) (value : Value) (rows : List (List Value)) (row : List Value) →
    record { item = item; count = count; answer = answer } ≡ now → next ≡ answer_with item answer value → value ≡ value_for now.item row → now ≡ tally_of now.item rows →
    record { item = item; count = count + 1; answer = next } ≡ tally_of now.item (rows ++ row ∷ [])
tally_append item count answer next now value rows row view with_value is before =
    let same_item : item ≡ now.item = ap (λ t. t.item) view in
    let same_count : count ≡ length rows = ap (λ t. t.count) (view ∙ before) in
    let same_answer : answer ≡ total now.item rows = ap (λ t. t.answer) (view ∙ before) in
    let more = total_append now.item rows row in
    let longer = length-append rows (row ∷ []) in
    cc
