-- Totals of some rows and others.
use Rattle.std.proofs.Common.{◌≡◌, ◌∙◌, refl, sym, ap, ℕ, ℤ, pos, ◌+ℤ◌, List, [], ◌∷◌, ◌++◌, length}
use Rattle.std.proofs.Common.{length-append, append-nil, Option, Some, None, arith}
use Rattle.std.specs.List.{fold, reduce}
use Rattle.std.specs.Int.{int_min, int_max}
use Rattle.std.proofs.lemmas.List.Sums.{fold-append}
use Rattle.std.proofs.lemmas.List.Elements.{filter_map-append}
use Rattle.std.proofs.lemmas.Int.{ints, clamps}
use Rattle.bw_model.specs.declared.query.Item.{Item}
use Rattle.bw_model.specs.declared.query.Item.TheVariants.{Plain, CountAll, Count, Sum, Min, Max}
use Rattle.bw_model.specs.Row.{Value, value_in}
use Rattle.bw_model.specs.Total.{combine_totals, present, total}

-- totals of some values and others
reduce_append : (f : ℤ → ℤ → ℤ) → ((a b c : ℤ) → f (f a b) c ≡ f a (f b c)) → (xs ys : List ℤ)
    → (both : Option ℤ → Option ℤ → Option ℤ) → ((others : Option ℤ) → both None others ≡ others) → ((a : ℤ) → both (Some a) None ≡ Some a) → ((a b : ℤ) → both (Some a) (Some b) ≡ Some (f a b))
    → reduce f (xs ++ ys) ≡ both (reduce f xs) (reduce f ys)
reduce_append f assoc [] ys both none left all = sym (none (reduce f ys))
reduce_append f assoc (x ∷ xs) [] both none left all = ap (λ l. Some (fold f x l)) (append-nil xs) ∙ sym (left (fold f x xs))
reduce_append f assoc (x ∷ xs) (y ∷ ys) both none left all = ap Some (fold-append f x xs (y ∷ ys) ∙ shift (fold f x xs) y ys) ∙ sym (all (fold f x xs) (fold f y ys))
  where
    shift : (a b : ℤ) (zs : List ℤ) → fold f (f a b) zs ≡ f a (fold f b zs)
    shift a b [] = refl
    shift a b (z ∷ zs) = ap (λ k. fold f k zs) (assoc a b z) ∙ shift a (f b z) zs

sum_assoc : (a b c : ℤ) → (a +ℤ b) +ℤ c ≡ a +ℤ (b +ℤ c)
sum_assoc a b c = omega (arith, ints)

min_assoc : (a b c : ℤ) → int_min (int_min a b) c ≡ int_min a (int_min b c)
min_assoc a b c = omega (arith, ints, clamps)

max_assoc : (a b c : ℤ) → int_max (int_max a b) c ≡ int_max a (int_max b c)
max_assoc a b c = omega (arith, ints, clamps)

present_append : (column : ℕ) (rows others : List (List Value)) → present column (rows ++ others) ≡ present column rows ++ present column others
present_append column rows others = filter_map-append (λ row. value_in row column) rows others

-- the total of some rows and others
pub total_append : (item : Item) (rows others : List (List Value)) → total item (rows ++ others) ≡ combine_totals item (total item rows) (total item others)
total_append (Plain column) rows others = refl
total_append CountAll rows others = ap (λ k. Some (pos k)) (length-append rows others)
total_append (Count column) rows others = ap (λ xs. Some (pos (length xs))) (present_append column rows others) ∙ ap (λ k. Some (pos k)) (length-append (present column rows) (present column others))
total_append (Sum column) rows others =
    ap (reduce (λ a b. a +ℤ b)) (present_append column rows others) ∙ reduce_append (λ a b. a +ℤ b) sum_assoc (present column rows) (present column others) (combine_totals (Sum column)) (λ o. refl) (λ a. refl) (λ a b. refl)
total_append (Min column) rows others =
    ap (reduce int_min) (present_append column rows others) ∙ reduce_append int_min min_assoc (present column rows) (present column others) (combine_totals (Min column)) (λ o. refl) (λ a. refl) (λ a b. refl)
total_append (Max column) rows others =
    ap (reduce int_max) (present_append column rows others) ∙ reduce_append int_max max_assoc (present column rows) (present column others) (combine_totals (Max column)) (λ o. refl) (λ a. refl) (λ a b. refl)
