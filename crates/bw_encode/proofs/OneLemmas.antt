-- A column has one encoding.
use Rattle.std.proofs.Common.{◌≡◌, ◌∙◌, refl, sym, ap, subst, ℕ, zero, suc, List, [], ◌∷◌, map, Some, arith, get_or, slice_get, Contains, inl, inr, ◌⊎◌}
use Rattle.std.specs.Cmp.Lexicographic.{slice_cmp, nat_list_cmp_total}
use Rattle.std.specs.List.Sorted.{IsStrictlySortedBy}
use Rattle.std.specs.Ordering.{nat_cmp, ordering_reverse}
use Rattle.std.specs.declared.cmp.Ordering.TheVariants.{Less, Equal}
use Rattle.std.proofs.lemmas.Cmp.{tied_itself}
use Rattle.std.proofs.lemmas.List.Elements.{All-contains, Contains-get_or}
use Rattle.std.proofs.lemmas.Map.Keys.{Less-from_sorted}
use Rattle.std.proofs.lemmas.Option.{get_or_from_slice_get, slice_get_within}
use Rattle.bw_encode.specs.Column.{Encoding, Numbers, Codes, IsEncodingOf}
use Rattle.bw_encode.specs.Dictionary.{IsAscending, IsEncoded, occurrences}
use Rattle.bw_encode.proofs.CodeLemmas.{one_place, sorted_list}
use Rattle.bw_encode.proofs.NumberLemmas.{values_read}
use Rattle.bw_encode.proofs.SetLemmas.{spelled_at}
use Rattle.bw_encode.proofs.TableLemmas.{any_default}

abbrev Sorted : List (List ℕ) → Type 0
Sorted list = IsStrictlySortedBy (slice_cmp nat_cmp) list

-- what is among a first text and others is the first, or is among the others
first_or_later : (y : List ℕ) (ys : List (List ℕ)) (x : List ℕ) → Contains (y ∷ ys) x → (y ≡ x) ⊎ Contains ys x
first_or_later y ys x (zero, lt, e) = inl e
first_or_later y ys x (suc i, lt, e) = inr (i, omega arith, e)

here : (x : List ℕ) (xs : List (List ℕ)) → Contains (x ∷ xs) x
here x xs = (0, omega arith, refl)

later : (x z : List ℕ) (xs : List (List ℕ)) → Contains xs z → Contains (x ∷ xs) z
later x z xs has = let lt = has.1 in (suc has.0, omega arith, has.2)

less : (x z : List ℕ) (xs : List (List ℕ)) → Sorted (x ∷ xs) → Contains xs z → slice_cmp nat_cmp x z ≡ Less
less x z xs sorted has = let lt = has.1 in subst (λ y. slice_cmp nat_cmp x y ≡ Less) has.2 (Less-from_sorted (slice_cmp nat_cmp) (x ∷ xs) 0 (suc has.0) z sorted (omega arith) (omega arith))

apart : (x y : List ℕ) → slice_cmp nat_cmp x y ≡ Less → slice_cmp nat_cmp y x ≡ Less → ⊥
apart x y a b = let turned = nat_list_cmp_total.antisymm x y ∙ ap ordering_reverse b in cc (turned, a)

not_itself : (x : List ℕ) → slice_cmp nat_cmp x x ≡ Less → ⊥
not_itself x a = let equal : slice_cmp nat_cmp x x ≡ Equal = tied_itself nat_list_cmp_total x in cc (equal, a)

-- two sorted lists of the same texts are equal
same_list : (xs ys : List (List ℕ)) → Sorted xs → Sorted ys → ((x : List ℕ) → Contains xs x → Contains ys x) → ((x : List ℕ) → Contains ys x → Contains xs x) → xs ≡ ys
unfolding IsStrictlySortedBy
same_list [] [] a b to from = refl
same_list [] (y ∷ ys) a b to from = let no = (from y (here y ys)).1 in absurd (omega arith)
same_list (x ∷ xs) [] a b to from = let no = (to x (here x xs)).1 in absurd (omega arith)
same_list (x ∷ xs) (y ∷ ys) a b to from = rw (head, same_list xs ys a.1 b.1 tail_to tail_from) refl
  where
    heads : (y ≡ x) ⊎ Contains ys x → (x ≡ y) ⊎ Contains xs y → x ≡ y
    heads (inl e) other = sym e
    heads (inr h) (inl e) = e
    heads (inr h) (inr k) = absurd (apart x y (less x y xs a k) (less y x ys b h))

    head : x ≡ y
    head = heads (first_or_later y ys x (to x (here x xs))) (first_or_later x xs y (from y (here y ys)))

    drop_to : (z : List ℕ) → Contains xs z → (y ≡ z) ⊎ Contains ys z → Contains ys z
    drop_to z has (inl e) = absurd (not_itself x (subst (λ w. slice_cmp nat_cmp x w ≡ Less) (sym (head ∙ e)) (less x z xs a has)))
    drop_to z has (inr h) = h

    tail_to : (z : List ℕ) → Contains xs z → Contains ys z
    tail_to z has = drop_to z has (first_or_later y ys z (to z (later x z xs has)))

    drop_from : (z : List ℕ) → Contains ys z → (x ≡ z) ⊎ Contains xs z → Contains xs z
    drop_from z has (inl e) = absurd (not_itself y (subst (λ w. slice_cmp nat_cmp y w ≡ Less) (sym (sym head ∙ e)) (less y z ys b has)))
    drop_from z has (inr h) = h

    tail_from : (z : List ℕ) → Contains ys z → Contains xs z
    tail_from z has = drop_from z has (first_or_later x xs z (from z (later y z ys has)))

-- codes that stand for the same fields in one list are equal
same_codes : (list : List (List ℕ)) → IsAscending list → (one other : List ℕ) (fields : List (List ℕ)) → map (slice_get list) one ≡ map Some fields → map (slice_get list) other ≡ map Some fields → one ≡ other
same_codes list up [] [] fields a b = refl
same_codes list up [] (j ∷ js) [] a b = absurd (cc b)
same_codes list up [] (j ∷ js) (f ∷ fs) a b = absurd (cc a)
same_codes list up (i ∷ is) js [] a b = absurd (cc a)
same_codes list up (i ∷ is) [] (f ∷ fs) a b = absurd (cc b)
same_codes list up (i ∷ is) (j ∷ js) (f ∷ fs) a b =
    let x : slice_get list i ≡ Some f = cc a in
    let y : slice_get list j ≡ Some f = cc b in
    let rest : map (slice_get list) is ≡ map Some fs = cc a in
    let others : map (slice_get list) js ≡ map Some fs = cc b in
    let same : i ≡ j = one_place list up i j (slice_get_within list i f x) (slice_get_within list j f y) (get_or_from_slice_get list i f [] x ∙ sym (get_or_from_slice_get list j f [] y)) in
    rw (same, same_codes list up is js fs rest others) refl

-- the list of an encoding has the column's fields
listed : (fields list : List (List ℕ)) (counts codes : List ℕ) → IsEncoded fields list counts codes → (x : List ℕ) → Contains fields x → Contains list x
listed fields list counts codes is x has =
    let at = spelled_at list fields codes is.spelled has.0 has.1 in
    let found : Contains list (get_or list (get_or codes has.0 0) []) = Contains-get_or list (get_or codes has.0 0) [] at.1 in
    subst (Contains list) (at.2 ∙ default_at) found
  where
    default_at : get_or fields has.0 [] ≡ x
    default_at = any_default fields has.0 [] x has.1 ∙ has.2

used_fields : (fields list : List (List ℕ)) (counts codes : List ℕ) → IsEncoded fields list counts codes → (x : List ℕ) → Contains list x → Contains fields x
used_fields fields list counts codes is x has = All-contains (Contains fields) list x is.used has

same_lists : (fields one other : List (List ℕ)) (m n codes codes' : List ℕ) → IsEncoded fields one m codes → IsEncoded fields other n codes' → one ≡ other
same_lists fields one other m n codes codes' a b = same_list one other (sorted_list one a.ascending) (sorted_list other b.ascending)
    (λ x has. listed fields other n codes' b x (used_fields fields one m codes a x has)) (λ x has. listed fields one m codes a x (used_fields fields other n codes' b x has))

pub one_encoding : (fields : List (List ℕ)) (one other : Encoding) → IsEncodingOf fields one → IsEncodingOf fields other → one ≡ other
one_encoding fields (Numbers values) (Numbers others) a b = ap Numbers (values_read fields values a.fit a.spelled ∙ sym (values_read fields others b.fit b.spelled))
one_encoding fields (Numbers values) (Codes list counts codes) a b = absurd (b.0 values a)
one_encoding fields (Codes list counts codes) (Numbers values) a b = absurd (a.0 values b)
one_encoding fields (Codes list counts codes) (Codes list' counts' codes') a b = rw (lists, counted, same) refl
  where
    lists : list ≡ list'
    lists = same_lists fields list list' counts counts' codes codes' a.1 b.1

    counted : counts ≡ counts'
    counted = a.1.counted ∙ ap (map (occurrences fields)) lists ∙ sym b.1.counted

    same : codes ≡ codes'
    same = same_codes list' b.1.ascending codes codes' fields (subst (λ xs. map (slice_get xs) codes ≡ map Some fields) lists a.1.spelled) b.1.spelled
