-- Sorted fields, and where each was before.
use Rattle.std.proofs.Common.{◌*◌, ◌-◌, ◌^◌, ◌≤◌, drop, zero, suc, subst, ◌≡◌, ◌∙◌, refl, sym, ap, ℕ, ◌+◌, ◌<◌, Bool, true, false, List, [], ◌∷◌, length, map, Some, Option, arith, get_or, set, slice_get, nat_lt, All}
use borrow.Author.Tests.{ltb-true, ltb-false}
use Rattle.std.specs.Cmp.Lexicographic.{slice_cmp, bytes_decides, nat_list_cmp_total, nat_list_eq_equiv}
use Rattle.std.specs.List.Sorted.{IsPermutation, IsSorted}
use Rattle.std.specs.Option.{option_map}
use Rattle.std.specs.Ordering.{is_lt, nat_cmp, ordering_reverse, ordering_then}
use Rattle.std.specs.declared.cmp.Ordering.{Ordering}
use Rattle.std.specs.declared.cmp.Ordering.TheVariants.{Less, Equal, Greater}
use Rattle.std.specs.Str.{bytes_eq}
use Rattle.std.proofs.lemmas.List.{get_or-map, drop-drop, get_or-drop, get_or-set_other, length-map, length-set, same_lists}
use Rattle.std.proofs.lemmas.Grind.{get_or-set_at}
use Rattle.std.proofs.lemmas.List.Elements.{Contains-get_or}
use Rattle.std.proofs.Math.Nat.{pow-le-pow_right}
use Rattle.std.proofs.lemmas.Grind.{pow_more}
use Rattle.std.proofs.lemmas.Cmp.{nat_cmp_total, tied_itself}
use Rattle.std.specs.Cmp.{nat_cmp_is}
use Rattle.std.proofs.lemmas.List.Sorted.{All-permutation, Contains-permutation, IsPermutation-map, length_permutation}
use Rattle.std.proofs.lemmas.Map.Keys.{IsDistinct-IsPermutation, apart_from_distinct}
use Rattle.std.proofs.lemmas.Option.{slice_get-get_or, slice_get-map}
use Rattle.bw_encode.specs.declared.ranked.Ranked.{Ranked}
use Rattle.bw_encode.specs.Dictionary.{IsAscending}
use Rattle.bw_encode.specs.FieldSet.{AreDistinct}
use Rattle.bw_encode.specs.Ranked.{ArePlaced, ArePrefixed, AreRanks, HasOwnPlaces, IsPrefix, entries_bytes, entry_bytes, place_in, prefix_from}
use Rattle.bw_encode.proofs.SetLemmas.{rises}
use Rattle.bw_encode.proofs.TableLemmas.{any_default}

nat_cmp_less : (m n : ℕ) → m < n → nat_cmp m n ≡ Less
nat_cmp_less m n lt = sym (nat_cmp_is m n Less lt)

nat_cmp_same : (n : ℕ) → nat_cmp n n ≡ Equal
nat_cmp_same n = tied_itself nat_cmp_total n

-- the first bytes of a text are bytes
abbrev AreBytes : ℕ → List ℕ → Type 0
AreBytes n bytes = (i : ℕ) → i < n → get_or bytes i 0 < 256

later_bytes : (n c : ℕ) (cs : List ℕ) → AreBytes (suc n) (c ∷ cs) → AreBytes n cs
later_bytes n c cs bytes i lt = bytes (suc i) (omega arith)

-- a lower number stays lower with the bytes after it
stays_lower : (n m m' : ℕ) (a b : List ℕ) → m < m' → AreBytes n a → prefix_from m n a < prefix_from m' n b
unfolding prefix_from
stays_lower zero m m' a b lt bytes = lt
stays_lower (suc n) m m' [] [] lt bytes = stays_lower n (m * 256) (m' * 256) [] [] (omega arith) (λ i less. omega arith)
stays_lower (suc n) m m' [] (d ∷ ds) lt bytes = stays_lower n (m * 256) (m' * 256 + d) [] ds (omega arith) (λ i less. omega arith)
stays_lower (suc n) m m' (c ∷ cs) [] lt bytes = let byte = bytes 0 (omega arith) in stays_lower n (m * 256 + c) (m' * 256) cs [] (omega arith) (later_bytes n c cs bytes)
stays_lower (suc n) m m' (c ∷ cs) (d ∷ ds) lt bytes = let byte = bytes 0 (omega arith) in stays_lower n (m * 256 + c) (m' * 256 + d) cs ds (omega arith) (later_bytes n c cs bytes)

not_lower : (cs : List ℕ) → slice_cmp nat_cmp cs [] ≡ Less → ⊥
not_lower [] e = cc e
not_lower (c ∷ cs) e = cc e

-- a text whose first bytes are a lower number is lower
lower_prefix : (n m : ℕ) (a b : List ℕ) → AreBytes n b → prefix_from m n a < prefix_from m n b → slice_cmp nat_cmp a b ≡ Less
unfolding prefix_from
lower_prefix zero m a b bytes lt = absurd (omega arith)
lower_prefix (suc n) m [] [] bytes lt = lower_prefix n (m * 256) [] [] (λ i less. omega arith) lt
lower_prefix (suc n) m [] (d ∷ ds) bytes lt = refl
lower_prefix (suc n) m (zero ∷ cs) [] bytes lt = absurd (not_lower cs (lower_prefix n (m * 256 + 0) cs [] (λ i less. omega arith) (subst (λ k. prefix_from (m * 256 + 0) n cs < prefix_from k n []) (omega arith) lt)))
lower_prefix (suc n) m (suc c ∷ cs) [] bytes lt = let back = stays_lower n (m * 256) (m * 256 + suc c) [] cs (omega arith) (λ i less. omega arith) in absurd (omega arith)
lower_prefix (suc n) m (c ∷ cs) (d ∷ ds) bytes lt = by (nat_lt c d) refl (nat_lt d c) refl
    (λ same. lower_prefix n (m * 256 + d) cs ds (later_bytes n d ds bytes) (subst (λ e. prefix_from (m * 256 + e) n cs < prefix_from (m * 256 + d) n ds) same lt))
  where
    by : (p : Bool) → nat_lt c d ≡ p → (q : Bool) → nat_lt d c ≡ q → (c ≡ d → slice_cmp nat_cmp cs ds ≡ Less) → slice_cmp nat_cmp (c ∷ cs) (d ∷ ds) ≡ Less
    by true h q k rest = let less = ltb-true c d h in rw (nat_cmp_less c d less) refl
    by false h true k rest = let more = ltb-true d c k in let back = stays_lower n (m * 256 + d) (m * 256 + c) ds cs (omega arith) (later_bytes n d ds bytes) in absurd (omega arith)
    by false h false k rest =
        let a = ltb-false c d h in
        let b = ltb-false d c k in
        let same : c ≡ d = omega arith in
        rw (same, nat_cmp_same d) (rest same)

-- there is room for one byte more, of eight
pub prefix_room : (i prefix : ℕ) → i < 8 → prefix < 256 ^ i → prefix * 256 + 256 ≤ 2 ^ 64
prefix_room i prefix lt low =
    let most : 256 ^ i ≤ 256 ^ 7 = pow-le-pow_right {n = 256} (omega arith) {i = i} {j = 7} (omega arith) in
    let few : 256 ^ 7 ≡ 72057594037927936 = refl in
    omega arith

pub byte_more : (bytes : List ℕ) (i prefix byte : ℕ) → i < 8 → byte ≡ get_or bytes i 0 → byte < 256 → prefix_from prefix (8 - i) (drop i bytes) ≡ prefix_from 0 8 bytes → prefix < 256 ^ i
    → ((j : ℕ) → j < i → get_or bytes j 0 < 256)
    → (prefix_from (prefix * 256 + byte) (8 - (i + 1)) (drop (i + 1) bytes) ≡ prefix_from 0 8 bytes) × (prefix * 256 + byte < 256 ^ (i + 1)) × ((j : ℕ) → j < i + 1 → get_or bytes j 0 < 256)
unfolding prefix_from
byte_more bytes i prefix byte lt is small value low before = (step (drop i bytes) refl, below, each)
  where
    left : 8 - i ≡ suc (8 - (i + 1))
    left = omega arith

    rest : drop 1 (drop i bytes) ≡ drop (i + 1) bytes
    rest = drop-drop 1 i bytes

    head : get_or (drop i bytes) 0 0 ≡ byte
    head = get_or-drop i bytes 0 0 ∙ let same : i + 0 ≡ i = omega arith in ap (λ n. get_or bytes n 0) same ∙ sym is

    step : (xs : List ℕ) → drop i bytes ≡ xs → prefix_from (prefix * 256 + byte) (8 - (i + 1)) (drop (i + 1) bytes) ≡ prefix_from 0 8 bytes
    step [] e =
        let none : byte ≡ 0 = sym head ∙ ap (λ (ys : List ℕ). get_or ys 0 0) e in
        let gone : drop (i + 1) bytes ≡ [] = sym rest ∙ ap (drop 1) e in
        let same : prefix * 256 + byte ≡ prefix * 256 = omega arith in
        rw (same, gone) (rw (left, e) at value)
    step (c ∷ cs) e =
        let first : c ≡ byte = sym (ap (λ (ys : List ℕ). get_or ys 0 0) e) ∙ head in
        let others : drop (i + 1) bytes ≡ cs = sym rest ∙ ap (drop 1) e in
        rw (← first, others) (rw (left, e) at value)

    below : prefix * 256 + byte < 256 ^ (i + 1)
    below = let more = pow_more 256 i in omega arith

    each : (j : ℕ) → j < i + 1 → get_or bytes j 0 < 256
    each j less = by (nat_lt j i) refl
      where
        by : (b : Bool) → nat_lt j i ≡ b → get_or bytes j 0 < 256
        by true h = before j (ltb-true j i h)
        by false h = let more = ltb-false j i h in let same : j ≡ i = omega arith in rw (same, ← is) small

pub is_prefix : (bytes : List ℕ) (i prefix : ℕ) → i ≡ 8 → prefix_from prefix (8 - i) (drop i bytes) ≡ prefix_from 0 8 bytes → ((j : ℕ) → j < i → get_or bytes j 0 < 256) → IsPrefix bytes prefix
unfolding prefix_from
is_prefix bytes i prefix e value small = record { value = rw e at value; small = λ j lt. small j (omega arith) }

-- an entry that isn't lower has no lower field
abbrev entry_cmp : Ranked → Ranked → Ordering
entry_cmp a b = ordering_then (nat_cmp a.prefix b.prefix) (ordering_then (slice_cmp nat_cmp a.bytes.now b.bytes.now) (nat_cmp a.place b.place))

no_lower_field : (a b : Ranked) → IsPrefix a.bytes.now a.prefix → IsPrefix b.bytes.now b.prefix → is_lt (entry_cmp a b) ≡ false → is_lt (slice_cmp nat_cmp a.bytes.now b.bytes.now) ≡ false
no_lower_field a b p q unless = by (slice_cmp nat_cmp a.bytes.now b.bytes.now) refl
  where
    less : slice_cmp nat_cmp a.bytes.now b.bytes.now ≡ Less → (m : Bool) → nat_lt a.prefix b.prefix ≡ m → (n : Bool) → nat_lt b.prefix a.prefix ≡ n → is_lt (entry_cmp a b) ≡ true
    less e true h n k = rw (nat_cmp_less a.prefix b.prefix (ltb-true a.prefix b.prefix h)) refl
    less e false h true k =
        let lt : prefix_from 0 8 b.bytes.now < prefix_from 0 8 a.bytes.now = subst (λ n. n < prefix_from 0 8 a.bytes.now) q.value (subst (λ n. b.prefix < n) p.value (ltb-true b.prefix a.prefix k)) in
        let back = lower_prefix 8 0 b.bytes.now a.bytes.now p.small lt in
        let turned : slice_cmp nat_cmp a.bytes.now b.bytes.now ≡ Greater = nat_list_cmp_total.antisymm a.bytes.now b.bytes.now ∙ ap ordering_reverse back in
        absurd (cc (turned, e))
    less e false h false k =
        let x = ltb-false a.prefix b.prefix h in
        let y = ltb-false b.prefix a.prefix k in
        let same : a.prefix ≡ b.prefix = omega arith in
        rw (same, nat_cmp_same b.prefix, e) refl

    by : (o : Ordering) → slice_cmp nat_cmp a.bytes.now b.bytes.now ≡ o → is_lt o ≡ false
    by Less e = let yes = less e (nat_lt a.prefix b.prefix) refl (nat_lt b.prefix a.prefix) refl in absurd (cc (yes, unless))
    by Equal e = refl
    by Greater e = refl

-- sorted entries of distinct fields ascend
pub ascending_entries : (entries : List Ranked) → IsSorted entry_cmp entries → ArePrefixed entries → AreDistinct (entries_bytes entries) → IsAscending (entries_bytes entries)
ascending_entries [] sorted prefixed distinct place lt = absurd (omega arith)
ascending_entries (x ∷ xs) sorted prefixed distinct place lt =
    let entries : List Ranked = x ∷ xs in
    let in' : place + 1 < length entries = omega (arith, length-map (x ∷ xs) entry_bytes) in
    let first : place < length entries = omega arith in
    let apart : bytes_eq (get_or (entries_bytes entries) place []) (get_or (entries_bytes entries) (place + 1) []) ≡ false = apart_from_distinct bytes_eq (entries_bytes entries) place (place + 1) [] distinct (omega arith) lt in
    let a : get_or (entries_bytes entries) place [] ≡ entry_bytes (get_or entries place x) = get_or-map entry_bytes entries place x [] first in
    let b : get_or (entries_bytes entries) (place + 1) [] ≡ entry_bytes (get_or entries (place + 1) x) = get_or-map entry_bytes entries (place + 1) x [] in' in
    let low = no_lower_field (get_or entries (place + 1) x) (get_or entries place x) (prefixed (place + 1) x in') (prefixed place x first) (sorted place x (omega arith) in') in
    rw (a, b) (rises (entry_bytes (get_or entries place x)) (entry_bytes (get_or entries (place + 1) x)) _ refl low (rw (a, b) at apart))

pub distinct_after : (before after : List Ranked) → IsPermutation before after → AreDistinct (entries_bytes before) → AreDistinct (entries_bytes after)
distinct_after before after perm distinct = IsDistinct-IsPermutation bytes_eq nat_list_eq_equiv.symm (entries_bytes before) (entries_bytes after) (IsPermutation-map entry_bytes before after perm) distinct

-- sorting leaves each place to one entry
pub own_places : (before after : List Ranked) → ArePlaced before → AreDistinct (entries_bytes before) → IsPermutation before after → HasOwnPlaces after
own_places before after placed distinct perm = record {
  low = All-permutation (λ entry. entry.place < length after) before after perm (λ i d lt. let at = placed i d lt in let size = length_permutation before after perm in omega arith);
  apart = λ i j d lt in' same.
      let size = length-map after entry_bytes in
      let first : i < length after = omega arith in
      let one : get_or (entries_bytes before) (place_in after i d) [] ≡ entry_bytes (get_or after i d) = found i d first in
      let other : get_or (entries_bytes before) (place_in after j d) [] ≡ entry_bytes (get_or after j d) = found j d in' in
      let equal : entry_bytes (get_or after i d) ≡ entry_bytes (get_or after j d) = sym one ∙ ap (λ n. get_or (entries_bytes before) n []) same ∙ other in
      let no : bytes_eq (get_or (entries_bytes after) i []) (get_or (entries_bytes after) j []) ≡ false = apart_from_distinct bytes_eq (entries_bytes after) i j [] (distinct_after before after perm distinct) lt (omega arith) in
      let no' = rw (get_or-map entry_bytes after i d [] first, get_or-map entry_bytes after j d [] in') at no in
      let yes : bytes_eq (entry_bytes (get_or after i d)) (entry_bytes (get_or after j d)) ≡ true = (bytes_decides _ _).1 equal in
      cc (yes, no');
}
  where
    found : All (λ entry. get_or (entries_bytes before) entry.place [] ≡ entry_bytes entry) after
    found = All-permutation (λ entry. get_or (entries_bytes before) entry.place [] ≡ entry_bytes entry) before after perm
        (λ i d lt. ap (λ n. get_or (entries_bytes before) n []) (placed i d lt) ∙ get_or-map entry_bytes before i d [] lt)

-- the rank of one entry more
pub ranks_more : (entries : List Ranked) (ranks : List ℕ) (rank place : ℕ) (d : Ranked) → HasOwnPlaces entries → rank < length entries → place ≡ place_in entries rank d
    → AreRanks entries rank ranks → AreRanks entries (rank + 1) (set ranks place rank)
ranks_more entries ranks rank place d own lt at so_far = record {
  size = length-set ranks place rank ∙ so_far.size;
  each = λ index e le. by index e le (nat_lt index rank) refl;
}
  where
    at' : (e : Ranked) → place ≡ place_in entries rank e
    at' e = at ∙ ap (λ (entry : Ranked). entry.place) (any_default entries rank d e lt)

    by : (index : ℕ) (e : Ranked) → index < rank + 1 → (b : Bool) → nat_lt index rank ≡ b → get_or (set ranks place rank) (place_in entries index e) 0 ≡ index
    by index e le true h =
        let less = ltb-true index rank h in
        get_or-set_other ranks place (place_in entries index e) rank 0 (λ same. own.apart index rank e less lt (same ∙ at' e)) ∙ so_far.each index e less
    by index e le false h =
        let more = ltb-false index rank h in
        let same : index ≡ rank = omega arith in
        let low : place_in entries rank e < length entries = own.low rank e lt in
        let size = so_far.size in
        let here : place < length ranks = rw (at' e) (omega arith) in
        rw same (get_or-set_at ranks place (place_in entries rank e) rank 0 (sym (at' e)) here)

-- at the rank of a field is the field
pub ranked_all : (before after : List Ranked) (ranks : List ℕ) → ArePlaced before → IsPermutation before after → AreRanks after (length after) ranks
    → map (slice_get (entries_bytes after)) ranks ≡ map Some (entries_bytes before)
ranked_all before after ranks placed perm are = same_lists _ _ size each
  where
    size : length (map (slice_get (entries_bytes after)) ranks) ≡ length (map Some (entries_bytes before))
    size = length-map ranks (slice_get (entries_bytes after)) ∙ are.size ∙ length_permutation before after perm ∙ sym (length-map before entry_bytes) ∙ sym (length-map (entries_bytes before) Some)

    within : (k : ℕ) → k < length (map (slice_get (entries_bytes after)) ranks) → k < length before
    within k lt = let e = size in let f = length-map before entry_bytes in let g = length-map (entries_bytes before) Some in omega arith

    each : (k : ℕ) (d : Option (List ℕ)) → k < length (map (slice_get (entries_bytes after)) ranks) → get_or (map (slice_get (entries_bytes after)) ranks) k d ≡ get_or (map Some (entries_bytes before)) k d
    each k d lt = by before placed perm (within k lt)
      where
        by : (entries : List Ranked) → ArePlaced entries → IsPermutation entries after → k < length entries → get_or (map (slice_get (entries_bytes after)) ranks) k d ≡ get_or (map Some (entries_bytes entries)) k d
        by [] own moved in' = absurd (omega arith)
        by (y ∷ ys) own moved in' =
            let x = get_or (y ∷ ys) k y in
            let there = Contains-permutation (y ∷ ys) after x moved (Contains-get_or (y ∷ ys) k y in') in
            let j = there.0 in
            let place : x.place ≡ k = own k y in' in
            let rank : get_or ranks k 0 ≡ j = ap (λ n. get_or ranks n 0) (sym place ∙ ap (λ (entry : Ranked). entry.place) (sym there.2)) ∙ are.each j x there.1 in
            let at : slice_get (entries_bytes after) j ≡ Some (entry_bytes x) = slice_get-map entry_bytes after j ∙ ap (option_map entry_bytes) (slice_get-get_or after j x there.1 ∙ ap Some there.2) in
            let long : k < length ranks = let e = length-map ranks (slice_get (entries_bytes after)) in omega arith in
            let many : k < length (entries_bytes (y ∷ ys)) = omega (arith, length-map (y ∷ ys) entry_bytes) in
            get_or-map (slice_get (entries_bytes after)) ranks k 0 d long ∙ ap (slice_get (entries_bytes after)) rank ∙ at
            ∙ sym (get_or-map Some (entries_bytes (y ∷ ys)) k [] d many ∙ ap Some (get_or-map entry_bytes (y ∷ ys) k y [] in'))
