-- Sets of fields, seen as the lists of their fields.
use Rattle.std.proofs.Common.{◌≡◌, ◌∙◌, refl, sym, ap, ℕ, ◌+◌, ◌<◌, ◌≤◌, Bool, true, false, List, [], ◌∷◌, ◌++◌, length, map, Option, Some, None, arith, get_or, slice_get, take, ◌||◌, Contains, All, length-append}
use Rattle.std.specs.List.{IsDistinct, list_any, AllByRecursion}
use Rattle.std.specs.Str.{bytes_eq}
use Rattle.std.specs.Cmp.Lexicographic.{slice_cmp, bytes_decides, nat_list_cmp_total}
use Rattle.std.specs.Ordering.{nat_cmp, is_lt, ordering_reverse}
use Rattle.std.specs.declared.cmp.Ordering.{Ordering}
use Rattle.std.specs.declared.cmp.Ordering.TheVariants.{Less, Equal, Greater}
use Rattle.std.specs.Option.{option_map}
use Rattle.std.proofs.lemmas.List.{get_or-map, get_or_append_left, length-map, map-append, map_more}
use Rattle.std.proofs.lemmas.Option.{get_or_from_slice_get, slice_get-get_or, slice_get-map, slice_get_within}
use Rattle.std.proofs.lemmas.List.Elements.{All-nil, All-push, Contains-get_or}
use Rattle.std.specs.FinMap.{slice_cmp-IsAntisymmetric, nat_cmp-IsAntisymmetric}
use Rattle.indexmap.specs.IndexSet.{insert_key}
use Rattle.bw_encode.specs.FieldSet.{key_bytes, keys_bytes, AreDistinct}
use Rattle.bw_encode.specs.declared.field_set.Key.{Key}

abbrev same_keys : Key → Key → Bool
same_keys a b = bytes_eq a.bytes.now b.bytes.now

any_key : (k : Key) (keys : List Key) → list_any (same_keys k) keys ≡ list_any (bytes_eq (key_bytes k)) (keys_bytes keys)
any_key k [] = refl
any_key k (x ∷ xs) = ap (λ b. same_keys k x || b) (any_key k xs)

-- a key that is inserted is its field, inserted
pub insert_key-bytes : (keys : List Key) (k : Key) → keys_bytes (insert_key same_keys keys k) ≡ insert_key bytes_eq (keys_bytes keys) (key_bytes k)
insert_key-bytes keys k = by (list_any (same_keys k) keys) refl
  where
    by : (b : Bool) → list_any (same_keys k) keys ≡ b → keys_bytes (insert_key same_keys keys k) ≡ insert_key bytes_eq (keys_bytes keys) (key_bytes k)
    by true e = rw (e, sym (any_key k keys) ∙ e) refl
    by false e = rw (e, sym (any_key k keys) ∙ e) (map-append key_bytes keys (k ∷ []))

all_apart : (k : Key) (keys : List Key) → AllByRecursion (λ y. same_keys k y ≡ false) keys → AllByRecursion (λ y. bytes_eq (key_bytes k) y ≡ false) (keys_bytes keys)
all_apart k [] h = h
all_apart k (x ∷ xs) h = (h.0, all_apart k xs h.1)

-- distinct keys have distinct fields
pub distinct-bytes : (keys : List Key) → IsDistinct same_keys keys → AreDistinct (keys_bytes keys)
unfolding IsDistinct
distinct-bytes [] h = h
distinct-bytes (k ∷ keys) h = (all_apart k keys h.0, distinct-bytes keys h.1)

-- neighbours that differ and don't fall, rise
pub rises : (a b : List ℕ) (o : Ordering) → slice_cmp nat_cmp a b ≡ o → is_lt (slice_cmp nat_cmp b a) ≡ false → bytes_eq a b ≡ false → o ≡ Less
rises a b Less e low apart = refl
rises a b Equal e low apart =
    let same : a ≡ b = slice_cmp-IsAntisymmetric nat_cmp-IsAntisymmetric a b e in
    let yes : bytes_eq a b ≡ true = (bytes_decides a b).1 same in
    absurd (cc yes)
rises a b Greater e low apart =
    let back : slice_cmp nat_cmp b a ≡ Less = nat_list_cmp_total.antisymm b a ∙ ap ordering_reverse e in
    absurd (cc (ap is_lt back))

-- a key that is stored at a place is its field there
pub stored-bytes : (keys : List Key) (k : Key) (place : ℕ) → (stored : Key) → slice_get keys place ≡ Some stored → same_keys k stored ≡ true → slice_get (keys_bytes keys) place ≡ Some (key_bytes k)
stored-bytes keys k place stored at same =
    slice_get-map key_bytes keys place ∙ ap (option_map key_bytes) at ∙ ap Some (sym ((bytes_decides (key_bytes k) (key_bytes stored)).0 same))

-- what is at a place stays there as fields are added
added-get : (set : List (List ℕ)) (f x : List ℕ) (place : ℕ) → slice_get set place ≡ Some x → slice_get (set ++ f ∷ []) place ≡ Some x
added-get set f x place at =
    let lt = slice_get_within set place x at in
    let long : place < length (set ++ f ∷ []) = omega (arith, length-append set (f ∷ [])) in
    slice_get-get_or (set ++ f ∷ []) place [] long ∙ ap Some (get_or_append_left set (f ∷ []) [] place lt ∙ get_or_from_slice_get set place x [] at)

added-all : (set : List (List ℕ)) (f : List ℕ) (places : List ℕ) (xs : List (List ℕ)) → map (slice_get set) places ≡ map Some xs → map (slice_get (set ++ f ∷ [])) places ≡ map Some xs
added-all set f [] [] e = refl
added-all set f [] (x ∷ xs) e = absurd (cc e)
added-all set f (p ∷ places) [] e = absurd (cc e)
added-all set f (p ∷ places) (x ∷ xs) e =
    let head : slice_get set p ≡ Some x = cc in
    let tail : map (slice_get set) places ≡ map Some xs = cc in
    rw (added-get set f x p head) (ap (λ (rest : List (Option (List ℕ))). Some x ∷ rest) (added-all set f places xs tail))

-- a set that takes one row's field more
pub record HasFields (fields set : List (List ℕ)) (places : List ℕ) (row : ℕ) : Type 0 where
  pub distinct : AreDistinct set
  pub used : All (Contains fields) set
  pub short : length set ≤ row
  pub placed : map (slice_get set) places ≡ map Some (take row fields)

pub has_none : (fields : List (List ℕ)) → HasFields fields [] [] 0
unfolding IsDistinct
has_none fields = record { distinct = tt; used = All-nil (Contains fields); short = omega arith; placed = refl }

pub has_more : (fields set : List (List ℕ)) (places : List ℕ) (row place : ℕ) → row < length fields → AreDistinct (insert_key bytes_eq set (get_or fields row []))
    → slice_get (insert_key bytes_eq set (get_or fields row [])) place ≡ Some (get_or fields row [])
    → HasFields fields set places row → HasFields fields (insert_key bytes_eq set (get_or fields row [])) (places ++ place ∷ []) (row + 1)
has_more fields set places row place lt distinct at has = let f = get_or fields row [] in record {
  distinct = distinct;
  used = by f (list_any (bytes_eq f) set) refl (Contains-get_or fields row [] lt);
  short = small f (list_any (bytes_eq f) set) refl;
  placed = map-append (slice_get (insert_key bytes_eq set f)) places (place ∷ [])
      ∙ rw (grown f (list_any (bytes_eq f) set) refl, at) (sym (map_more Some fields row [] lt));
}
  where
    by : (f : List ℕ) (b : Bool) → list_any (bytes_eq f) set ≡ b → Contains fields f → All (Contains fields) (insert_key bytes_eq set f)
    by f true e there = rw e has.used
    by f false e there = rw e (All-push (Contains fields) set f has.used there)

    small : (f : List ℕ) (b : Bool) → list_any (bytes_eq f) set ≡ b → length (insert_key bytes_eq set f) ≤ row + 1
    small f true e = rw e (let h = has.short in omega arith)
    small f false e = rw e (let h = has.short in omega (arith, length-append {A = List ℕ}))

    grown : (f : List ℕ) (b : Bool) → list_any (bytes_eq f) set ≡ b → map (slice_get (insert_key bytes_eq set f)) places ≡ map Some (take row fields)
    grown f true e = rw e has.placed
    grown f false e = rw e (added-all set f places (take row fields) has.placed)

-- the field that a code stands for
pub spelled_at : (list fields : List (List ℕ)) (codes : List ℕ) → map (slice_get list) codes ≡ map Some fields → (row : ℕ) → row < length fields
    → (row < length codes) × (get_or codes row 0 < length list) × (get_or list (get_or codes row 0) [] ≡ get_or fields row [])
spelled_at list fields codes spelled row lt =
    let size : length codes ≡ length fields = sym (length-map codes (slice_get list)) ∙ ap length spelled ∙ length-map fields Some in
    let in' : row < length codes = omega arith in
    let at : slice_get list (get_or codes row 0) ≡ Some (get_or fields row []) =
    sym (get_or-map (slice_get list) codes row 0 None in') ∙ ap (λ (xs : List (Option (List ℕ))). get_or xs row None) spelled ∙ get_or-map Some fields row [] None lt in
    (in', slice_get_within list (get_or codes row 0) (get_or fields row []) at, get_or_from_slice_get list (get_or codes row 0) (get_or fields row []) [] at)

pub rank_at : (fields firsts sorted : List (List ℕ)) (places ranks : List ℕ) → map (slice_get firsts) places ≡ map Some fields → map (slice_get sorted) ranks ≡ map Some firsts
    → (row : ℕ) → row < length fields
    → (get_or places row 0 < length ranks) × (get_or ranks (get_or places row 0) 0 < length sorted) × (get_or sorted (get_or ranks (get_or places row 0) 0) [] ≡ get_or fields row [])
rank_at fields firsts sorted places ranks placed ranked row lt =
    let first = spelled_at firsts fields places placed row lt in
    let second = spelled_at sorted firsts ranks ranked (get_or places row 0) first.1 in
    (second.0, second.1, second.2 ∙ first.2)

pub placed_size : (list fields : List (List ℕ)) (codes : List ℕ) → map (slice_get list) codes ≡ map Some fields → length codes ≡ length fields
placed_size list fields codes placed = sym (length-map codes (slice_get list)) ∙ ap length placed ∙ length-map fields Some
