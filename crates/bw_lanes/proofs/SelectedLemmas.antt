-- Some rows, a byte each, the bytes of a slice in these rows, and what is chosen among bytes, in
-- one order or in another.
use Rattle.std.proofs.Common.{◌≡◌, ◌∙◌, refl, sym, ap, ap₂, ℕ, ◌+◌, ◌*◌, ◌<◌, min, max, cond, ltb}
use Rattle.std.proofs.Common.{List, [], ◌∷◌, ◌++◌, map, length, take, drop, take_all, arith, w8}
use Rattle.std.proofs.Common.{zero, suc, ◌-◌, ◌/◌, ◌%◌, ◌^◌, ◌≤◌, Bool, true, false, eqb, ◌==◌}
use Rattle.std.proofs.Common.{◌&&◌, get_or, replicate, append-nil, sum, Fits, bit_and, bit_or, fold}
use Rattle.std.proofs.Common.{pow-suc}
use Rattle.std.specs.List.{range_with_len}
use Rattle.std.proofs.lemmas.Bool.Decides.{nat_tests}
use Rattle.std.proofs.lemmas.List.{take-append-drop, take-append-le, drop-append-le, length-take}
use Rattle.std.proofs.lemmas.List.{length-drop, length-append, take_all, drop_all}
use Rattle.std.proofs.lemmas.List.Sums.{fold-append, sum_by-append, sum_by-cons}
use Rattle.std.proofs.lemmas.Simd.{length-zip2, pick_l-range_with_len, tops_compared, sum-zip2}
use Rattle.std.proofs.lemmas.Simd.{adds_fit, sum_fits, fold-sum, dot4_Fits, sum_dots, sum_by-ones}
use Rattle.std.proofs.lemmas.Simd.{sum_bound, bytes_below, Each1-replicate, pick_l_left, map-map}
use Rattle.std.proofs.lemmas.Simd.{zip2_of_maps, splat_is_map, get_or_narrower, put_chunk_is}
use Rattle.std.proofs.lemmas.Simd.{zip2_splat}
use lib.Lanes.{zip2, top, sel_l, pick_l, put_chunk, number_l, digits_l, sum_l, dots, products}
use lib.Lanes.{Each1}
use Rattle.bw_lanes.proofs.WordLemmas.{part, zipped_more, length-part, zipped_all}
use Rattle.std.specs.Int.{bit_at, bit_not}
use Rattle.std.specs.Int.Bits.{or_zero_r, or_add_and}
use Rattle.std.proofs.lemmas.Nat.{and_mask, pow-add, shr-shr}
use Rattle.std.proofs.lemmas.List.FromFn.{length-map-range_with_len}
use Rattle.bw_lanes.specs.Lanes.{bits_from_least}
use Rattle.bw_lanes.specs.Selected.{as_byte, bytes_selected}
use Rattle.bw_lanes.specs.Shifted.{with_bit}
use Rattle.bw_lanes.proofs.BitLemmas.{bit_of_low, same_on_range}
use Rattle.bw_lanes.proofs.ByteLemmas.{bit_by_mask}

-- A choice between two numbers that asks for no order.
pub record IsChoice (f : ℕ → ℕ → ℕ) : Type 0 where
  pub grouped : (a b c : ℕ) → f (f a b) c ≡ f a (f b c)
  pub turned : (a b c : ℕ) → f (f a b) c ≡ f (f a c) b

pub least_is_choice : IsChoice min
least_is_choice = record { grouped = λ a b c. omega arith; turned = λ a b c. omega arith }

pub greatest_is_choice : IsChoice max
greatest_is_choice = record { grouped = λ a b c. omega arith; turned = λ a b c. omega arith }

-- the lesser and the greater in each lane, as they are computed
selected : (xs ys : List ℕ) → (sel_l (zip2 ltb xs ys) xs ys ≡ zip2 min xs ys) × (sel_l (zip2 ltb xs ys) ys xs ≡ zip2 max xs ys)
selected [] ys = (refl, refl)
selected (x ∷ xs) [] = (refl, refl)
selected (x ∷ xs) (y ∷ ys) = let more = selected xs ys in (ap₂ ◌∷◌ (grind (arith, nat_tests)) more.0, ap₂ ◌∷◌ (grind (arith, nat_tests)) more.1)

pub lesser_is : (xs ys : List ℕ) → zip2 min xs ys ≡ sel_l (map (top 7) (zip2 (λ a b. cond (ltb a b) 255 0) xs ys)) xs ys
lesser_is xs ys = sym (ap (λ tests. sel_l tests xs ys) (tops_compared w8 ltb xs ys) ∙ (selected xs ys).0)

pub greater_computed : (xs ys : List ℕ) → sel_l (map (top 7) (zip2 (λ a b. cond (ltb a b) 255 0) xs ys)) ys xs ≡ zip2 max xs ys
greater_computed xs ys = ap (λ tests. sel_l tests ys xs) (tops_compared w8 ltb xs ys) ∙ (selected xs ys).1

pub greater_is : (xs ys : List ℕ) → zip2 max xs ys ≡ sel_l (map (top 7) (zip2 (λ a b. cond (ltb a b) 255 0) xs ys)) ys xs
greater_is xs ys = sym (greater_computed xs ys)

module _ (f : ℕ → ℕ → ℕ) (choice : IsChoice f) where
  moved : (a y : ℕ) (xs ys : List ℕ) → fold f a (xs ++ (y ∷ ys)) ≡ fold f (f a y) (xs ++ ys)
  moved a y [] ys = refl
  moved a y (x ∷ xs) ys = moved (f a x) y xs ys ∙ ap (λ k. fold f k (xs ++ ys)) (choice.turned a x y)

  -- among the choices of two lists, lane by lane
  fold_pairs : (a : ℕ) (xs ys : List ℕ) → length xs ≡ length ys → fold f a (zip2 f xs ys) ≡ fold f a (xs ++ ys)
  fold_pairs a [] [] long = refl
  fold_pairs a [] (y ∷ ys) long = absurd (omega arith)
  fold_pairs a (x ∷ xs) [] long = absurd (omega arith)
  fold_pairs a (x ∷ xs) (y ∷ ys) long =
      fold_pairs (f a (f x y)) xs ys (omega arith) ∙ ap (λ k. fold f k (xs ++ ys)) (sym (choice.grouped a x y)) ∙ sym (moved (f a x) y xs ys)

  -- one part more of two lists that are joined
  pub best_more : (pick : ℕ → ℕ → ℕ) (e word : ℕ) (bytes rows best more new : List ℕ) → length bytes ≡ 512 → length rows ≡ 512 → length best ≡ 64 → word < 8
      → fold f e best ≡ fold f e (zip2 pick (take (64 * word) bytes) (take (64 * word) rows)) → more ≡ zip2 pick (part word bytes) (part word rows) → new ≡ zip2 f best more
      → fold f e new ≡ fold f e (zip2 pick (take (64 * (word + 1)) bytes) (take (64 * (word + 1)) rows))
  best_more pick e word bytes rows best more new long size count lt so_far is made =
      let all = length-part word bytes long lt in
      let same : length best ≡ length more = omega (arith, ap length is, length-zip2 pick (part word bytes) (part word rows) (all ∙ sym (length-part word rows size lt)), all) in
      ap (fold f e) made ∙ fold_pairs e best more same ∙ fold-append f e best more ∙ ap₂ (fold f) so_far is
      ∙ sym (ap (fold f e) (zipped_more pick word bytes rows long size lt) ∙ fold-append f e (zip2 pick (take (64 * word) bytes) (take (64 * word) rows)) (zip2 pick (part word bytes) (part word rows)))

  -- both halves, lane by lane
  pub halved : (e : ℕ) (all : List ℕ) (k : ℕ) (xs ys : List ℕ) → (length xs ≡ k + k) × (fold f e xs ≡ fold f e all)
      → ys ≡ zip2 f (pick_l 0 (xs ++ xs) (range_with_len 0 k)) (pick_l 0 (xs ++ xs) (range_with_len k k))
      → (length ys ≡ k) × (fold f e ys ≡ fold f e all)
  halved e all k xs ys long is =
      let rest = length-drop k xs in
      let front = length-take k xs in
      let half = λ (at : ℕ) (le : at + k ≤ length xs). pick_l-range_with_len 0 (xs ++ xs) at k (omega (arith, length-append xs xs)) ∙ ap (take k) (drop-append-le at xs xs (omega arith))
      ∙ take-append-le k (drop at xs) xs (omega (arith, length-drop at xs)) in
      let pairs = is ∙ ap₂ (zip2 f) (half 0 (omega arith)) (half k (omega arith) ∙ take_all k (drop k xs) (omega arith)) in (
        omega (arith, ap length pairs, length-zip2 f (take k xs) (drop k xs) (omega arith)),
        ap (fold f e) pairs ∙ fold_pairs e (take k xs) (drop k xs) (omega arith) ∙ ap (fold f e) (take-append-drop k xs) ∙ long.1,
      )

pow_of_bytes : (bytes : ℕ) → 2 ^ (8 * bytes) ≡ 256 ^ bytes
pow_of_bytes zero = refl
pow_of_bytes (suc bytes) = grind (arith, pow-add 2 8 (8 * bytes), pow_of_bytes bytes, pow-suc 256 bytes)

bit_of_byte : (n i : ℕ) → bit_at (n / 256 ^ (i / 8) % 256) (i % 8) ≡ bit_at n i
bit_of_byte n i =
    let byte = n / 256 ^ (i / 8) in
    bit_of_low 8 byte (i % 8) (omega arith) ∙ ap (λ k. n / k / 2 ^ (i % 8) % 2) (sym (pow_of_bytes (i / 8)))
    ∙ ap (λ k. k % 2) (shr-shr n (8 * (i / 8)) (i % 8) ∙ ap (λ k. n / 2 ^ k) (omega arith))

-- a choice between two values, lane by lane
chosen : {A B : Type 0} (test : A → Bool) (f g : A → B) (xs : List A) → sel_l (map test xs) (map f xs) (map g xs) ≡ map (λ x. cond (test x) (f x) (g x)) xs
chosen test f g [] = refl
chosen test f g (x ∷ xs) = ap (λ l. cond (test x) (f x) (g x) ∷ l) (chosen test f g xs)

-- the bytes of 64 rows, as they are computed from the bits of a word
abbrev rows : List ℕ
rows = range_with_len 0 64

abbrev repeated : ℕ → List ℕ
repeated word = digits_l (2 ^ 8) 64 (number_l (2 ^ 64) (replicate 8 word))

abbrev bit_of_row : List ℕ
bit_of_row = map (λ i. 2 ^ (i % 8)) rows

pub bytes_computed : (word : ℕ) → word < 2 ^ 64
    → sel_l (map (top 7) (zip2 (λ a b. cond (eqb a b) 255 0) (zip2 bit_and (pick_l 0 (repeated word ++ repeated word) (map (λ i. i / 8) rows)) bit_of_row) bit_of_row))
    (replicate 64 255) (replicate 64 0)
    ≡ map as_byte (bits_from_least 64 word)
unfolding bits_from_least
bytes_computed word small =
    let bytes = repeated word in
    let own = λ (i : ℕ). get_or bytes (i / 8) 0 in
    let place = λ (i : ℕ). 2 ^ (i % 8) in
    let all = length-map-range_with_len (λ i. i) 0 64 in
    let picks : pick_l 0 (bytes ++ bytes) (map (λ i. i / 8) rows) ≡ map own rows = pick_l_left 0 bytes bytes 64 (map (λ i. i / 8) rows) refl tt ∙ map-map (λ k. get_or bytes k 0) (λ i. i / 8) rows in
    let masked = zip2_of_maps bit_and own place rows picks refl in
    let tests = tops_compared w8 eqb (zip2 bit_and (pick_l 0 (bytes ++ bytes) (map (λ i. i / 8) rows)) bit_of_row) bit_of_row
    ∙ zip2_of_maps eqb (λ i. bit_and (own i) (place i)) place rows masked refl in
    (λ j. sel_l (tests j) (splat_is_map rows 64 255 all j) (splat_is_map rows 64 0 all j)) ∙ chosen (λ i. eqb (bit_and (own i) (place i)) (place i)) (λ _. 255) (λ _. 0) rows
    ∙ same_on_range (λ i. as_byte (eqb (bit_and (own i) (place i)) (place i))) (λ i. as_byte (bit_at word i == 1)) 0 64
    (λ i _ lt.
    let lane = get_or_narrower (2 ^ 64) 8 (2 ^ 8) 64 (replicate 8 word) 0 (i / 8) refl (Each1-replicate (λ x. x < 2 ^ 64) 8 word small) (omega arith) (omega arith) in
    ap as_byte (bit_by_mask (i % 8) (own i) ∙ ap (λ k. bit_at (get_or bytes k 0) (i % 8) == 1) {x = i / 8} {y = 8 * 0 + i / 8} (omega arith)
    ∙ ap (λ n. bit_at n (i % 8) == 1) lane ∙ ap (λ n. n == 1) (bit_of_byte word i)))
    ∙ sym (map-map as_byte (λ i. bit_at word i == 1) rows)

-- what is written at a part of the bytes
pub put_is : (at : ℕ) (bytes some : List ℕ) → length bytes ≡ 512 → length some ≡ 64 → at + 64 ≤ 512
    → take at bytes ++ (put_chunk 0 (take (512 - at) (drop at bytes)) some ++ drop (512 - at) (drop at bytes)) ≡ put_chunk at bytes some
put_is at bytes some all long le =
    let rest = drop at bytes in
    let left = length-drop at bytes in
    (λ i. take at bytes ++ (put_chunk 0 (take_all (512 - at) rest (omega (arith, left)) i) some ++ drop_all (512 - at) rest (omega (arith, left)) i))
    ∙ ap (λ l. take at bytes ++ l) (append-nil (put_chunk 0 rest some) ∙ put_chunk_is 0 rest some (omega (arith, left, long))) ∙ sym (put_chunk_is at bytes some (omega (arith, all, long)))

-- the rows with a byte
kept_where : (test : ℕ → Bool) (xs bytes : List ℕ) → sel_l (map test bytes) xs (map (λ _. 0) bytes) ≡ zip2 (λ row byte. cond (test byte) row 0) xs bytes
kept_where test [] [] = refl
kept_where test [] (byte ∷ bytes) = refl
kept_where test (x ∷ xs) [] = refl
kept_where test (x ∷ xs) (byte ∷ bytes) = ap (λ l. cond (test byte) x 0 ∷ l) (kept_where test xs bytes)

pub kept_computed : (rows bytes : List ℕ) (c : ℕ) → length bytes ≡ 64
    → sel_l (map (top 7) (zip2 (λ a b. cond (eqb a b) 255 0) bytes (replicate 64 c))) rows (replicate 64 0) ≡ zip2 (λ row byte. cond (byte == c) row 0) rows bytes
kept_computed rows bytes c size =
    ap₂ (λ tests l. sel_l tests rows l) (tops_compared w8 eqb bytes (replicate 64 c) ∙ zip2_splat eqb bytes 64 c size) (splat_is_map bytes 64 0 size) ∙ kept_where (λ byte. eqb byte c) rows bytes

pub kept_lanes : (c : ℕ) (lanes : List Bool) (bytes : List ℕ) → zip2 (λ row byte. cond (byte == c) row 0) (map as_byte lanes) bytes ≡ map as_byte (zip2 (λ lane byte. lane && (byte == c)) lanes bytes)
kept_lanes c [] bytes = refl
kept_lanes c (lane ∷ lanes) [] = refl
kept_lanes c (lane ∷ lanes) (byte ∷ bytes) = ap₂ ◌∷◌ (grind (arith, nat_tests)) (kept_lanes c lanes bytes)

-- a byte that is added to itself, with 255 taken from that if the bit is 1
pub shifted_computed : (bytes : List ℕ) (lanes : List Bool) → zip2 with_bit bytes lanes ≡ zip2 (λ a b. (a + (256 - b)) % 256) (zip2 (λ a b. (a + b) % 256) bytes bytes) (map as_byte lanes)
shifted_computed [] lanes = refl
shifted_computed (byte ∷ bytes) [] = refl
shifted_computed (byte ∷ bytes) (true ∷ lanes) = ap₂ ◌∷◌ (omega arith) (shifted_computed bytes lanes)
shifted_computed (byte ∷ bytes) (false ∷ lanes) = ap₂ ◌∷◌ (omega arith) (shifted_computed bytes lanes)

-- the bytes in some rows, as they are computed
selected_by : (f : ℕ → ℕ → ℕ) (other : ℕ) → ((lane : Bool) (byte : ℕ) → byte < 256 → f byte (as_byte lane) ≡ cond lane byte other)
    → (lanes : List Bool) (bytes : List ℕ) → ((at : ℕ) → get_or bytes at 0 < 256) → zip2 f bytes (map as_byte lanes) ≡ bytes_selected other lanes bytes
selected_by f other one [] [] small = refl
selected_by f other one [] (byte ∷ bytes) small = refl
selected_by f other one (lane ∷ lanes) [] small = refl
selected_by f other one (lane ∷ lanes) (byte ∷ bytes) small = ap₂ ◌∷◌ (one lane byte (small 0)) (selected_by f other one lanes bytes (λ at. small (suc at)))

abbrev pub or_others : ℕ → ℕ → ℕ
or_others byte row = bit_or byte (bit_not w8 row)

module _ (word : ℕ) (lanes : List Bool) (bytes rows : List ℕ) (long : length bytes ≡ 512) (size : length rows ≡ 512) (le : 8 ≤ word) (small : (at : ℕ) → get_or bytes at 0 < 256) (is : rows ≡ map as_byte lanes) where
  pub bytes_or_0 : zip2 bit_and (take (64 * word) bytes) (take (64 * word) rows) ≡ bytes_selected 0 lanes bytes
  bytes_or_0 =
      zipped_all bit_and word bytes rows long size le ∙ ap (zip2 bit_and bytes) is
      ∙ selected_by bit_and 0 (λ lane byte fits. grind (arith, nat_tests, and_mask byte 8, or_add_and byte 0, or_zero_r byte)) lanes bytes small

  pub bytes_or_255 : zip2 or_others (take (64 * word) bytes) (take (64 * word) rows) ≡ bytes_selected 255 lanes bytes
  bytes_or_255 =
      zipped_all or_others word bytes rows long size le ∙ ap (zip2 or_others bytes) is
      ∙ selected_by or_others 255 (λ lane byte fits. grind (arith, nat_tests, and_mask byte 8, or_add_and byte 255, or_zero_r byte)) lanes bytes small

-- one step of a sum
pub sum_is : (xs : List ℕ) → sum_l xs ≡ sum xs
sum_is [] = refl
sum_is (x ∷ xs) = ap (λ k. x + k) (sum_is xs) ∙ sym (sum_by-cons (λ n. n) x xs)

pub sum_more : (word : ℕ) (bytes rows sums more : List ℕ) → length bytes ≡ 512 → length rows ≡ 512 → length sums ≡ length more → word < 8
    → sum_l sums ≡ sum (zip2 bit_and (take (64 * word) bytes) (take (64 * word) rows)) → sum_l more ≡ sum (zip2 bit_and (part word bytes) (part word rows))
    → sum_l (zip2 (λ a b. a + b) sums more) ≡ sum (zip2 bit_and (take (64 * (word + 1)) bytes) (take (64 * (word + 1)) rows))
sum_more word bytes rows sums more long size same lt so_far is =
    sum-zip2 sums more same ∙ ap₂ ◌+◌ so_far is ∙ sym (ap sum (zipped_more bit_and word bytes rows long size lt) ∙ sum_by-append (λ n. n) (zip2 bit_and (take (64 * word) bytes) (take (64 * word) rows)) (zip2 bit_and (part word bytes) (part word rows)))

-- sums of four bytes each
pub fours_add : (bytes : List ℕ) → length bytes ≡ 64 → sum_l (dots bytes (replicate 64 1)) ≡ sum_l bytes
fours_add bytes long = (sum_dots 16 bytes (replicate 64 1) long (omega arith)).0 ∙ ap (λ n. sum_l (products bytes (replicate n 1))) (sym long) ∙ sum_by-ones bytes

pub few_in_bytes : (bytes : List ℕ) → length bytes ≡ 64 → Each1 (Fits w8) bytes → sum_l bytes ≤ 16320
few_in_bytes bytes long fit = omega (arith, sum_bound 255 bytes (bytes_below bytes fit))

pub ruleset sums_of_fours = (dot4_Fits, fours_add, few_in_bytes)
