-- Which codes are above a number, from the least significant byte up, and whether one is or isn't
-- 0.
use Rattle.std.proofs.Common.{◌≡◌, ◌∙◌, refl, sym, ap, ap₂, ℕ, suc, ◌+◌, ◌-◌, ◌*◌, ◌/◌, ◌%◌, ◌^◌}
use Rattle.std.proofs.Common.{◌<◌, ◌≤◌, max, Bool, false, not, cond, ltb, eqb, ◌==◌, ◌&&◌, ◌||◌}
use Rattle.std.proofs.Common.{List, [], ◌∷◌, ◌++◌, map, length, take, drop, get_or, replicate}
use Rattle.std.proofs.Common.{bit_or, w8, w64, Fits, arith, mod-eq_of_lt, mod-lt, mul-le-mul_right}
use Rattle.std.proofs.Common.{suc-mul, le-ltb}
use Rattle.std.specs.Int.{bit_not}
use Rattle.std.specs.List.{list_any, range_with_len}
use Rattle.std.proofs.Math.Bool.{or-false, or_assoc}
use Rattle.std.proofs.lemmas.Bool.Decides.{nat_tests}
use Rattle.std.proofs.lemmas.List.{length-map, length-take, length-drop}
use Rattle.std.proofs.lemmas.List.Folds.{list_any-append}
use Rattle.std.proofs.lemmas.List.FromFn.{length-range_with_len}
use Rattle.std.proofs.lemmas.Nat.{pow_pos, mod-pow-add}
use Rattle.std.proofs.lemmas.Simd.{map-map, zip2_of_maps, zip2_splat, splat_is_map}
use lib.Lanes.{Each1, zip2, sel_l, mask_l, top, fold_l}
use Rattle.bw_lanes.specs.Lanes.{bits_from_least, are_zero}
use Rattle.bw_lanes.proofs.AnyLemmas.{any_mapped}
use Rattle.bw_lanes.proofs.BitLemmas.{bits_of_not, same_on_range}
use Rattle.bw_lanes.proofs.ByteLemmas.{compared, part_by_rows}
use Rattle.bw_lanes.proofs.SelectedLemmas.{greater_computed, kept_computed}
use Rattle.bw_lanes.proofs.WordLemmas.{either_is_zero, mapped_right, before_and_part, part_is}
use Rattle.bw_lanes.proofs.WordLemmas.{words_made}
use Rattle.bw_model.specs.Groups.{group_size}
use Rattle.bw_model.specs.Selection.{selected_items}
use Rattle.bw_model.specs.StoredCodes.{byte_of}
use Rattle.bw_segment.proofs.LowLemmas.{above_ones}
use Rattle.bw_segment.proofs.SelectedLemmas.{any_selected}
use Rattle.bw_slices.specs.Slices.{number_from, slices_codes}
use Rattle.bw_slices.proofs.KeptLemmas.{bytes_in, byte_of_number, number_of_front}
use Rattle.bw_slices.proofs.KeptLemmas.{length-slices_codes}
use Rattle.bw_slices.proofs.CodeLemmas.{code_in_lane, number_below, used_is}

-- a byte that isn't 0
abbrev pub set : ℕ → Bool
set byte = not (byte == 0)

-- bytes joined by or
either_set : (a b : ℕ) → set (bit_or a b) ≡ (set a || set b)
either_set a b = grind (arith, nat_tests, either_is_zero a b)

turned : (a b c d : Bool) → ((a || b) || (c || d)) ≡ ((a || c) || (b || d))
turned a b c d = grind (arith, nat_tests)

pub any_joined : (xs ys : List ℕ) → length xs ≡ length ys → list_any set (zip2 bit_or xs ys) ≡ (list_any set xs || list_any set ys)
any_joined [] [] same = refl
any_joined [] (y ∷ ys) same = absurd (omega arith)
any_joined (x ∷ xs) [] same = absurd (omega arith)
any_joined (x ∷ xs) (y ∷ ys) same = ap₂ (λ a b. a || b) (either_set x y) (any_joined xs ys (omega arith)) ∙ turned (set x) (set y) (list_any set xs) (list_any set ys)

pub any_of_all : (a : ℕ) (bytes : List ℕ) → set (fold_l bit_or a bytes) ≡ (set a || list_any set bytes)
any_of_all a [] = sym (or-false (set a))
any_of_all a (byte ∷ bytes) = any_of_all (bit_or a byte) bytes ∙ ap (λ b. b || list_any set bytes) (either_set a byte) ∙ or_assoc (set a) (set byte) (list_any set bytes)

pub any_more : (test : ℕ → Bool) (word : ℕ) (codes any more : List ℕ) → length codes ≡ 512 → length any ≡ 64 → word < 8 → list_any set any ≡ list_any test (take (64 * word) codes)
    → map set more ≡ map test (take 64 (drop (64 * word) codes)) → list_any set (zip2 bit_or any more) ≡ list_any test (take (64 * (word + 1)) codes)
any_more test word codes any more long size lt so_far is =
    let part = take 64 (drop (64 * word) codes) in
    let same : length any ≡ length more = omega (arith, ap length is, length-map more set, length-map part test, length-take 64 (drop (64 * word) codes), length-drop (64 * word) codes) in
    any_joined any more same ∙ ap₂ (λ a b. a || b) so_far (sym (any_mapped set more) ∙ ap (list_any (λ b. b)) is ∙ any_mapped test part)
    ∙ sym (ap (list_any test) (before_and_part word codes lt ∙ ap (λ l. take (64 * word) codes ++ l) (part_is word codes lt)) ∙ list_any-append test (take (64 * word) codes) part)

-- the bits of 64 bytes, as they are computed
pub set_bits : (bytes : List ℕ) → length bytes ≡ 64
    → bits_from_least 64 (bit_not w64 (mask_l (map (top 7) (zip2 (λ a b. cond (eqb a b) 255 0) bytes (replicate 64 0))) % 2 ^ 64)) ≡ map set bytes
set_bits bytes long =
    let word = mask_l (map (top 7) (zip2 (λ a b. cond (eqb a b) 255 0) bytes (replicate 64 0))) % 2 ^ 64 in
    bits_of_not word (mod-lt (mask_l (map (top 7) (zip2 (λ a b. cond (eqb a b) 255 0) bytes (replicate 64 0)))) (pow_pos 64)) ∙ ap (map not) (compared eqb bytes 0 long) ∙ map-map not (λ byte. eqb byte 0) bytes

-- one byte more of 64 rows, as it is computed
differs : (b c : ℕ) → b < 256 → c < 256 → set ((max b c + (256 - c)) % 256) ≡ ltb c b
differs b c lb lc = grind (arith, nat_tests)

kept : (same : Bool) (f : ℕ) → set (cond same f 0) ≡ (same && set f)
kept same f = grind (arith, nat_tests)

next_lanes : (c : ℕ) (found bytes : List ℕ) → c < 256 → Each1 (Fits w8) bytes
    → map set (zip2 bit_or (map (λ b. (max b c + (256 - c)) % 256) bytes) (zip2 (λ f b. cond (b == c) f 0) found bytes)) ≡ zip2 (λ above b. ltb c b || ((b == c) && above)) (map set found) bytes
next_lanes c [] [] lc fit = refl
next_lanes c [] (b ∷ bytes) lc fit = refl
next_lanes c (f ∷ found) [] lc fit = refl
next_lanes c (f ∷ found) (b ∷ bytes) lc fit =
    let small = fit.0 in
    ap₂ ◌∷◌ (either_set ((max b c + (256 - c)) % 256) (cond (b == c) f 0) ∙ ap₂ (λ x y. x || y) (differs b c small.fits lc) (kept (b == c) f)) (next_lanes c found bytes lc fit.1)

pub next_computed : (found bytes : List ℕ) (c : ℕ) → length found ≡ 64 → length bytes ≡ 64 → Each1 (Fits w8) bytes → c < 256
    → map set (zip2 bit_or (zip2 (λ a b. (a + (256 - b)) % 256) (sel_l (map (top 7) (zip2 (λ a b. cond (ltb a b) 255 0) bytes (replicate 64 c))) (replicate 64 c) bytes) (replicate 64 c))
    (sel_l (map (top 7) (zip2 (λ a b. cond (eqb a b) 255 0) bytes (replicate 64 c))) found (replicate 64 0)))
    ≡ zip2 (λ above b. ltb c b || ((b == c) && above)) (map set found) bytes
next_computed found bytes c here there fit lc =
    let less = λ (a b : ℕ). (a + (256 - b)) % 256 in
    let rest = ap (λ l. zip2 less l (replicate 64 c)) (greater_computed bytes (replicate 64 c) ∙ zip2_splat max bytes 64 c there)
    ∙ zip2_splat less (map (λ b. max b c) bytes) 64 c (length-map bytes (λ b. max b c) ∙ there) ∙ map-map (λ a. less a c) (λ b. max b c) bytes in
    (λ i. map set (zip2 bit_or (rest i) (kept_computed found bytes c there i))) ∙ next_lanes c found bytes lc fit

-- numbers are in order by their highest byte, and if that is the same, by what is below it
ordered : (c b cs bs p y x : ℕ) → x < p → y < p → (c < b → cs + p ≤ bs) → (b < c → bs + p ≤ cs) → (b ≡ c → bs ≡ cs) → (ltb c b || ((b == c) && ltb y x)) ≡ ltb (cs + y) (bs + x)
ordered c b cs bs p y x lx ly less more same = grind (arith, nat_tests)

above_by : (c b p : ℕ) → c < b → c * p + p ≤ b * p
above_by c b p lt = let wide = mul-le-mul_right {m = suc c} {n = b} p (omega arith) in omega (arith, suc-mul c p)

next_row : (most n bit : ℕ) → (ltb (most / 2 ^ bit % 256) (n / 2 ^ bit % 256) || ((n / 2 ^ bit % 256 == most / 2 ^ bit % 256) && ltb (most % 2 ^ bit) (n % 2 ^ bit))) ≡ ltb (most % 2 ^ (8 + bit)) (n % 2 ^ (8 + bit))
next_row most n bit =
    let c = most / 2 ^ bit % 256 in
    let b = n / 2 ^ bit % 256 in
    let p = 2 ^ bit in
    ordered c b (c * p) (b * p) p (most % p) (n % p) (mod-lt n (pow_pos bit)) (mod-lt most (pow_pos bit)) (above_by c b p) (above_by b c p) (λ e. ap (λ k. k * p) e)
    ∙ sym (ap₂ ltb (mod-pow-add most 8 bit) (mod-pow-add n 8 bit))

-- whether the code of a row is above the number, as far as this many lowest bytes tell
abbrev pub above_in : List ℕ → ℕ → ℕ → ℕ → ℕ → Bool
above_in bytes slices most low row = ltb (most % 2 ^ (8 * low)) (number_from (bytes_in bytes row) slices % 2 ^ (8 * low))

module _ (bytes : List ℕ) (slices most first : ℕ) (small : (at : ℕ) → get_or bytes at 0 < 256) (long : 512 * slices ≤ length bytes) (within : first + 64 ≤ 512) where
  pub next_above_in : (slice c : ℕ) (found : List ℕ) → slice < slices → c ≡ byte_of slice most → map set found ≡ map (above_in bytes slices most slice) (range_with_len first 64)
      → zip2 (λ above b. ltb c b || ((b == c) && above)) (map set found) (take 64 (drop (512 * (slices - 1 - slice) + first) bytes)) ≡ map (above_in bytes slices most (slice + 1)) (range_with_len first 64)
  next_above_in slice c found lt is so_far =
      let place = slices - 1 - slice in
      zip2_of_maps (λ above b. ltb c b || ((b == c) && above)) (above_in bytes slices most slice) (λ row. get_or bytes (512 * place + row) 0) (range_with_len first 64) so_far
      (part_by_rows bytes (512 * place) (512 * place + first) first 64 refl (omega (arith, long))) ∙ (λ i. map (λ row. each row i) (range_with_len first 64))
    where
      each : (row : ℕ) → (ltb c (get_or bytes (512 * (slices - 1 - slice) + row) 0) || ((get_or bytes (512 * (slices - 1 - slice) + row) 0 == c) && above_in bytes slices most slice row)) ≡ above_in bytes slices most (slice + 1) row
      each row =
          let place = slices - 1 - slice in
          let n = number_from (bytes_in bytes row) slices in
          let here : slices - suc place ≡ slice = omega arith in
          let byte : get_or bytes (512 * place + row) 0 ≡ byte_of slice n = sym (byte_of_number (bytes_in bytes row) slices place (λ k. small (512 * k + row)) (omega arith)) ∙ ap (λ k. byte_of k n) here in
          let next : 8 + 8 * slice ≡ 8 * (slice + 1) = omega arith in
          ap₂ (λ m b. ltb m b || ((b == m) && above_in bytes slices most slice row)) is byte ∙ next_row most n (8 * slice) ∙ ap (λ k. ltb (most % 2 ^ k) (n % 2 ^ k)) next

  -- at first none is, and at the end all bytes were looked at
  pub none_above_in : map set (replicate 64 0) ≡ map (above_in bytes slices most 0) (range_with_len first 64)
  none_above_in =
      let rows = range_with_len first 64 in
      ap (map set) (splat_is_map rows 64 0 (length-range_with_len first 64)) ∙ map-map set (λ row. 0) rows
      ∙ (λ i. map (λ row. sym (le-ltb (most % 2 ^ (8 * 0)) (number_from (bytes_in bytes row) slices % 2 ^ (8 * 0)) (omega arith)) i) rows)

  pub all_above_in : (low : ℕ) → low ≡ slices → most < 2 ^ (8 * slices) → map (above_in bytes slices most low) (range_with_len first 64) ≡ map (ltb most) (take 64 (drop first (slices_codes slices bytes)))
  all_above_in low all fits =
      let codes = slices_codes slices bytes in
      ap (λ k. map (above_in bytes slices most k) (range_with_len first 64)) all ∙ same_on_range (above_in bytes slices most slices) (λ row. ltb most (get_or codes (0 + row) 0)) first 64
      (λ row le lt.
      ap₂ ltb (mod-eq_of_lt fits) (mod-eq_of_lt (number_below (bytes_in bytes row) slices (λ k. small (512 * k + row))) ∙ code_in_lane bytes slices row (omega arith) ∙ ap (λ k. get_or codes k 0) (omega arith)))
      ∙ sym (ap (map (ltb most)) (part_by_rows codes 0 first first 64 (omega arith) (omega (arith, length-slices_codes slices bytes))) ∙ map-map (ltb most) (λ row. get_or codes (0 + row) 0) (range_with_len first 64))

-- no slices spell numbers above none
pub none_above_none : (bytes : List ℕ) (most : ℕ) → false ≡ list_any (ltb most) (slices_codes 0 bytes)
unfolding slices_codes
none_above_none bytes most = none (range_with_len 0 group_size)
  where
    none : (rows : List ℕ) → false ≡ list_any (ltb most) (map (λ row. number_from (bytes_in bytes row) 0) rows)
    none [] = refl
    none (row ∷ rows) = none rows ∙ sym (ap (λ b. b || list_any (ltb most) (map (λ row. number_from (bytes_in bytes row) 0) rows)) (le-ltb most 0 (omega arith)))

-- the slices before some spell what stands above the bytes of these
pub front_is : (bytes : List ℕ) (count low : ℕ) → ((at : ℕ) → get_or bytes at 0 < 256) → slices_codes count bytes ≡ map (λ code. code / 2 ^ (8 * low)) (slices_codes (count + low) bytes)
unfolding slices_codes
front_is bytes count low small =
    let rows = range_with_len 0 group_size in
    sym (map-map (λ code. code / 2 ^ (8 * low)) (λ row. number_from (bytes_in bytes row) (count + low)) rows ∙ (λ i. map (λ row. number_of_front (bytes_in bytes row) count low (λ place. small (512 * place + row)) i) rows))

-- and tell whether a number is above one that ends in ones
pub front_tells : (bytes : List ℕ) (count low most slices : ℕ) → ((at : ℕ) → get_or bytes at 0 < 256) → most % 2 ^ (8 * low) + 1 ≡ 2 ^ (8 * low) → count + low ≡ slices
    → list_any (ltb (most / 2 ^ (8 * low))) (slices_codes count bytes) ≡ list_any (ltb most) (slices_codes slices bytes)
front_tells bytes count low most slices small ones all =
    let codes = slices_codes (count + low) bytes in
    sym (any_mapped (ltb (most / 2 ^ (8 * low))) (slices_codes count bytes))
    ∙ ap (λ l. list_any (λ lane. lane) (map (ltb (most / 2 ^ (8 * low))) l)) (front_is bytes count low small)
    ∙ ap (list_any (λ lane. lane)) (map-map (ltb (most / 2 ^ (8 * low))) (λ code. code / 2 ^ (8 * low)) codes ∙ (λ i. map (λ code. above_ones most code (8 * low) ones i) codes))
    ∙ any_mapped (ltb most) codes ∙ ap (λ k. list_any (ltb most) (slices_codes k bytes)) all

-- what is used, by lanes and by rows
pub used_any : (bytes : List ℕ) (lanes : List Bool) (count : ℕ) → list_any (λ lane. lane) (zip2 (λ among row. among && not (are_zero bytes row count)) lanes (range_with_len 0 512)) ≡ list_any set (selected_items lanes (slices_codes count bytes))
used_any bytes lanes count =
    let rows = range_with_len 0 512 in
    ap (list_any (λ lane. lane)) (sym (mapped_right (λ x y. x && y) (λ row. not (are_zero bytes row count)) lanes rows) ∙ ap (zip2 (λ x y. x && y) lanes) (sym (map-map not (λ row. are_zero bytes row count) rows) ∙ used_is bytes count))
    ∙ any_selected set lanes (slices_codes count bytes)

pub ruleset above_steps = (words_made, part_is, length-slices_codes)
