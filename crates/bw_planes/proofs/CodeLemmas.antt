-- The codes that planes spell: 512, each of this many binary digits.
use Rattle.std.proofs.Common.{◌≡◌, ◌∙◌, sym, ap, subst, ℕ, suc, ◌+◌, ◌-◌, ◌*◌, ◌/◌, ◌%◌, ◌^◌, ◌<◌}
use Rattle.std.proofs.Common.{◌≤◌, false, cond, ◌==◌, List, [], ◌∷◌, map, length, take, drop}
use Rattle.std.proofs.Common.{get_or, bit_and, arith, ap₂, shr_lt, pow_mono, take-take, div-one}
use Rattle.std.specs.Int.{bit_at}
use Rattle.std.specs.List.{range_with_len, AllByRecursion}
use Rattle.std.proofs.lemmas.List.{get_or-take, get_or-drop, get_or-map, length-take, length-drop}
use Rattle.std.proofs.lemmas.List.FromFn.{get_or-map-range_with_len}
use Rattle.std.proofs.lemmas.Nat.{and_le_r}
use Rattle.std.proofs.lemmas.Nat.Bits.{bit_at-lt, shr_and_one}
use Rattle.std.proofs.lemmas.Simd.{map-map}
use Rattle.bw_lanes.specs.Lanes.{lanes_of_bytes}
use Rattle.bw_lanes.proofs.BitLemmas.{lane_of_bytes}
use Rattle.bw_model.specs.Code.{has_bit}
use Rattle.bw_model.specs.Groups.{group_size}
use Rattle.bw_model.specs.Variable.{binary_number}
use Rattle.bw_model.proofs.BitsLemmas.{bit_denotes}
use lib.Lanes.{zip2}
use Rattle.bw_model.specs.StoredCodes.{byte_of}
use Rattle.bw_model.proofs.VariableLemmas.{binary_number-lt}
use Rattle.bw_segment.proofs.ByteLemmas.{with_byte, codes_from, top_byte, byte_more, codes_whole}
use Rattle.bw_segment.proofs.DescentLemmas.{high_more}
use Rattle.bw_planes.specs.Planes.{plane_lanes, row_bits, planes_codes}
use Rattle.bw_planes.proofs.KeptLemmas.{length-planes_codes, plane_of_codes}

pub codes_long : (width : ℕ) (bytes : List ℕ) → length (planes_codes width bytes) ≡ 512
unfolding group_size
codes_long = length-planes_codes

-- what is the same of all numbers of this many digits is the same of codes, each of which is one
pub codes_agree : {A : Type 0} (f g : ℕ → A) (width : ℕ) (bytes : List ℕ) → ((code : ℕ) → code < 2 ^ width → f code ≡ g code) → map f (planes_codes width bytes) ≡ map g (planes_codes width bytes)
unfolding planes_codes
codes_agree f g width bytes same =
    let rows = range_with_len 0 group_size in
    let code = λ (row : ℕ). binary_number (row_bits bytes row) 0 width in
    map-map f code rows ∙ (λ i. map (λ row. same (code row) (binary_number-lt (row_bits bytes row) 0 width) i) rows) ∙ sym (map-map g code rows)

pub small_in_rows : (width : ℕ) (bytes rows : List ℕ) → AllByRecursion (λ code. code < 2 ^ width) (map (λ row. binary_number (row_bits bytes row) 0 width) rows)
small_in_rows width bytes [] = tt
small_in_rows width bytes (row ∷ rows) = (binary_number-lt (row_bits bytes row) 0 width, small_in_rows width bytes rows)

pub codes_small : (width : ℕ) (bytes : List ℕ) → AllByRecursion (λ code. code < 2 ^ width) (planes_codes width bytes)
unfolding planes_codes
codes_small width bytes = small_in_rows width bytes (range_with_len 0 group_size)

-- a bit of it, as it is read
bit_in_lane : (width place lane : ℕ) (bytes : List ℕ) → length bytes ≡ 64 * width → place < width → lane < 512
    → bit_and (get_or bytes (64 * place + lane / 8) 0 / 2 ^ (lane % 8)) 1 ≡ cond (has_bit (get_or (planes_codes width bytes) lane 0) (width - suc place)) 1 0
bit_in_lane width place lane bytes long there lt =
    let bit = width - suc place in
    let plane : place ≡ width - suc bit = omega arith in
    let after = drop (64 * place) bytes in
    let byte = get_or bytes (64 * place + lane / 8) 0 in
    let size : length (take 64 after) ≡ 64 = omega (arith, length-take 64 after, length-drop (64 * place) bytes, long) in
    let byte_is : get_or (take 64 after) (lane / 8) 0 ≡ byte = get_or-take 64 after (lane / 8) 0 (omega arith) ∙ get_or-drop (64 * place) bytes (lane / 8) 0 in
    let shown = ap (λ b. bit_at b (lane % 8) == 1) (sym byte_is) ∙ sym (lane_of_bytes (take 64 after) lane (omega (arith, size))) ∙ ap (λ k. get_or (plane_lanes bytes k) lane false) plane
    ∙ ap (λ l. get_or l lane false) (plane_of_codes width bit bytes long (omega arith)) ∙ get_or-map (λ code. has_bit code bit) (planes_codes width bytes) lane 0 false (omega (arith, codes_long width bytes)) in
    omega (arith, shr_and_one byte (lane % 8), bit_denotes (bit_at byte (lane % 8)) 1 (bit_at-lt byte (lane % 8)), ap {B = ℕ} (λ b. cond b 1 0) shown)

-- the highest bits, this many, of the code in a lane
unfoldable pub top_bits : ℕ → ℕ → ℕ → List ℕ → ℕ
top_bits width place lane bytes = get_or (planes_codes width bytes) lane 0 / 2 ^ (width - place)

pub top_small : (width place lane : ℕ) (bytes : List ℕ) → place ≤ width → lane < 512 → top_bits width place lane bytes < 2 ^ place
unfolding top_bits planes_codes group_size
top_small width place lane bytes le lt =
    let all : width ≡ place + (width - place) = omega arith in
    let code : get_or (planes_codes width bytes) lane 0 ≡ binary_number (row_bits bytes lane) 0 width =
    get_or-map-range_with_len (λ row. binary_number (row_bits bytes row) 0 width) 0 512 lane lane 0 lt (omega arith) in
    shr_lt place (width - place) (subst (λ k. get_or (planes_codes width bytes) lane 0 < 2 ^ k) all (subst (λ n. n < 2 ^ width) (sym code) (binary_number-lt (row_bits bytes lane) 0 width)))

pub top_fits : (width place lane : ℕ) (bytes : List ℕ) → place < width → width ≤ 63 → lane < 512 → top_bits width place lane bytes < 2 ^ 62
top_fits width place lane bytes lt few within =
    let most = pow_mono {i = place} {j = 62} (omega arith) in omega (arith, most, top_small width place lane bytes (omega arith) within)

pub top_more : (width place lane : ℕ) (bytes : List ℕ) → length bytes ≡ 64 * width → place < width → lane < 512
    → top_bits width (place + 1) lane bytes ≡ 2 * top_bits width place lane bytes + bit_and (get_or bytes (64 * place + lane / 8) 0 / 2 ^ (lane % 8)) 1
unfolding top_bits
top_more width place lane bytes long lt within =
    let code = get_or (planes_codes width bytes) lane 0 in
    let bit = width - suc place in
    let above : suc bit ≡ width - place = omega arith in
    let next : width - (place + 1) ≡ bit = omega arith in
    ap (λ k. code / 2 ^ k) next ∙ high_more code bit ∙ ap₂ (λ k b. 2 * (code / 2 ^ k) + b) above (sym (bit_in_lane width place lane bytes long lt within))

pub top_whole : (width place lane : ℕ) (bytes : List ℕ) → place ≡ width → top_bits width place lane bytes ≡ get_or (planes_codes width bytes) lane 0
unfolding top_bits
top_whole width place lane bytes all = let none : width - place ≡ 0 = omega arith in ap (λ k. get_or (planes_codes width bytes) lane 0 / 2 ^ k) none ∙ div-one _

pub ruleset code_steps = (top_small, top_fits, top_more, top_whole, and_le_r)

-- the plane of a bit, as it is loaded
pub plane_loaded : (width bit : ℕ) (bytes : List ℕ) → length bytes ≡ 64 * width → bit < width
    → lanes_of_bytes (take 64 (take (length bytes - 64 * (width - 1 - bit)) (drop (64 * (width - 1 - bit)) bytes))) ≡ map (λ code. has_bit code bit) (planes_codes width bytes)
plane_loaded width bit bytes long lt =
    let plane : width - 1 - bit ≡ width - suc bit = omega arith in
    ap lanes_of_bytes (take-take 64 _ (drop (64 * (width - 1 - bit)) bytes) (omega arith)) ∙ ap (plane_lanes bytes) plane ∙ plane_of_codes width bit bytes long lt

-- one more byte of each code
pub next_byte : (width slices place : ℕ) (bytes held byte : List ℕ) → place < slices → width ≤ 63 → held ≡ codes_from (slices - place) (planes_codes width bytes)
    → byte ≡ map (byte_of (slices - 1 - place)) (planes_codes width bytes) → zip2 with_byte held byte ≡ codes_from (slices - (place + 1)) (planes_codes width bytes)
next_byte width slices place bytes held byte lt few before is = byte_more width slices place _ held byte lt (omega arith) (codes_small width bytes) before is

pub ruleset byte_steps = (top_byte, codes_small, next_byte, codes_whole)
