-- The highest digits of codes, which tell in nearly all segments that none is above a number, or
-- below it.
use Rattle.std.proofs.Common.{◌≡◌, ◌∙◌, refl, sym, ap, subst, ℕ, ◌+◌, ◌-◌, ◌/◌, ◌%◌, ◌^◌, ◌<◌, Bool}
use Rattle.std.proofs.Common.{true, false, not, cond, ltb, ◌||◌, List, [], ◌∷◌, map, arith}
use Rattle.std.proofs.Common.{mod-eq_of_lt, le-ltb, ltb-true, ltb-false, pow_pos}
use Rattle.std.specs.List.{AllByRecursion, list_all, list_any}
use Rattle.std.proofs.Math.Bool.{not-not}
use Rattle.std.proofs.lemmas.Bool.{or_parts}
use Rattle.bw_model.proofs.BitsLemmas.{both}
use Rattle.bw_segment.proofs.DescentLemmas.{below}
use Rattle.bw_segment.proofs.LowLemmas.{without_ones}
use Rattle.bw_segment.specs.Selected.{is_beyond}

-- none is above a number if none has as many as it in these digits
pub none_near : (width low digits most : ℕ) → width ≡ digits + low → (codes : List ℕ) → AllByRecursion (λ code. code < 2 ^ width) codes
    → list_all not (map (λ code. not (ltb (code / 2 ^ low % 2 ^ digits) (most / 2 ^ low))) codes) ≡ true → list_any (ltb most) codes ≡ false
none_near width low digits most whole [] small none = refl
none_near width low digits most whole (code ∷ codes) small none =
    let near = λ (code : ℕ). not (ltb (code / 2 ^ low % 2 ^ digits) (most / 2 ^ low)) in
    let parts = both (not (near code)) (list_all not (map near codes)) none in
    let lower = ltb-true (code / 2 ^ low % 2 ^ digits) (most / 2 ^ low) (sym (not-not _) ∙ parts.0) in
    let same = mod-eq_of_lt (without_ones code low digits width small.0 (omega (arith, whole))) in
    let lt : code < most = below code most (2 ^ low) (pow_pos low) (subst (λ n. n < most / 2 ^ low) same lower) in
    ap (λ b. b || list_any (ltb most) codes) (le-ltb most code (omega (arith, lt))) ∙ none_near width low digits most whole codes small.1 parts.1

-- the digits of a code from one on, this many, don't show that it isn't beyond another one
abbrev pub is_near : Bool → ℕ → ℕ → ℕ → ℕ → Bool
is_near greatest low digits other code = cond greatest (not (ltb (code / 2 ^ low % 2 ^ digits) ((other + 1) / 2 ^ low))) (ltb (code / 2 ^ low % 2 ^ digits) ((other - 1) / 2 ^ low + 1))

apart : (greatest : Bool) (width low digits other code : ℕ) → width ≡ digits + low → code < 2 ^ width → is_near greatest low digits other code ≡ false → is_beyond greatest other code ≡ false
apart true width low digits other code whole small far =
    let lower = ltb-true (code / 2 ^ low % 2 ^ digits) ((other + 1) / 2 ^ low) (sym (not-not _) ∙ ap not far) in
    let same = mod-eq_of_lt (without_ones code low digits width small (omega (arith, whole))) in
    let lt : code < other + 1 = below code (other + 1) (2 ^ low) (pow_pos low) (subst (λ n. n < (other + 1) / 2 ^ low) same lower) in
    le-ltb other code (omega (arith, lt))
apart false width low digits other code whole small far =
    let higher = ltb-false (code / 2 ^ low % 2 ^ digits) ((other - 1) / 2 ^ low + 1) far in
    let same = mod-eq_of_lt (without_ones code low digits width small (omega (arith, whole))) in
    let lt : other - 1 < code = below (other - 1) code (2 ^ low) (pow_pos low) (omega (arith, same, higher)) in
    le-ltb code other (omega (arith, lt))

-- no code is beyond another one if the highest digits show it of each
pub none_beyond : (greatest : Bool) (width low digits other : ℕ) → width ≡ digits + low → (codes : List ℕ) → AllByRecursion (λ code. code < 2 ^ width) codes
    → list_any (is_near greatest low digits other) codes ≡ false → list_any (is_beyond greatest other) codes ≡ false
none_beyond greatest width low digits other whole [] small far = refl
none_beyond greatest width low digits other whole (code ∷ codes) small far =
    let parts = or_parts (is_near greatest low digits other code) _ far in
    ap (λ b. b || list_any (is_beyond greatest other) codes) (apart greatest width low digits other code whole small.0 parts.0) ∙ none_beyond greatest width low digits other whole codes small.1 parts.1
