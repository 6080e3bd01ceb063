-- No byte is less than 0.
use Rattle.std.proofs.Common.{◌≡◌, ◌∙◌, refl, sym, ap, ap₂, ℕ, ◌∷◌, false, List, [], ltb, le-ltb}
use Rattle.std.proofs.Common.{map, length, replicate, arith}
use Rattle.bw_lanes.proofs.WordLemmas.{zeros_are_zero}
use Rattle.bw_lanes.proofs.bytes.bytes_lt.Goals as goal

none_below : (bytes : List ℕ) → replicate (length bytes) false ≡ map (λ byte. ltb byte 0) bytes
none_below [] = refl
none_below (byte ∷ bytes) = ap₂ ◌∷◌ (sym (le-ltb byte 0 (omega arith))) (none_below bytes)

pub returns-then-c-eq0 : goal.returns-then-c-eq0
returns-then-c-eq0 c =
    let bytes = c.args.bytes.now in
    zeros_are_zero ∙ ap (λ n. replicate n false) (sym c.told-bytes) ∙ none_below bytes ∙ ap (λ n. map (λ byte. ltb byte n) bytes) (sym c.if-c-eq0.true)
