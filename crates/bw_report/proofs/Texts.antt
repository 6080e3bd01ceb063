-- Texts put together in a room of bytes.
use Rattle.std.proofs.Common.{◌≡◌, ℕ, ◌+◌, ◌≤◌, ◌<◌, List, ◌++◌, length, ap, ◌∙◌, arith}
use Rattle.std.proofs.lemmas.Bool.Decides.{nat_tests}
use Rattle.std.specs.Fmt.Cut.{cut_to}

-- a text that has room isn't cut
pub cut_to_fits : (room : ℕ) (text : List ℕ) → length text ≤ room → cut_to room text ≡ text
unfolding cut_to
cut_to_fits room text h = grind (arith, nat_tests)

-- a part that has room is appended
pub append_fits : (limit room : ℕ) (old front part new : List ℕ) → (length old + room < limit → new ≡ old ++ cut_to room part)
    → old ≡ front → length front + room < limit → length part ≤ room → new ≡ front ++ part
append_fits limit room old front part new appends e fits h =
    let within : length old + room < limit = omega (arith, ap length e) in
    appends within ∙ ap (λ l. l ++ cut_to room part) e ∙ ap (λ l. front ++ l) (cut_to_fits room part h)
