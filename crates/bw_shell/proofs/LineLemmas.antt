-- The line of an instruction, found line by line.
use Rattle.std.proofs.Common.{◌≡◌, refl, ℕ, zero, suc, ◌-◌, ◌<◌, List, ◌∷◌, drop, arith}
use Rattle.bw_text.specs.Lines.{NumberedWords}
use Rattle.bw_shell.specs.Certification.{number_at}

pub found_later : (before : ℕ) (lines rest : List NumberedWords) (line : NumberedWords) (end : ℕ) → 0 < before → lines ≡ line ∷ rest → number_at (drop before lines) end ≡ number_at (drop (before - 1) rest) end
found_later zero lines rest line end some is = absurd (omega (arith, some))
found_later (suc before) lines rest line end some is = let less : suc before - 1 ≡ before = omega arith in rw (is, less) refl
