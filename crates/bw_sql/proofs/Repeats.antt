-- A loop that reads one thing after another reads what repeated gives.
use Rattle.std.proofs.Common.{◌≡◌, ℕ, zero, suc, ◌<◌, ◌≤◌, List, [], ◌∷◌, ◌++◌, length, Option}
use Rattle.std.proofs.Common.{Some, None, Result, Ok, Err, refl, sym, ◌∙◌, ap, arith, append_assoc}
use Rattle.std.proofs.lemmas.List.{append-nil}
use Rattle.bw_sql.specs.declared.reader.Stop.{Stop}
use Rattle.bw_sql.specs.declared.reader.Stop.TheVariants.{Refused, OutOfMemory}
use Rattle.bw_sql.specs.Reader.{Halts}
use Rattle.bw_sql.specs.declared.token.PlacedToken.{PlacedToken}
use Rattle.bw_sql.specs.Reading.{Halt, read_many, with_front, more_after}
use Rattle.bw_sql.specs.Token.{Lexeme, lexemes}

pub length-lexemes : (tokens : List PlacedToken) → length (lexemes tokens) ≡ length tokens
length-lexemes [] = refl
length-lexemes (placed ∷ tokens) = ap suc (length-lexemes tokens)

-- what is left to read, of this many tokens at most, goes after what was read
pub record Repeats {A : Type 0} (after : List Lexeme → Option (List Lexeme)) (one : List Lexeme → Result (A × List Lexeme) Halt)
    (front : List A) (left : ℕ) (tokens : List Lexeme) (whole : Result (List A × List Lexeme) Halt) : Type 0 where
  pub fuel : ℕ
  pub enough : left ≤ fuel
  pub same : whole ≡ with_front front (read_many fuel after one tokens)

fronts : {A : Type 0} (front : List A) (x : A) (read : Result (List A × List Lexeme) Halt) →
    with_front front (with_front (x ∷ []) read) ≡ with_front (front ++ x ∷ []) read
fronts front x (Ok xs) = ap (λ all. Ok (all, xs.1)) (sym (append_assoc front (x ∷ []) xs.0))
fronts front x (Err halt) = refl

module _ {A : Type 0} {after : List Lexeme → Option (List Lexeme)} {one : List Lexeme → Result (A × List Lexeme) Halt} {front : List A}
    {left : ℕ} {tokens : List Lexeme} {whole : Result (List A × List Lexeme) Halt} (repeats : Repeats after one front left tokens whole) where
  pub ends : after tokens ≡ None → whole ≡ Ok (front, tokens)
  unfolding read_many
  ends e = repeats.same ∙ ap (with_front front) (none repeats.fuel) ∙ ap (λ xs. Ok (xs, tokens)) (append-nil front) where
    none : (fuel : ℕ) → read_many fuel after one tokens ≡ Ok ([], tokens)
    none zero = refl
    none (suc fuel) = rw e refl

  -- if another follows
  more : {next : List Lexeme} → after tokens ≡ Some next → 0 < left → (fuel : ℕ) × (left ≤ suc fuel) ×
      (whole ≡ with_front front (more_after (Some next) tokens one (read_many fuel after one)))
  unfolding read_many
  more {next = next} e some = go repeats.fuel repeats.enough repeats.same where
    go : (fuel : ℕ) → left ≤ fuel → whole ≡ with_front front (read_many fuel after one tokens) → (fuel : ℕ) × (left ≤ suc fuel) ×
        (whole ≡ with_front front (more_after (Some next) tokens one (read_many fuel after one)))
    go zero enough same = absurd (omega arith)
    go (suc fuel) enough same = (fuel, enough, rw e at same)

  pub halts : {next : List Lexeme} (stop : Stop) → after tokens ≡ Some next → Halts stop (one next) → 0 < left → Halts stop whole
  halts (Refused why left) e f some = let m = more e some in m.2 ∙ (rw f refl)
  halts OutOfMemory e f some = tt

  pub steps : {next rest : List Lexeme} {x : A} {all : List A} {fewer : ℕ} → after tokens ≡ Some next → one next ≡ Ok (x, rest) →
      all ≡ front ++ x ∷ [] → fewer < left → Repeats after one all fewer rest whole
  steps {rest = rest} {x = x} e f g less =
      let m = more e (omega arith) in
      record { fuel = m.0; enough = omega (arith, m.1); same = rw g (m.2 ∙ (rw f (fronts front x (read_many m.0 after one rest)))) }

-- what stops one reader stops the one that calls it
pub halts_too : {A B : Type 0} (stop : Stop) (r : Result A Halt) (w : Result B Halt) →
    Halts stop r → ((halt : Halt) → r ≡ Err halt → w ≡ Err halt) → Halts stop w
halts_too (Refused why left) r w h passes = passes _ h
halts_too OutOfMemory r w h passes = tt
