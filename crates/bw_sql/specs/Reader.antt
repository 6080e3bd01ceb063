-- What the readers return.
use Rattle.std.specs.Prelude.{◌≡◌, ℕ, List, Result, Ok, Err}
use Rattle.std.specs.Borrow.{Bor}
use Rattle.bw_sql.specs.declared.reader.Refusal.{Refusal}
use Rattle.bw_sql.specs.declared.reader.Stop.{Stop}
use Rattle.bw_sql.specs.declared.reader.Stop.TheVariants.{Refused, OutOfMemory}
use Rattle.bw_sql.specs.declared.token.PlacedToken.{PlacedToken}
use Rattle.bw_sql.specs.Reading.{Halt, ReadResult}
use Rattle.bw_sql.specs.Token.{Lexeme, lexemes}

abbrev pub refusal_stop : Refusal → ℕ → Stop
refusal_stop why left = Refused why left

-- reading stops there too, unless memory ran out
abbrev pub Halts : {A : Type 0} → Stop → Result A Halt → Type 0
Halts (Refused why left) reading = reading ≡ Err (record { why = why; left = left })
Halts OutOfMemory reading = Unit {0}

-- What a reader returned, seen by `view`, is what the reading function returns, unless memory ran
-- out.
abbrev pub Reads : {X A : Type 0} → (X → A) → Result X Stop → Result A Halt → Type 0
Reads view (Ok x) reading = reading ≡ Ok (view x)
Reads view (Err stop) reading = Halts stop reading

-- A reader of these tokens returned what the reading function returns for them: a thing, seen by
-- `view`, and the tokens after it.
abbrev pub ReadsFrom : {X A : Type 0} → (X → A) → List PlacedToken →
    Result (X × Bor (List PlacedToken)) Stop → (List Lexeme → ReadResult A) → Type 0
ReadsFrom view tokens result reading = Reads (λ read. (view read.0, lexemes read.1.now)) result
    (reading (lexemes tokens))
