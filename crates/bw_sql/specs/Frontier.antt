-- Where the errors of a statement are: each at the first token with which no statement can go on
-- under the demands of the error's number.
use Rattle.std.specs.Prelude.{◌≡◌, ℕ, Bool, true, false, IsTrue, ◌<◌, ◌≤◌, ◌⊎◌, List, [], ◌∷◌, ◌++◌}
use Rattle.std.specs.Prelude.{length, not, ◌||◌, ◌==◌}
use Rattle.bw_model.specs.declared.schema.Schema.{Schema}
use Rattle.bw_sql.specs.declared.reader.Refusal.{Refusal}
use Rattle.bw_sql.specs.declared.reader.Refusal.TheVariants.{Syntax, Literal}
use Rattle.bw_sql.specs.declared.token.Mark.TheVariants.{Plus, Minus}
use Rattle.bw_sql.specs.QueryShape.{QueryShape}
use Rattle.bw_sql.specs.Demand.{Demand, is_met, refusal}
use Rattle.bw_sql.specs.Grammar.{StatementIs}
use Rattle.bw_sql.specs.Refusal.{code_of}
use Rattle.bw_sql.specs.Token.{Lexeme, Digits, Punct}

-- some statement begins with these tokens
pub record Viable (schema : Schema) (met : Demand → Bool) (tokens : List Lexeme) : Type 0 where
  pub more : List Lexeme
  pub query : QueryShape
  pub spelled : StatementIs schema.columns.items met (tokens ++ more) query

-- Only the demands of one number are imposed; all others count as met. Syntax has no demand: only
-- the productions count for it.
abbrev pub asked_for : Schema → Refusal → Demand → Bool
asked_for schema why demand = not (code_of (refusal demand) == code_of why) || is_met schema demand

abbrev pub Begins : Schema → Refusal → List Lexeme → Type 0
Begins schema why tokens = Viable schema (asked_for schema why) tokens

-- a plus or a minus
abbrev pub is_sign : Lexeme → Bool
is_sign (Punct Plus) = true
is_sign (Punct Minus) = true
is_sign _ = false

-- Why a statement is rejected, and after how many tokens: at a token with which no statement goes
-- on; at a sign, if none goes on with it and its digits; or at the end, if the tokens are no
-- statement.
pub data Stands (schema : Schema) (tokens : List Lexeme) : Refusal → ℕ → Type 0 where
  at_token : {why : Refusal} (before after : List Lexeme) (t : Lexeme) →
      tokens ≡ before ++ t ∷ after →
      Begins schema why before → (Begins schema why (before ++ t ∷ []) → ⊥)
      → Stands schema tokens why (length before)
  at_sign : (before after : List Lexeme) (t : Lexeme) (digits : List ℕ) → IsTrue (is_sign t) →
      tokens ≡ before ++ t ∷ Digits digits ∷ after →
      Begins schema Literal before → (Begins schema Literal (before ++ t ∷ Digits digits ∷ []) → ⊥)
      → Stands schema tokens Literal (length before)
  at_end : Begins schema Syntax tokens →
      ((query : QueryShape) → StatementIs schema.columns.items (asked_for schema Syntax) tokens
      query → ⊥) → Stands schema tokens Syntax (length tokens)

-- the first place of an error, and the lowest number there
pub record IsFirst (schema : Schema) (tokens : List Lexeme) (why : Refusal)
    (place : ℕ) : Type 0 where
  pub stands : Stands schema tokens why place
  pub first : (other : Refusal) (at : ℕ) → Stands schema tokens other at → (place < at)
      ⊎ ((place ≡ at) × (code_of why ≤ code_of other))
