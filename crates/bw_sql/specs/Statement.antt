-- What a text means: the query that it spells, or its error.
use Rattle.std.specs.Prelude.{◌≡◌, ℕ, ◌<◌, ◌≤◌, ◌⊎◌, List, map, length, Option, Some, None, Result}
use Rattle.std.specs.Prelude.{Ok, Err, false, slice_get}
use Rattle.bw_model.specs.FaultTable.{CHARACTER, STATEMENT_TOO_LONG}
use Rattle.bw_model.specs.declared.fault.Fault.{Fault}
use Rattle.bw_model.specs.declared.query.Query.{Query}
use Rattle.bw_model.specs.declared.schema.Schema.{Schema}
use Rattle.bw_model.specs.Fault.{at_byte, is_memory}
use Rattle.bw_sql.specs.declared.reader.Refusal.{Refusal}
use Rattle.bw_sql.specs.declared.reader.Refusal.TheVariants.{Syntax}
use Rattle.bw_sql.specs.QueryShape.{QueryShape, query_shape}
use Rattle.bw_sql.specs.Cut.{IsCut, Spot}
use Rattle.bw_sql.specs.Frontier.{IsFirst}
use Rattle.bw_sql.specs.Grammar.{IsQuery}
use Rattle.bw_sql.specs.Limits.{longest_statement}
use Rattle.bw_sql.specs.Refusal.{code_of}
use Rattle.bw_sql.specs.Token.{Lexeme}

abbrev pub tokens_of : List Spot → List Lexeme
tokens_of tokens = map (λ spot. spot.token) tokens

-- the text isn't too long, and is cut to its end into tokens that spell the query
pub record Spells (schema : Schema) (text : List ℕ) (query : QueryShape) : Type 0 where
  pub short : length text ≤ longest_statement
  pub tokens : List Spot
  pub cut : IsCut 0 text tokens None
  pub spelled : IsQuery schema (tokens_of tokens) query

-- The error of a text that isn't too long: the first at which its tokens are rejected, at that
-- token's byte, or at the end of the text after all tokens. But if a byte begins no piece, the
-- error is 401 there, unless there is one at an earlier token.
pub data IsRefusal (schema : Schema) (text : List ℕ) : Fault → Type 0 where
  token_refused : {tokens : List Spot} {stop : Option ℕ} {why : Refusal} {place : ℕ} {spot : Spot}
      → IsCut 0 text tokens stop →
      IsFirst schema (tokens_of tokens) why place → slice_get tokens place ≡ Some spot
      → IsRefusal schema text (at_byte (code_of why) spot.at)
  end_refused : {tokens : List Spot} → IsCut 0 text tokens None →
      IsFirst schema (tokens_of tokens) Syntax (length tokens)
      → IsRefusal schema text (at_byte (code_of Syntax) (length text))
  byte_refused : {tokens : List Spot} {at : ℕ} → IsCut 0 text tokens (Some at) →
      ((why : Refusal) (place : ℕ) → IsFirst schema (tokens_of tokens) why place
      → length tokens ≤ place) → IsRefusal schema text (at_byte CHARACTER at)

-- the error of a text: 407 at its first byte past the limit, if it is too long
pub data IsFault (schema : Schema) (text : List ℕ) : Fault → Type 0 where
  too_long : longest_statement < length text
      → IsFault schema text (at_byte STATEMENT_TOO_LONG longest_statement)
  refused : {fault : Fault} → length text ≤ longest_statement → IsRefusal schema text fault
      → IsFault schema text fault

-- a text is read as the query that it spells, or as its error
abbrev pub IsReadAs : Schema → List ℕ → Result Query Fault → Type 0
IsReadAs schema text (Ok query) = Spells schema text (query_shape query)
IsReadAs schema text (Err fault) = IsFault schema text fault

-- the same for a call, unless memory ran out
abbrev pub Parses : Schema → List ℕ → Result Query Fault → Type 0
Parses schema text (Ok query) = IsReadAs schema text (Ok query)
Parses schema text (Err fault) = is_memory fault ≡ false → IsReadAs schema text (Err fault)

-- a text spells a query or has an error
abbrev pub SpellsOrFails : Schema → List ℕ → Type 0
SpellsOrFails schema text = ((query : QueryShape) × Spells schema text query)
    ⊎ ((fault : Fault) × IsFault schema text fault)
