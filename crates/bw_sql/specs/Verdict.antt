-- The query that the reading functions read from a text, or the error at which they stop.
use Rattle.std.specs.Prelude.{◌≡◌, ℕ, ◌-◌, List, length, Option, Some, None, Result, Ok, Err, false}
use Rattle.std.specs.Prelude.{slice_get}
use Rattle.bw_model.specs.FaultTable.{CHARACTER}
use Rattle.bw_model.specs.declared.fault.Fault.{Fault}
use Rattle.bw_model.specs.declared.query.Query.{Query}
use Rattle.bw_model.specs.declared.schema.Schema.{Schema}
use Rattle.bw_model.specs.Fault.{at_byte, no_memory, is_memory}
use Rattle.bw_sql.specs.declared.reader.Refusal.{Refusal}
use Rattle.bw_sql.specs.declared.reader.Stop.{Stop}
use Rattle.bw_sql.specs.declared.reader.Stop.TheVariants.{Refused, OutOfMemory}
use Rattle.bw_sql.specs.QueryShape.{QueryShape, query_shape}
use Rattle.bw_sql.specs.Cut.{IsCut, Spot}
use Rattle.bw_sql.specs.Reading.{Halt, statement_at}
use Rattle.bw_sql.specs.Refusal.{code_of}
use Rattle.bw_sql.specs.Statement.{tokens_of}

-- A refusal is at its token. After the last token, a byte that begins no piece is the error (401);
-- else the refusal is at the end.
abbrev pub fault_at : Option Spot → Option ℕ → ℕ → Refusal → Fault
fault_at (Some spot) stop end why = at_byte (code_of why) spot.at
fault_at None (Some at) end why = at_byte CHARACTER at
fault_at None None end why = at_byte (code_of why) end

-- the token from which on this many are left
abbrev pub spot_from : ℕ → List Spot → Option Spot
spot_from left tokens = slice_get tokens (length tokens - left)

-- what was read, if the whole text was cut into tokens; else the error
abbrev pub parse_verdict : List Spot → Option ℕ → ℕ → Result QueryShape Halt
    → Result QueryShape Fault
parse_verdict tokens None end (Ok query) = Ok query
parse_verdict tokens (Some at) end (Ok query) = Err (at_byte CHARACTER at)
parse_verdict tokens stop end (Err halt) = Err
    (fault_at (spot_from halt.left tokens) stop end halt.why)

-- a text is read as its tokens are
pub record IsRead (schema : Schema) (text : List ℕ) (outcome : Result QueryShape Fault) : Type
    0 where
  pub tokens : List Spot
  pub stop : Option ℕ
  pub cut : IsCut 0 text tokens stop
  pub is : outcome ≡ parse_verdict tokens stop (length text)
      (statement_at schema (tokens_of tokens))

-- the result is what the text is read as, unless memory ran out
abbrev pub Answers : Schema → List ℕ → Result Query Fault → Type 0
Answers schema text (Ok query) = IsRead schema text (Ok (query_shape query))
Answers schema text (Err fault) = is_memory fault ≡ false → IsRead schema text (Err fault)

-- the error of a reader that stopped
abbrev pub IsFaultOf : List Spot → Option ℕ → ℕ → Stop → Fault → Type 0
IsFaultOf tokens stop end (Refused why left) fault = fault
    ≡ fault_at (spot_from left tokens) stop end why
IsFaultOf tokens stop end OutOfMemory fault = fault ≡ no_memory
