-- What a call that reads a schema answered.
use Rattle.std.proofs.Common.{◌≡◌, ℕ, List, Bool, true, false, Result, Ok, Err, IfOk, refl, ap}
use Rattle.bw_model.specs.declared.fault.Fault.{Fault}
use Rattle.bw_model.specs.declared.schema.Schema.{Schema}
use Rattle.bw_model.specs.Fault.{MatchesUnlessOom, no_memory, is_memory}
use Rattle.bw_model.specs.SchemaText.{schema_of, schema_shape, IsSchemaText}
use Rattle.bw_io.specs.Source.{Arrival, Whole, Failed, ReadOutcome, SourceState}
use Rattle.bw_csv_calls.specs.ReadInputs.{IsSchemaFrom}
use Rattle.bw_model.proofs.ErrLemmas.{memory_is}

-- what came of a source of which this was read
abbrev CameAs : ℕ → SourceState → SourceState → Result Schema Fault → Type 0
CameAs limit old new result = (came : Arrival) × ReadOutcome limit old new came × IsSchemaFrom came result

schema_refused : (limit : ℕ) (old new : SourceState) (bytes : List ℕ) (fault : Fault) (memory : Bool) → is_memory fault ≡ memory
    → ReadOutcome limit old new (Whole bytes) → (is_memory fault ≡ false → schema_of bytes ≡ Err fault) → CameAs limit old new (Err fault)
schema_refused limit old new bytes fault true m came gives =
    let same : no_memory ≡ no_memory = refl in
    let is : ◌≡◌ {A = Result Schema Fault} (Err fault) (Err no_memory) = ap Err (memory_is fault m) in
    (Failed no_memory, (same, came.1), is)
schema_refused limit old new bytes fault false m came gives = (Whole bytes, came, gives m)

-- the schema that bytes spell, or their error
pub schema_answered : (limit : ℕ) (old new : SourceState) (bytes : List ℕ) (result : Result Schema Fault)
    → ReadOutcome limit old new (Whole bytes) → IfOk result (λ schema. IsSchemaText bytes (schema_shape schema)) → MatchesUnlessOom schema_shape result (schema_of bytes)
    → CameAs limit old new result
schema_answered limit old new bytes (Ok schema) came spelled gives = (Whole bytes, came, spelled)
schema_answered limit old new bytes (Err fault) came spelled gives = schema_refused limit old new bytes fault (is_memory fault) refl came gives
