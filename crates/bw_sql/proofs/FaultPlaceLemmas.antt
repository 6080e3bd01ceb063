-- The errors of statements stand as the table of errors lists them.
use Rattle.std.proofs.Common.{ℕ, List, refl}
use Rattle.bw_model.specs.declared.fault.Fault.{Fault}
use Rattle.bw_model.specs.declared.schema.Schema.{Schema}
use Rattle.bw_model.specs.Fault.{at_byte}
use Rattle.bw_model.specs.FaultTable.{standing_of}
use Rattle.bw_model.specs.FaultPlaces.{StandsAsListed}
use Rattle.bw_sql.specs.declared.reader.Refusal.{Refusal}
use Rattle.bw_sql.specs.declared.reader.Refusal.TheVariants.{Syntax}
use Rattle.bw_sql.specs.Refusal.{code_of}
use Rattle.bw_sql.specs.Statement.{IsFault, too_long, refused, token_refused, end_refused}
use Rattle.bw_sql.specs.Statement.{byte_refused}

-- each reason to reject stands at a byte
by_reason : (why : Refusal) (at : ℕ) → StandsAsListed (at_byte (code_of why) at)
unfolding standing_of
by_reason Syntax at = refl
by_reason _ at = refl

pub fault_listed : (schema : Schema) (text : List ℕ) (fault : Fault) → IsFault schema text fault → StandsAsListed fault
unfolding standing_of
fault_listed schema text fault (too_long long) = refl
fault_listed schema text fault (refused short (token_refused {why} {spot} cut first there)) = by_reason why spot.at
fault_listed schema text fault (refused short (end_refused cut first)) = refl
fault_listed schema text fault (refused short (byte_refused cut none)) = refl
