-- The errors of schema texts stand as the table of errors lists them.
use Rattle.std.proofs.Common.{◌≡◌, ℕ, List, Err, refl}
use Rattle.bw_model.specs.declared.fault.Fault.{Fault}
use Rattle.bw_model.specs.FaultTable.{standing_of}
use Rattle.bw_model.specs.FaultPlaces.{StandsAsListed}
use Rattle.bw_model.specs.SchemaText.{schema_of}
use Rattle.bw_model.proofs.FaultLemmas.{fault_so}
use Rattle.bw_model.proofs.SchemaCodes.{OfSchemaFaults, text_so}

as_listed : OfSchemaFaults StandsAsListed
unfolding standing_of
as_listed = record { form = λ line. refl; name = λ line. refl; range = λ line. refl; twice = λ line. refl; count = λ line. refl; long = refl }

pub schema_of_listed : (text : List ℕ) (fault : Fault) → schema_of text ≡ Err fault → StandsAsListed fault
schema_of_listed text fault is = fault_so StandsAsListed (schema_of text) fault (text_so StandsAsListed as_listed text) is
