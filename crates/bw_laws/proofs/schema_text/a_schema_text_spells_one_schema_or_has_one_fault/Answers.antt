-- What is read of a schema text is spelled by it, and what is spelled is read.
use Rattle.bw_laws.proofs.SchemaTextLemmas.{either, not_both, one_schema, one_fault, numbered}
use Rattle.bw_laws.proofs.schema_text.a_schema_text_spells_one_schema_or_has_one_fault.Goals as goal

pub returns : goal.returns
returns c = record { either = either; not_both = not_both; one_schema = one_schema; one_fault = one_fault; numbered = numbered }
