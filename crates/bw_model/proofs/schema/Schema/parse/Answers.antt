-- The text's reading says both.
use Rattle.bw_model.proofs.SchemaSpelling.{spelled_from, accepted_from}
use Rattle.bw_model.proofs.schema.Schema.parse.Goals as goal
use Rattle.bw_model.proofs.SchemaCodes.{codes_of_schema}

pub returns-clause-spelled : goal.returns-clause-spelled
returns-clause-spelled c = spelled_from c.args.text.now c.read_schema.result c.read_schema.ensures

pub returns-clause-accepted : goal.returns-clause-accepted
returns-clause-accepted c = accepted_from c.args.text.now c.read_schema.result c.read_schema.ensures

-- src/parse.rt:34:5
pub returns-clause-code : goal.returns-clause-code
returns-clause-code c = codes_of_schema c.args.text.now c.read_schema.result c.read_schema.ensures
