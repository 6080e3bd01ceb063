-- The text's reading says both, and what is spelled fits.
use Rattle.bw_program.proofs.ProgramSpelling.{spelled_from, accepted_from, fits_from}
use Rattle.bw_program.proofs.program.Program.parse.Goals as goal

pub returns-clause-spelled : goal.returns-clause-spelled
returns-clause-spelled c = spelled_from c.args.schema.now.columns.items c.args.text.now c.read_program.result c.read_program.ensures.read

pub returns-clause-accepted : goal.returns-clause-accepted
returns-clause-accepted c = accepted_from c.args.schema.now.columns.items c.args.text.now c.read_program.result c.read_program.ensures.read

pub returns-clause-fits : goal.returns-clause-fits
returns-clause-fits c = fits_from c.args.schema.now.columns.items c.args.text.now c.read_program.result c.read_program.ensures.read
