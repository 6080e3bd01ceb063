-- A cache without scans serves every table.
use Rattle.bw_memory.specs.MemoryTable.{schema_of}
use Rattle.bw.proofs.session.programs_for.Goals as goal

pub returns-in-Ok : goal.returns-in-Ok
returns-in-Ok c = c.in-Ok.ensures.serves (schema_of c.args.table.now).columns.items
