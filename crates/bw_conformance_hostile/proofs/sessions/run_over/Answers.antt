-- A cache without scans serves every table.
use Rattle.bw_memory.specs.MemoryTable.{schema_of}
use Rattle.bw_conformance_hostile.proofs.sessions.run_over.Goals as goal

pub answer_statements-requires-clause-serves : goal.answer_statements-requires-clause-serves
answer_statements-requires-clause-serves g c = c.in-Ok.ensures.serves (schema_of c.args.table.now).columns.items
