-- One more file is read, and then all are.
use Rattle.std.proofs.Common.{arith}
use Rattle.bw_query.specs.ProgramChoice.{IsFileRead}
use Rattle.bw_query.proofs.CacheLemmas.{files_all, files_more}
use Rattle.bw_query.proofs.program_cache.ProgramCache.new.Goals as goal

pub loop-number-preserved : goal.loop-number-preserved
loop-number-preserved c =
    files_more (IsFileRead c.args.schema.now.columns.items) c.args.files.items c.loop-number.number c.index.result.now (omega (arith, c.loop-number-test.true, c.len-number-end.ensures))
    c.index.ensures c.loop-number.invariant (rw c.deref.ensures.value at c.in-Ok.ensures.read)

pub returns-clause-read : goal.returns-clause-read
returns-clause-read c =
    files_all (IsFileRead c.args.schema.now.columns.items) c.args.files.items c.loop-number.number (omega (arith, c.loop-number-test.false, c.len-number-end.ensures)) c.loop-number.invariant
