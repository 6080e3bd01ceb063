use Rattle.std.proofs.Common.{All, take}
use Rattle.bw_memory.specs.MemoryTable.{schema_of}
use Rattle.bw_query.specs.ProgramChoice.{IsRejected, texts_of}
use Rattle.bw_query.proofs.scan.choose.Given as goal

-- the files so far are rejected
abbrev pub invariant-loop-number : goal.invariant-loop-number
invariant-loop-number l = All (IsRejected (schema_of l.table).columns.items l.cond) (take l.number (texts_of l.files))
