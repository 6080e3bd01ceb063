use Rattle.std.proofs.Common.{All, take}
use Rattle.bw_query.specs.ProgramChoice.{IsFileRead, texts_of}
use Rattle.bw_query.proofs.program_cache.ProgramCache.new.Given as goal

-- the files so far are read
abbrev pub invariant-loop-number : goal.invariant-loop-number
invariant-loop-number l = All (IsFileRead l.schema.columns.items) (take l.number (texts_of l.files.items))
