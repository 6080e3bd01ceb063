use Rattle.std.proofs.Common.{take}
use Rattle.bw_query.specs.ProgramCache.{HasNone}
use Rattle.bw_query.proofs.program_cache.ProgramCache.find.Given as goal

-- no scan so far is for an equal condition
abbrev pub invariant-loop-number : goal.invariant-loop-number
invariant-loop-number l = HasNone (take l.number l.self.kept.items) l.cond
