use Rattle.bw_encode.specs.Ranked.{AreRanks}
use Rattle.bw_encode.proofs.ranked.ranks_of.Given as goal

-- the entries before this one are ranked
abbrev pub invariant-loop-rank : goal.invariant-loop-rank
invariant-loop-rank l = AreRanks l.entries l.rank l.ranks.items
