use Rattle.std.proofs.Common.{refl}
use Rattle.bw_encode.proofs.RankLemmas.{ranks_more}
use Rattle.bw_encode.proofs.ranked.ranks_of.Goals as goal

pub loop-rank-preserved : goal.loop-rank-preserved
loop-rank-preserved c = ranks_more c.args.entries.now c.loop-rank.ranks.items c.loop-rank.rank _ _ c.requires.own c.loop-rank-test.true refl c.loop-rank.invariant
