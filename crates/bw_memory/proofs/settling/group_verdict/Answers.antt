-- The verdict holds of the rows within the group's ranges.
use Rattle.bw_memory.specs.MemoryTable.{meaning_numbered}
use Rattle.bw_memory.proofs.settling.group_verdict.Goals as goal

pub returns-clause-holds : goal.returns-clause-holds
returns-clause-holds c size table have whole elsewhere number there same =
    c.decide_rows.ensures (meaning_numbered table number).rows (λ column. c.put_ranges.ensures.group size table have whole elsewhere column number there same)
