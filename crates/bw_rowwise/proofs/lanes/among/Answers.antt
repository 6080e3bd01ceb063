use Rattle.bw_rowwise.proofs.lanes.among.Goals as goal

pub returns : goal.returns
returns c = c.either.ensures _ _ c.among_numbers-found.ensures c.among_others.ensures
