use Rattle.bw_rowwise.proofs.lanes.among_others.Goals as goal

pub returns : goal.returns
returns c = rw c.deref.ensures.value at (c.either.ensures _ _ c.among_columns-found.ensures c.truth_of_null.ensures)
