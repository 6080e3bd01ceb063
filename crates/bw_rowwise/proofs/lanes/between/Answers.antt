use Rattle.bw_rowwise.proofs.lanes.between.Goals as goal

pub returns : goal.returns
returns c = c.both.ensures _ _ c.compare-least.ensures c.compare.ensures
