use Rattle.std.proofs.Common.{◌≡◌, map, take}
use Rattle.bw_model.specs.CondTree.{tree_of}
use Rattle.bw_model.proofs.+copy.Given as goal

-- the conditions so far are those given
abbrev pub invariant-copy::copies-loop-cond : goal.invariant-copy::copies-loop-cond
invariant-copy::copies-loop-cond l = map tree_of l.copies.items ≡ map tree_of (take l.cond-index l.conds)
