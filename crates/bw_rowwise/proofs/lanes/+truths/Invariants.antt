use Rattle.std.proofs.Common.{map, take}
use Rattle.bw_model.specs.Truth.{all_of, any_of}
use Rattle.bw_rowwise.specs.Columns.{row_in}
use Rattle.bw_rowwise.specs.Lanes.{AreTruths}
use Rattle.bw_rowwise.specs.Prepared.{prepared_truth}
use Rattle.bw_rowwise.proofs.lanes.+truths.Given as goal

-- AND of the parts so far
abbrev pub invariant-all_of-loop-part : goal.invariant-all_of-loop-part
invariant-all_of-loop-part l = AreTruths l.least (λ lane. all_of (map (prepared_truth (row_in l.columns lane)) (take l.part-index l.parts)))

-- OR of the parts so far
abbrev pub invariant-any_of-loop-part : goal.invariant-any_of-loop-part
invariant-any_of-loop-part l = AreTruths l.greatest (λ lane. any_of (map (prepared_truth (row_in l.columns lane)) (take l.part-index l.parts)))
