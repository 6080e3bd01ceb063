use Rattle.std.proofs.Common.{◌≡◌, map, drop}
use Rattle.bw_ranges.specs.PossibleTruths.{possible_truths}
use Rattle.bw_ranges.specs.TruthSet.{all_of_sets, any_of_sets, both, either}
use Rattle.bw_ranges.proofs.truths.+truths.Given as goal

-- the set so far, and what the parts to come make
abbrev pub invariant-all_of-loop-part : goal.invariant-all_of-loop-part
invariant-all_of-loop-part l =
    both l.set (all_of_sets (map (possible_truths l.ranges) (drop l.part-index l.parts))) ≡ all_of_sets (map (possible_truths l.ranges) l.parts)

abbrev pub invariant-any_of-loop-part : goal.invariant-any_of-loop-part
invariant-any_of-loop-part l =
    either l.set (any_of_sets (map (possible_truths l.ranges) (drop l.part-index l.parts))) ≡ any_of_sets (map (possible_truths l.ranges) l.parts)
