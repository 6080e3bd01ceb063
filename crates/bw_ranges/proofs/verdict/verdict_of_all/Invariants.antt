use Rattle.std.proofs.Common.{◌≡◌, map, drop}
use Rattle.bw_ranges.specs.PossibleTruths.{possible_truths}
use Rattle.bw_ranges.specs.TruthSet.{all_of_sets, both}
use Rattle.bw_ranges.proofs.verdict.verdict_of_all.Given as goal

-- the set so far, and what the parts to come make
abbrev pub invariant-loop-part : goal.invariant-loop-part
invariant-loop-part l =
    both l.set (all_of_sets (map (possible_truths l.ranges) (drop l.part-index l.parts))) ≡ all_of_sets (map (possible_truths l.ranges) l.parts)
