-- What belongs to where a condition is TRUE, and to where it is FALSE.
use Rattle.std.specs.Prelude.{Bool, true, false}
use Rattle.bw_diagram.specs.declared.truth_pair.TruthPair.{TruthPair}

-- the pair of a condition, or of its opposite if it is negated
abbrev pub opposite_if : {T : Type 0} → Bool → TruthPair T → TruthPair T
opposite_if true pair = record { yes = pair.no; no = pair.yes }
opposite_if false pair = pair
