-- What follows of the set of truth values that a condition may have.
use Rattle.std.specs.Prelude.{Bool, true, false}
use Rattle.bw_ranges.specs.declared.truth_set.TruthSet.{TruthSet}
use Rattle.bw_ranges.specs.declared.verdict.Verdict.{Verdict}
use Rattle.bw_ranges.specs.declared.verdict.Verdict.TheVariants.{NoRow, EveryRow, Open}

-- from whether it may be TRUE, FALSE and UNKNOWN
abbrev pub verdict_from : Bool → Bool → Bool → Verdict
verdict_from false f u = NoRow
verdict_from true false false = EveryRow
verdict_from true false true = Open
verdict_from true true u = Open

-- NoRow if it can't be TRUE, EveryRow if it can be nothing else
abbrev pub verdict_of : TruthSet → Verdict
verdict_of truths = verdict_from truths.yes truths.no truths.unknown
