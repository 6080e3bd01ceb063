-- What verdicts say of truth values.
use Rattle.std.proofs.Common.{◌≡◌, ◌∙◌, refl, sym, Bool, true, false, List}
use Rattle.std.proofs.lemmas.Bool.{true≢false}
use Rattle.bw_model.specs.declared.cond.Truth.{Truth}
use Rattle.bw_model.specs.declared.cond.Truth.TheVariants.{No, Unknown, Yes}
use Rattle.bw_model.specs.declared.cond.Cond.{Cond}
use Rattle.bw_model.specs.Truth.{is_truth}
use Rattle.bw_model.specs.Cond.{is_match, truth_of}
use Rattle.bw_model.specs.Row.{Value}
use Rattle.bw_ranges.specs.declared.column_range.ColumnRange.{ColumnRange}
use Rattle.bw_ranges.specs.declared.truth_set.TruthSet.{TruthSet}
use Rattle.bw_ranges.specs.declared.verdict.Verdict.TheVariants.{NoRow, EveryRow}
use Rattle.bw_ranges.specs.ColumnRange.{IsWithin}
use Rattle.bw_ranges.specs.PossibleTruths.{possible_truths}
use Rattle.bw_ranges.specs.TruthSet.{has_truth}
use Rattle.bw_ranges.specs.Verdict.{verdict_from, verdict_of}
use Rattle.bw_ranges.proofs.RowLemmas.{possible_on_row}

never : (y f u : Bool) → verdict_from y f u ≡ NoRow → y ≡ false
never false f u e = refl
never true false false e = absurd (cc e)
never true false true e = absurd (cc e)
never true true u e = absurd (cc e)

surely : (y f u : Bool) → verdict_from y f u ≡ EveryRow → (f ≡ false) × (u ≡ false)
surely false f u e = absurd (cc e)
surely true false false e = (refl, refl)
surely true false true e = absurd (cc e)
surely true true u e = absurd (cc e)

no_truth : (a : TruthSet) (t : Truth) → verdict_of a ≡ NoRow → has_truth a t ≡ true → is_truth t Yes ≡ false
no_truth a No e is = refl
no_truth a Unknown e is = refl
no_truth a Yes e is = absurd (true≢false (sym is ∙ never a.yes a.no a.unknown e))

every_truth : (a : TruthSet) (t : Truth) → verdict_of a ≡ EveryRow → has_truth a t ≡ true → is_truth t Yes ≡ true
every_truth a No e is = absurd (true≢false (sym is ∙ (surely a.yes a.no a.unknown e).0))
every_truth a Unknown e is = absurd (true≢false (sym is ∙ (surely a.yes a.no a.unknown e).1))
every_truth a Yes e is = refl

pub no_row_matches : (ranges : List ColumnRange) (cond : Cond) → verdict_of (possible_truths ranges cond) ≡ NoRow → (row : List Value) → IsWithin ranges row → is_match cond row ≡ false
no_row_matches ranges cond e row within = no_truth (possible_truths ranges cond) (truth_of row cond) e (possible_on_row ranges row within cond)

pub every_row_matches : (ranges : List ColumnRange) (cond : Cond) → verdict_of (possible_truths ranges cond) ≡ EveryRow → (row : List Value) → IsWithin ranges row → is_match cond row ≡ true
every_row_matches ranges cond e row within = every_truth (possible_truths ranges cond) (truth_of row cond) e (possible_on_row ranges row within cond)

pub ruleset matches = (no_row_matches, every_row_matches)
