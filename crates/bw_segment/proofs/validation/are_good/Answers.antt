use Rattle.std.proofs.Common.{◌≡◌, ◌∙◌, sym, ℕ, false, not, ◌==◌}
use Rattle.std.specs.List.{list_any}
use Rattle.std.proofs.lemmas.Bool.{not-true}
use Rattle.bw_lanes.specs.Lanes.{lanes_of_words}
use Rattle.bw_model.specs.Selection.{selected_items}
use Rattle.bw_segment.proofs.FaultLemmas.{none_used, all_good}
use Rattle.bw_segment.proofs.validation.are_good.Goals as goal
use Rattle.bw_segment.proofs.validation.are_good.Goals.{then-is_zero, else-is_zero}

pub returns-then-not-any_nonzero : goal.returns-then-not-any_nonzero
returns-then-not-any_nonzero g c = λ good.
    let nulls = lanes_of_words c.args.nulls.now in
    let codes = g.L.CodeLayout.packing.codes c.args.width c.args.codes.now in
    let test = λ (code : ℕ). not (code == 0) in
    let unused : list_any test (selected_items nulls codes) ≡ false = elim c.if-is_zero.branch [
      | then-is_zero w ↦ none_used test nulls codes (sym c.is_zero.ensures ∙ w.if-is_zero.true)
      | else-is_zero w ↦ sym w.any_nonzero.ensures ∙ not-true w.any_nonzero.result (sym w.value-is ∙ c.if-not-any_nonzero.true)
    ] in
    all_good c.args.span nulls codes (c.keeps_codes.ensures.codes_length c.args.width c.args.codes.now c.requires.size) unused (sym c.any_above.ensures ∙ not-true c.any_above.result good)
