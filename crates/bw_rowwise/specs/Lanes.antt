-- Truth values in 512 lanes, one for each row.
use Rattle.std.specs.Prelude.{◌≡◌, ◌<◌, ℕ, false, not, slice_index_or}
use Rattle.bw_lanes.specs.Lanes.{lanes_of_words}
use Rattle.bw_model.specs.declared.cond.Truth.{Truth}
use Rattle.bw_model.specs.declared.cond.Truth.TheVariants.{No, Yes}
use Rattle.bw_model.specs.Truth.{is_truth}
use Rattle.bw_rowwise.specs.declared.truths.Truths.{Truths}

-- Two planes state a truth value in each lane: whether it is TRUE, and whether it isn't FALSE.
pub record AreTruths (truths : Truths) (truth : ℕ → Truth) : Type 0 where
  pub yes : (lane : ℕ) → lane < 512 → slice_index_or (lanes_of_words truths.yes) lane false
      ≡ is_truth (truth lane) Yes
  pub maybe : (lane : ℕ) → lane < 512
      → slice_index_or (lanes_of_words truths.maybe) lane false ≡ not (is_truth (truth lane) No)
