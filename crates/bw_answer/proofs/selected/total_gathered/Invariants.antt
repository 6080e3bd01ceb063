use Rattle.std.proofs.Common.{◌≡◌, ◌<◌, ◌≤◌, ◌++◌, ℕ, List, count_by, drop, get_or, length, map, take}
use Rattle.bw_aggregate.specs.Selected.{IsWithin, with_selected}
use Rattle.bw_lanes.specs.Lanes.{lanes_of_words}
use Rattle.bw_model.specs.Row.{Value}
use Rattle.bw_model.specs.Selection.{selected_items}
use Rattle.bw_rowwise.specs.Accumulator.{Tally}
use Rattle.bw_rowwise.specs.Columns.{HaveRows}
use Rattle.bw_answer.proofs.GatheredLemmas.{Counts}
use Rattle.bw_answer.proofs.selected.total_gathered.Given as goal

-- the totals so far have the selected rows, and the others are as they were
abbrev pub invariant-loop-place : goal.invariant-loop-place
invariant-loop-place l = record {
  many : length l.totals ≡ length l.fn.totals;
  rest : (k : ℕ) (d : Tally) → l.place ≤ k → get_or l.totals k d ≡ get_or l.fn.totals k d;
  done : (k : ℕ) (d : Tally) → k < l.place → Counts (count_by (λ lane. lane) (lanes_of_words l.selection)) (get_or l.fn.totals k d) (get_or l.totals k d);
  step : (rows : List (List Value)) → HaveRows rows l.summed.columns → IsWithin (length rows) (lanes_of_words l.selection)
      → l.totals ≡ map (λ (tally : Tally). with_selected tally (selected_items (lanes_of_words l.selection) rows)) (take l.place l.fn.totals) ++ drop l.place l.fn.totals;
}
