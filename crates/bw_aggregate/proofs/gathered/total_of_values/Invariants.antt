use Rattle.std.proofs.Common.{◌≡◌, ◌≤◌, List, count_by, length, take}
use Rattle.bw_lanes.specs.Lanes.{lanes_of_words}
use Rattle.bw_model.specs.Row.{Value}
use Rattle.bw_model.specs.Selection.{selected_items}
use Rattle.bw_rowwise.specs.Accumulator.{tally_of}
use Rattle.bw_rowwise.specs.Columns.{HaveRows}
use Rattle.bw_aggregate.specs.Selected.{IsWithin}
use Rattle.bw_aggregate.proofs.gathered.total_of_values.Given as goal

-- the total of the selected rows so far
abbrev pub invariant-loop-row : goal.invariant-loop-row
invariant-loop-row l = record {
  item : l.total.item ≡ l.fn.item;
  few : l.total.count ≤ l.row;
  count : l.total.count ≡ count_by (λ lane. lane) (take l.row (lanes_of_words l.selection));
  sums : (rows : List (List Value)) → HaveRows rows l.columns → IsWithin (length rows) (lanes_of_words l.selection)
      → l.total ≡ tally_of l.fn.item (selected_items (take l.row (lanes_of_words l.selection)) rows);
}
