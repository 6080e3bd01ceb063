use Rattle.std.proofs.Common.{◌≡◌, ◌<◌, ◌≤◌, ℕ, true, false, get_or, length}
use Rattle.bw_lanes.specs.Lanes.{lanes_of_words}
use Rattle.bw_model.specs.Row.{value_in}
use Rattle.bw_rowwise.specs.Columns.{row_at, value_at}
use Rattle.bw_rowwise.proofs.columns.put_selected.Given as goal

-- the values of the selected rows from one on are there
abbrev pub invariant-loop-last : goal.invariant-loop-last
invariant-loop-last g l = record {
  within : l.row ≤ length (g.S.Segment.meaning l.segment).rows;
  put : (lane : ℕ) → l.row ≤ lane → lane < length (g.S.Segment.meaning l.segment).rows → get_or (lanes_of_words l.selection) lane false ≡ true
      → value_at l.lanes lane ≡ value_in (row_at (g.S.Segment.meaning l.segment).rows lane) l.number;
}

abbrev pub decreases-loop-last : goal.decreases-loop-last
decreases-loop-last g l = l.row
