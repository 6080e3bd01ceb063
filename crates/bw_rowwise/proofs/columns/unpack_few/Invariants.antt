use Rattle.std.proofs.Common.{◌≡◌, ◌<◌, ℕ, get_or, length, map}
use Rattle.bw_lanes.specs.Lanes.{lanes_of_words}
use Rattle.bw_rowwise.specs.Columns.{HasSelected}
use Rattle.bw_rowwise.specs.declared.columns.LaneColumn.{LaneColumn}
use Rattle.bw_rowwise.proofs.columns.unpack_few.Given as goal

-- the columns so far are unpacked
abbrev pub invariant-loop-column : goal.invariant-loop-column
invariant-loop-column g l = record {
  same : map (λ (column : LaneColumn). column.number) l.columns ≡ map (λ (column : LaneColumn). column.number) l.fn.columns;
  many : length l.columns ≡ length l.fn.columns;
  done : (k : ℕ) (d : LaneColumn) → k < l.column-index → HasSelected (g.S.Segment.meaning l.segment).rows (lanes_of_words l.selection) (get_or l.columns k d).number (get_or l.columns k d).lanes;
}
