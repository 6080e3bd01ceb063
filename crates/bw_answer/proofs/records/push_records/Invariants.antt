use Rattle.std.proofs.Common.{◌≡◌, ◌-◌, ◌≤◌, ◌++◌, length, map}
use Rattle.bw_lanes.specs.Lanes.{lanes_of_words}
use Rattle.bw_answer.specs.Answer.{csv_text}
use Rattle.bw_answer.specs.LaneFields.{fields_in_lane, positions_between}
use Rattle.bw_answer.proofs.records.push_records.Given as goal

-- the records of the rows so far are added
abbrev pub invariant-loop-first : goal.invariant-loop-first
invariant-loop-first l = record {
  rows : l.first ≤ 512;
  size : length l.draft ≡ length l.fn.draft;
  added : l.text.items ≡ l.fn.text.items ++ csv_text (map (fields_in_lane l.lanes l.columns) (positions_between 0 l.first (lanes_of_words l.selection)));
}

abbrev pub decreases-loop-first : goal.decreases-loop-first
decreases-loop-first l = 512 - l.first
