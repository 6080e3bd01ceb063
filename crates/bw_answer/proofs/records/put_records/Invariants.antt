use Rattle.std.proofs.Common.{◌≡◌, ◌-◌, ◌*◌, ◌≤◌, drop, length, map}
use Rattle.bw_lanes.specs.Lanes.{lanes_of_words}
use Rattle.bw_answer.specs.Answer.{csv_text}
use Rattle.bw_answer.specs.LaneFields.{fields_in_lane, positions_between}
use Rattle.bw_answer.proofs.records.put_records.Given as goal

-- the records of the rows from one on are written
abbrev pub invariant-loop-last : goal.invariant-loop-last
invariant-loop-last l = record {
  rows : (l.first ≤ l.number) × (l.number ≤ l.past);
  room : (21 * length l.columns * (l.number - l.first) ≤ l.start) × (l.start ≤ length l.draft);
  written : drop l.start l.draft ≡ csv_text (map (fields_in_lane l.lanes l.columns) (positions_between l.number l.past (lanes_of_words l.selection)));
}

abbrev pub decreases-loop-last : goal.decreases-loop-last
decreases-loop-last l = l.number
