use Rattle.std.proofs.Common.{◌≡◌, ◌+◌, ◌*◌, ◌<◌, ◌≤◌, ◌++◌, drop, length, map}
use Rattle.bw_answer.specs.Answer.{record_text, value_text}
use Rattle.bw_answer.specs.LaneFields.{value_in_lane}
use Rattle.bw_answer.proofs.record.put_record.Given as goal

-- the fields from one on are written
abbrev pub invariant-loop-left : goal.invariant-loop-left
invariant-loop-left l = record {
  within : l.left < length l.columns;
  room : (l.start ≤ l.end) × (l.end + 21 * l.left ≤ l.start + 21 * length l.columns);
  size : length l.text ≡ length l.fn.text;
  written : drop l.start l.text ≡ record_text (map (λ column. value_text (value_in_lane l.lanes l.number column)) (drop l.left l.columns)) ++ drop l.end l.fn.text;
}

abbrev pub decreases-loop-left : goal.decreases-loop-left
decreases-loop-left l = l.left
