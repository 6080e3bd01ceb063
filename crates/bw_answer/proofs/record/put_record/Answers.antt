-- One more field in front of those that are written.
use Rattle.std.proofs.Common.{◌∙◌, drop, arith}
use Rattle.bw_answer.specs.Answer.{value_text}
use Rattle.bw_answer.specs.LaneFields.{value_in_lane}
use Rattle.bw_answer.proofs.RecordLemmas.{record_grows}
use Rattle.bw_answer.proofs.record.put_record.Goals as goal

pub loop-left-preserved : goal.loop-left-preserved
loop-left-preserved c =
    let so_far = c.loop-left.invariant in
    let comma = c.put_byte-start-in-loop-left.ensures in
    let field = c.put_value-start-in-loop-left.ensures in
    let field_size = c.put_value-start-in-loop-left.auto.text in
    let comma_size = c.put_byte-start-in-loop-left.auto.text in
    record {
      within = omega (arith, so_far.within);
      room = (omega (arith, so_far.room.0, comma.capacity, field.capacity.0), omega (arith, so_far.room.1, comma.capacity, field.capacity.1, c.loop-left-test.true));
      size = field_size ∙ comma_size ∙ so_far.size;
      written = record_grows (λ column. value_text (value_in_lane c.args.lanes.now c.args.number column)) c.args.columns.now c.loop-left.left _ _ _ (drop c.args.end c.args.text.now)
          c.loop-left-test.true so_far.within so_far.written comma.written (rw c.value_in_lane-in-loop-left.ensures at field.written);
    }
