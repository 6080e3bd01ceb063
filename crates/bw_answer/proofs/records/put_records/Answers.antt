-- The record of the last row that is selected of those that are left, in front of the others.
use Rattle.std.proofs.Common.{◌∙◌, ◌-◌, ◌*◌, refl, ap, sym, length, map, arith}
use Rattle.std.proofs.lemmas.List.{drop_all}
use Rattle.bw_lanes.specs.Lanes.{lanes_of_words}
use Rattle.bw_answer.specs.Answer.{csv_text}
use Rattle.bw_answer.specs.LaneFields.{fields_in_lane}
use Rattle.bw_answer.proofs.PositionLemmas.{positions_none, positions_passed, record_last}
use Rattle.bw_answer.proofs.PositionLemmas.{room_left}
use Rattle.bw_answer.proofs.records.put_records.Goals as goal

pub loop-last-init : goal.loop-last-init
unfolding csv_text
loop-last-init c =
    let fields = fields_in_lane c.args.lanes.now c.args.columns.now in
    record {
      rows = (c.requires.rows.0, omega arith);
      room = (c.requires.capacity, omega arith);
      written = drop_all (length c.args.draft.now) c.args.draft.now (omega arith) ∙ sym (ap (λ l. csv_text (map fields l)) (positions_none c.args.past (lanes_of_words c.args.selection.now)));
    }

pub loop-last-preserved : goal.loop-last-preserved
loop-last-preserved c =
    let so_far = c.loop-last.invariant in
    let last = c.in-Some.ensures.last in
    let put = c.put_record-start.ensures in
    let number = c.loop-last.number in
    let lane = c.in-Some.last in
    record {
      rows = (last.from, omega (arith, last.to, so_far.rows.1));
      room = (
        room_left (21 * length c.args.columns.now) (lane - c.args.first) (number - c.args.first) c.loop-last.start c.put_record-start.result (omega (arith, last.from, last.to)) so_far.room.0 put.capacity.1,
        omega (arith, put.capacity.0, so_far.room.1, c.put_record-start.auto.text),
      );
      written = record_last (fields_in_lane c.args.lanes.now c.args.columns.now) c.args.first number c.args.past lane (lanes_of_words c.args.selection.now) _ _ so_far.rows.1 last so_far.written put.written;
    }

pub returns-clause-written : goal.returns-clause-written
returns-clause-written c =
    let so_far = c.loop-last.invariant in
    let fields = fields_in_lane c.args.lanes.now c.args.columns.now in
    let lanes = lanes_of_words c.args.selection.now in
    so_far.written ∙ sym (ap (λ l. csv_text (map fields l)) (positions_passed c.args.first c.loop-last.number c.args.past lanes so_far.rows.0 so_far.rows.1 (c.in_default.ensures.none refl)))
