-- The records of more rows after the others.
use Rattle.std.proofs.Common.{◌∙◌, ◌≤◌, ◌++◌, refl, ap, sym, map, arith, append-nil, length, drop}
use Rattle.std.proofs.Common.{◌-◌}
use Rattle.std.proofs.lemmas.List.{take_all, length-drop}
use Rattle.bw_lanes.specs.Lanes.{lanes_of_words}
use Rattle.bw_answer.specs.Answer.{csv_text}
use Rattle.bw_answer.specs.LaneFields.{fields_in_lane}
use Rattle.bw_answer.proofs.PositionLemmas.{all_positions, records_more}
use Rattle.bw_answer.proofs.records.push_records.Goals as goal

pub loop-first-init : goal.loop-first-init
unfolding csv_text
loop-first-init c = record {
  rows = omega arith;
  size = refl;
  added = sym (append-nil c.args.text.now.items);
}

pub loop-first-preserved : goal.loop-first-preserved
loop-first-preserved c =
    let so_far = c.loop-first.invariant in
    let draft = c.put_records-start.new.draft in
    let start = c.put_records-start.result in
    let rest : length (drop start draft) ≤ length draft - start = omega (arith, length-drop start draft) in
    record {
      rows = omega (arith, c.min-past.ensures);
      size = c.put_records-start.auto.draft ∙ so_far.size;
      added = records_more (fields_in_lane c.args.lanes.now c.args.columns.now) c.loop-first.first c.min-past.result (lanes_of_words c.args.selection.now) c.args.text.now.items _ _ _
          (omega (arith, c.min-past.ensures, c.loop-first-test.true)) so_far.added (take_all _ _ rest ∙ c.put_records-start.ensures.written) c.in_ok-extend_from_slice.ensures.items;
    }

pub returns-clause-records : goal.returns-clause-records
returns-clause-records c =
    c.loop-first.invariant.added ∙ ap (λ l. c.args.text.now.items ++ csv_text (map (fields_in_lane c.args.lanes.now c.args.columns.now) l))
    (all_positions c.args.selection.now c.loop-first.first c.told-selection (omega (arith, c.loop-first-test.false)))
