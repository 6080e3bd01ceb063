-- The rows that are selected are those whose values are fetched.
use Rattle.std.proofs.Common.{◌∙◌, ◌++◌, ℕ, List, ap, subst, sym, map}
use Rattle.std.proofs.lemmas.Result.{on_ok_weaker}
use Rattle.bw_lanes.specs.Lanes.{lanes_of_words}
use Rattle.bw_model.specs.Row.{Value}
use Rattle.bw_answer.specs.Answer.{csv_text}
use Rattle.bw_answer.specs.Columns.{fields_of}
use Rattle.bw_answer.specs.Places.{AreAt}
use Rattle.bw_answer.proofs.ColumnLemmas.{records_same}
use Rattle.bw_answer.proofs.SelectedLemmas.{none_selected}
use Rattle.bw_answer.proofs.Rows.{no_records}
use Rattle.bw_answer.proofs.listing.Listing.push_selected.Goals as goal

pub returns-then-is_zero-clause-records : goal.returns-then-is_zero-clause-records
returns-then-is_zero-clause-records g c = λ listed at.
    let rows = (g.S.Segment.meaning c.args.segment.now).rows in
    sym (no_records c.args.text.now.items) ∙ ap (λ (those : List (List Value)). c.args.text.now.items ++ csv_text (map (fields_of listed) those))
    (sym (none_selected (lanes_of_words c.args.selection.now) rows (sym c.is_zero.ensures ∙ c.if-is_zero.true)))

pub returns-clause-records : goal.returns-clause-records
returns-clause-records g c =
    let self = c.args.self.now in
    let rows = (g.S.Segment.meaning c.args.segment.now).rows in
    let bits = lanes_of_words c.args.selection.now in
    let after = c.unpack_selected.new.self in
    let places = self.fields.items in
    on_ok_weaker c.push.result (λ added listed at. added ∙ ap (λ (records : List (List (List ℕ))). c.args.text.now.items ++ csv_text records)
    (records_same listed places after bits rows (subst (λ (numbers : List ℕ). AreAt numbers listed places) (sym c.unpack_selected.ensures.same) at) c.unpack_selected.ensures.rows c.requires.selection)) c.push.ensures.records
