-- What is selected is kept: more records in the text, or more rows in the totals.
use Rattle.std.proofs.Common.{◌≡◌, ◌∙◌, ◌-◌, ◌≤◌, ◌++◌, sym, List, ℕ, map, ap, length, arith}
use Rattle.std.proofs.lemmas.List.{with_items_is}
use Rattle.std.proofs.lemmas.List.Elements.{filter-append}
use Rattle.std.specs.List.{filter_map}
use Rattle.bw_lanes.specs.Lanes.{lanes_of_words}
use Rattle.bw_model.specs.Cond.{is_match}
use Rattle.bw_model.specs.Groups.{group_size}
use Rattle.bw_model.specs.Row.{Value}
use Rattle.bw_model.specs.Selection.{matching_rows, selected_items}
use Rattle.bw_rowwise.specs.Accumulator.{Tally, tally_of}
use Rattle.bw_aggregate.specs.Selected.{with_selected}
use Rattle.bw_answer.specs.Aggregates.{aggregates_of}
use Rattle.bw_answer.specs.Answer.{csv_text, field_of}
use Rattle.bw_answer.specs.TextAndTotals.{text_over}
use Rattle.bw_answer.specs.Columns.{columns_of, fields_of}
use Rattle.bw_answer.proofs.AnswerLemmas.{text_over_more, text_over_same}
use Rattle.bw_answer.proofs.ColumnLemmas.{map_listed, some_column}
use Rattle.bw_answer.proofs.SelectedLemmas.{all_totals, few_kept, is_of-selected}
use Rattle.bw_answer.proofs.SelectedLemmas.{selected_as_kept, taken}
use Rattle.bw_answer.proofs.output.Output.put_selected.Goals as goal

pub push_selected-requires-clause-nonempty : goal.push_selected-requires-clause-nonempty
push_selected-requires-clause-nonempty g c =
    let of_items = rw c.in-Listing.is at c.requires.of_items in
    let some = some_column c.args.query.now.items.items of_items.0 in
    omega (arith, some, of_items.1.many, c.in-Listing.listing.fields.ok.0)

pub returns-in-Listing-clause-covers : goal.returns-in-Listing-clause-covers
returns-in-Listing-clause-covers g c = rw c.in-Listing.is (taken c.push_selected.result (λ told names rows over.
    let query = c.args.query.now in
    let more = (g.S.Segment.meaning c.args.segment.now).rows in
    let of_items = rw c.in-Listing.is at c.requires.of_items in
    let kept_all : selected_items (lanes_of_words c.args.selection.now) more ≡ matching_rows query.cond more =
    ap (λ lanes. selected_items lanes more) c.requires.picks ∙ selected_as_kept query.cond more (group_size - length more) in
    let items = query.items.items in
    let listed = columns_of items in
    let fields : map (fields_of listed) (matching_rows query.cond more) ≡ map (λ row. filter_map (field_of row) items) (matching_rows query.cond more) = map_listed items (matching_rows query.cond more) in
    let records = ap (map (fields_of listed)) kept_all ∙ fields in
    record {
      written = told listed of_items.1 ∙ ap (λ (l : List ℕ). l ++ csv_text (map (fields_of listed) (selected_items (lanes_of_words c.args.selection.now) more))) over.written
          ∙ ap (λ (those : List (List (List ℕ))). text_over names query rows ++ csv_text those) records ∙ text_over_more names query rows more of_items.0;
      totalled = λ totals. absurd (cc (of_items.0, totals));
    }) c.push_selected.ensures.records)

pub returns-in-Totals-clause-covers : goal.returns-in-Totals-clause-covers
returns-in-Totals-clause-covers g c = rw c.in-Totals.is (λ names rows over.
    let query = c.args.query.now in
    let more = (g.S.Segment.meaning c.args.segment.now).rows in
    let lists = (rw c.in-Totals.is at c.requires.of_items).0 in
    let items = aggregates_of query.items.items in
    let those = selected_items (lanes_of_words c.args.selection.now) more in
    let kept_all : those ≡ matching_rows query.cond more =
    ap (λ lanes. selected_items lanes more) c.requires.picks ∙ selected_as_kept query.cond more (group_size - length more) in
    let kept_more : matching_rows query.cond rows ++ those ≡ matching_rows query.cond (rows ++ more) =
    ap (λ (l : List (List Value)). matching_rows query.cond rows ++ l) kept_all ∙ sym (filter-append (is_match query.cond) rows more) in
    let after = c.total_selected.new.totals in
    let size : length after ≡ c.in-Totals.totals.len = c.total_selected.auto.totals ∙ c.deref_mut.ensures.len in
    record {
      written = over.written ∙ text_over_same names query rows (rows ++ more) lists;
      totalled = λ _. with_items_is c.in-Totals.totals after size ∙ c.total_selected.ensures ∙ ap (map (λ (tally : Tally). with_selected tally those)) (c.deref_mut.ensures.value ∙ over.totalled lists)
          ∙ all_totals items (matching_rows query.cond rows) those c.totals_join.ensures
          ∙ ap (λ (all : List (List Value)). map (λ item. tally_of item all) items) kept_more;
    })

pub returns-in-Totals-clause-counts : goal.returns-in-Totals-clause-counts
returns-in-Totals-clause-counts g c = rw c.in-Totals.is (λ width rows e.
    let query = c.args.query.now in
    let more = (g.S.Segment.meaning c.args.segment.now).rows in
    let those = selected_items (lanes_of_words c.args.selection.now) more in
    let kept_all : those ≡ matching_rows query.cond more =
    ap (λ lanes. selected_items lanes more) c.requires.picks ∙ selected_as_kept query.cond more (group_size - length more) in
    let few : length those ≤ length more = omega (arith, ap length kept_all, few_kept query.cond more) in
    let after = c.total_selected.new.totals in
    let size : length after ≡ c.in-Totals.totals.len = c.total_selected.auto.totals ∙ c.deref_mut.ensures.len in
    rw (with_items_is c.in-Totals.totals after size, c.total_selected.ensures, c.deref_mut.ensures.value) (is_of-selected width rows (length more) those c.in-Totals.totals.items few e))
