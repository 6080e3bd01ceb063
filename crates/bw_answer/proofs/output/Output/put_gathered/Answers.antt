-- What is selected is kept: more records in the text, or more rows in the totals.
use Rattle.std.proofs.Common.{◌≡◌, ◌∙◌, ◌+◌, ◌-◌, ◌++◌, sym, List, ℕ, map, ap, count_by, length, arith}
use Rattle.std.proofs.Common.{subst, true}
use Rattle.std.proofs.lemmas.List.{with_items_is}
use Rattle.std.proofs.lemmas.List.Elements.{filter-append}
use Rattle.std.specs.List.{filter_map, list_all}
use Rattle.bw_lanes.specs.Lanes.{lanes_of_words}
use Rattle.bw_model.specs.Cond.{is_match}
use Rattle.bw_model.specs.Groups.{group_size}
use Rattle.bw_model.specs.Row.{Value}
use Rattle.bw_model.specs.Selection.{matching_rows, selected_items}
use Rattle.bw_rowwise.specs.Accumulator.{Tally, tally_of}
use Rattle.bw_aggregate.specs.Selected.{with_selected}
use Rattle.bw_answer.specs.Aggregates.{aggregates_of}
use Rattle.bw_answer.specs.Answer.{csv_text, field_of}
use Rattle.bw_answer.specs.TextAndTotals.{text_over}
use Rattle.bw_answer.specs.Totals.{is_of}
use Rattle.bw_answer.specs.Columns.{columns_of, fields_of}
use Rattle.bw_answer.proofs.AnswerLemmas.{text_over_more, text_over_same}
use Rattle.bw_answer.proofs.ColumnLemmas.{map_listed, some_column}
use Rattle.bw_answer.proofs.GatheredLemmas.{few_within, picks_within}
use Rattle.bw_answer.proofs.SelectedLemmas.{all_totals, is_of-later}
use Rattle.bw_answer.proofs.SelectedLemmas.{selected_as_kept, taken}
use Rattle.bw_answer.proofs.output.Output.put_gathered.Goals as goal

pub push_gathered-requires : goal.push_gathered-requires
push_gathered-requires c =
    let of_items = rw c.in-Listing.is at c.requires.of_items in
    let some = some_column c.args.query.now.items.items of_items.0 in
    omega (arith, some, of_items.1.many, c.in-Listing.listing.fields.ok.0)

pub total_gathered-requires-clause-capacity : goal.total_gathered-requires-clause-capacity
total_gathered-requires-clause-capacity c = λ k d within.
    let few = rw c.in-Totals.is at c.requires.capacity in
    omega (arith, (rw (sym c.deref_mut.ensures.value) at few) k d within, few_within c.args.count (lanes_of_words c.args.selection.now) c.requires.within)

pub returns-in-Listing-clause-covers : goal.returns-in-Listing-clause-covers
returns-in-Listing-clause-covers c = rw c.in-Listing.is (taken c.push_gathered.result (λ told names rows more held over.
    let query = c.args.query.now in
    let bits = lanes_of_words c.args.selection.now in
    let of_items = rw c.in-Listing.is at c.requires.of_items in
    let kept_all : selected_items bits more ≡ matching_rows query.cond more =
    ap (λ lanes. selected_items lanes more) held.picks ∙ selected_as_kept query.cond more (group_size - length more) in
    let items = query.items.items in
    let listed = columns_of items in
    let fields : map (fields_of listed) (matching_rows query.cond more) ≡ map (λ row. filter_map (field_of row) items) (matching_rows query.cond more) = map_listed items (matching_rows query.cond more) in
    let records = ap (map (fields_of listed)) kept_all ∙ fields in
    record {
      written = told listed more of_items.1 held.few held.listed (picks_within query.cond more bits held.picks)
          ∙ ap (λ (l : List ℕ). l ++ csv_text (map (fields_of listed) (selected_items bits more))) over.written
          ∙ ap (λ (those : List (List (List ℕ))). text_over names query rows ++ csv_text those) records ∙ text_over_more names query rows more of_items.0;
      totalled = λ totals. absurd (cc (of_items.0, totals));
    }) c.push_gathered.ensures.records)

pub returns-in-Totals-clause-covers : goal.returns-in-Totals-clause-covers
returns-in-Totals-clause-covers c = rw c.in-Totals.is (λ names rows more held over.
    let query = c.args.query.now in
    let bits = lanes_of_words c.args.selection.now in
    let lists = (rw c.in-Totals.is at c.requires.of_items).0 in
    let items = aggregates_of query.items.items in
    let those = selected_items bits more in
    let kept_all : those ≡ matching_rows query.cond more =
    ap (λ lanes. selected_items lanes more) held.picks ∙ selected_as_kept query.cond more (group_size - length more) in
    let kept_more : matching_rows query.cond rows ++ those ≡ matching_rows query.cond (rows ++ more) =
    ap (λ (l : List (List Value)). matching_rows query.cond rows ++ l) kept_all ∙ sym (filter-append (is_match query.cond) rows more) in
    let after = c.total_gathered.new.totals in
    let size : length after ≡ c.in-Totals.totals.len = c.total_gathered.auto.totals ∙ c.deref_mut.ensures.len in
    record {
      written = over.written ∙ text_over_same names query rows (rows ++ more) lists;
      totalled = λ _. with_items_is c.in-Totals.totals after size ∙ c.total_gathered.ensures.totals more held.summed (picks_within query.cond more bits held.picks)
          ∙ ap (map (λ (tally : Tally). with_selected tally those)) (c.deref_mut.ensures.value ∙ over.totalled lists)
          ∙ all_totals items (matching_rows query.cond rows) those c.totals_join.ensures
          ∙ ap (λ (all : List (List Value)). map (λ item. tally_of item all) items) kept_more;
    })

pub returns-in-Totals-clause-counts : goal.returns-in-Totals-clause-counts
returns-in-Totals-clause-counts c = rw c.in-Totals.is (λ width rows e.
    let bits = lanes_of_words c.args.selection.now in
    let number = count_by (λ lane. lane) bits in
    let after = c.total_gathered.new.totals in
    let size : length after ≡ c.in-Totals.totals.len = c.total_gathered.auto.totals ∙ c.deref_mut.ensures.len in
    let all : rows + number + (c.args.count - number) ≡ rows + c.args.count = omega (arith, few_within c.args.count bits c.requires.within) in
    rw (with_items_is c.in-Totals.totals after size) (subst (λ n. list_all (is_of width n) after ≡ true) all
    (is_of-later width (rows + number) (c.args.count - number) after (c.total_gathered.ensures.counts width rows (rw (sym c.deref_mut.ensures.value) at e)))))

pub returns-in-Totals-clause-items : goal.returns-in-Totals-clause-items
returns-in-Totals-clause-items c =
    let after = c.total_gathered.new.totals in
    let size : length after ≡ c.in-Totals.totals.len = c.total_gathered.auto.totals ∙ c.deref_mut.ensures.len in
    rw c.in-Totals.is (ap (map (λ (tally : Tally). tally.item)) (with_items_is c.in-Totals.totals after size) ∙ rw c.deref_mut.ensures.value at c.total_gathered.ensures.items)
