-- The text of an answer.
use Rattle.std.proofs.Common.{◌≡◌, ◌∙◌, ℕ, Bool, true, false, List, [], ◌∷◌, ◌++◌, refl, sym, ap}
use Rattle.std.proofs.Common.{map, filter}
use Rattle.std.proofs.lemmas.List.{append-nil}
use Rattle.std.specs.List.{list_all}
use Rattle.bw_model.specs.declared.query.Item.{Item}
use Rattle.bw_model.specs.declared.query.Item.TheVariants.{Plain}
use Rattle.bw_model.specs.declared.query.Query.{Query}
use Rattle.bw_model.specs.Row.{Value}
use Rattle.bw_model.specs.Total.{is_aggregate}
use Rattle.bw_rowwise.specs.Accumulator.{Tally, tally_of}
use Rattle.bw_sql.specs.Items.{AreOfOneKind}
use Rattle.bw_model.specs.Selection.{matching_rows}
use Rattle.bw_answer.specs.Answer.{csv_text, heading_of, row_records, lists_rows, meaning}
use Rattle.bw_answer.specs.Answer.{record_text, value_text, totals_record}
use Rattle.bw_answer.specs.Aggregates.{aggregates_of, answer_for, each_once}
use Rattle.bw_answer.specs.TextAndTotals.{text_over}
use Rattle.bw_answer.proofs.AggregateLemmas.{answers_for}
use Rattle.bw_answer.proofs.Rows.{listed_more, one_record}
use Rattle.bw_model.proofs.BitsLemmas.{both}

-- the heading's record and then those of the rows
pub meaning_with_rows : (names : List (List ℕ)) (query : Query) (rows : List (List Value)) → lists_rows query.items.items ≡ true
    → csv_text (meaning names query rows) ≡ text_over names query rows
unfolding csv_text meaning
meaning_with_rows names query rows e = rw e refl

-- the heading's record and then that of the totals
totals_after : (names : List (List ℕ)) (query : Query) (rows : List (List Value)) → lists_rows query.items.items ≡ false
    → csv_text (meaning names query rows) ≡ record_text (map (heading_of names) query.items.items) ++ csv_text (totals_record query rows ∷ [])
unfolding csv_text meaning
totals_after names query rows e = rw e refl

pub meaning_with_totals : (names : List (List ℕ)) (query : Query) (rows : List (List Value)) → lists_rows query.items.items ≡ false
    → csv_text (meaning names query rows) ≡ text_over names query rows ++ record_text (totals_record query rows)
meaning_with_totals names query rows e =
    totals_after names query rows e
    ∙ ap (λ (l : List ℕ). record_text (map (heading_of names) query.items.items) ++ l) (one_record (totals_record query rows))
    ∙ ap (λ (l : List ℕ). l ++ record_text (totals_record query rows)) (sym (heading_alone names query rows e))
  where
    heading_alone : (names : List (List ℕ)) (query : Query) (rows : List (List Value)) → lists_rows query.items.items ≡ false
        → text_over names query rows ≡ record_text (map (heading_of names) query.items.items)
    heading_alone names query rows e = rw e (append-nil (record_text (map (heading_of names) query.items.items)))

-- more rows that are listed
pub text_over_more : (names : List (List ℕ)) (query : Query) (before rows : List (List Value)) → lists_rows query.items.items ≡ true
    → text_over names query before ++ csv_text (row_records query rows) ≡ text_over names query (before ++ rows)
text_over_more names query before rows e =
    rw e (listed_more query before rows (record_text (map (heading_of names) query.items.items)))

-- rows that are totalled add nothing to the text
pub text_over_same : (names : List (List ℕ)) (query : Query) (before rows : List (List Value)) → lists_rows query.items.items ≡ false
    → text_over names query before ≡ text_over names query rows
text_over_same names query before rows e = rw e refl

-- items that don't list rows are aggregates
pub aggregates : (items : List Item) → AreOfOneKind items → lists_rows items ≡ false → list_all is_aggregate items ≡ true
aggregates items (false, kind) e = kind
aggregates [] (true, kind) e = refl
aggregates (Plain column ∷ items) (true, kind) e = absurd (cc e)
aggregates _ (true, kind) e = absurd (cc kind)

-- the totals of aggregates
all_aggregates : (items : List Item) → list_all is_aggregate items ≡ true → filter is_aggregate items ≡ items
all_aggregates [] e = refl
all_aggregates (item ∷ items) e = let parts = both (is_aggregate item) (list_all is_aggregate items) e in rw (parts.0, all_aggregates items parts.1) refl

-- the record of totals over the rows that are kept
pub totals_fields : (query : Query) (tallies : List Tally) (rows : List (List Value)) → list_all is_aggregate query.items.items ≡ true
    → tallies ≡ map (λ item. tally_of item (matching_rows query.cond rows)) (aggregates_of query.items.items)
    → map (λ item. value_text (answer_for tallies item)) query.items.items ≡ totals_record query rows
totals_fields query tallies rows all is =
    let items = query.items.items in
    let those : tallies ≡ map (λ item. tally_of item (matching_rows query.cond rows)) (each_once items) =
    is ∙ ap (λ (items : List Item). map (λ item. tally_of item (matching_rows query.cond rows)) (each_once items)) (all_aggregates items all) in
    ap (λ (tallies : List Tally). map (λ item. value_text (answer_for tallies item)) items) those ∙ answers_for (matching_rows query.cond rows) items

-- over no rows there is the heading alone
nothing_listed : (query : Query) → csv_text (row_records query []) ≡ []
unfolding csv_text
nothing_listed query = refl

heading_first_by : (names : List (List ℕ)) (query : Query) (b : Bool) → lists_rows query.items.items ≡ b
    → record_text (map (heading_of names) query.items.items) ≡ text_over names query []
heading_first_by names query true e = rw (e, nothing_listed query) (sym (append-nil (record_text (map (heading_of names) query.items.items))))
heading_first_by names query false e = rw e (sym (append-nil (record_text (map (heading_of names) query.items.items))))

pub heading_first : (names : List (List ℕ)) (query : Query) → record_text (map (heading_of names) query.items.items) ≡ text_over names query []
heading_first names query = heading_first_by names query (lists_rows query.items.items) refl
