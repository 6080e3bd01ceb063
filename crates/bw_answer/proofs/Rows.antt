-- The records of the rows that are kept.
use Rattle.std.proofs.Common.{◌≡◌, ◌∙◌, ℕ, List, [], ◌∷◌, ◌++◌, refl, sym, ap, map}
use Rattle.std.proofs.Common.{append_assoc}
use Rattle.std.specs.List.{filter_map}
use Rattle.std.proofs.lemmas.List.{append-nil, map-append}
use Rattle.std.proofs.lemmas.List.Elements.{filter-append}
use Rattle.std.proofs.lemmas.Grind.{flat_map-append}
use Rattle.bw_model.specs.declared.query.Query.{Query}
use Rattle.bw_model.specs.Cond.{is_match}
use Rattle.bw_model.specs.Row.{Value}
use Rattle.bw_model.specs.Selection.{matching_rows}
use Rattle.bw_answer.specs.Answer.{csv_text, field_of, row_records, record_text}

-- the text of one row: its record if it matches, and else nothing
pub one_record : (record_ : List (List ℕ)) → csv_text (record_ ∷ []) ≡ record_text record_
unfolding csv_text
one_record record_ = append-nil (record_text record_)

no_record : csv_text [] ≡ []
unfolding csv_text
no_record = refl

-- more rows
kept_more : (query : Query) (before rows : List (List Value)) → row_records query (before ++ rows) ≡ row_records query before ++ row_records query rows
kept_more query before rows =
    ap (map (λ (r : List Value). filter_map (field_of r) query.items.items)) (filter-append (is_match query.cond) before rows)
    ∙ map-append (λ (r : List Value). filter_map (field_of r) query.items.items) (matching_rows query.cond before) (matching_rows query.cond rows)

text_more : (records more : List (List (List ℕ))) → csv_text (records ++ more) ≡ csv_text records ++ csv_text more
unfolding csv_text
text_more records more = flat_map-append record_text records more

pub listed_more : (query : Query) (before rows : List (List Value)) (ended : List ℕ)
    → (ended ++ csv_text (row_records query before)) ++ csv_text (row_records query rows) ≡ ended ++ csv_text (row_records query (before ++ rows))
listed_more query before rows ended =
    append_assoc ended (csv_text (row_records query before)) (csv_text (row_records query rows))
    ∙ ap (λ (l : List ℕ). ended ++ l) (sym (ap csv_text (kept_more query before rows) ∙ text_more (row_records query before) (row_records query rows)))

-- the records of no rows
pub no_records : (ended : List ℕ) → ended ++ csv_text [] ≡ ended
unfolding csv_text
no_records ended = append-nil ended
