-- The text and the totals of a result over the rows that were consumed.
use Rattle.std.specs.Prelude.{◌≡◌, ℕ, false, List, [], ◌++◌, map, if◌then◌else◌}
use Rattle.bw_model.specs.declared.query.Query.{Query}
use Rattle.bw_model.specs.Row.{Value}
use Rattle.bw_model.specs.Selection.{matching_rows}
use Rattle.bw_rowwise.specs.Accumulator.{Tally, tally_of}
use Rattle.bw_answer.specs.Aggregates.{aggregates_of}
use Rattle.bw_answer.specs.Answer.{csv_text, heading_of, row_records, lists_rows}
use Rattle.bw_answer.specs.Answer.{record_text}

-- the heading record of a query over columns of these names, followed by the records of the
-- matching rows if the query lists them
abbrev pub text_over : List (List ℕ) → Query → List (List Value) → List ℕ
text_over names query rows =
    record_text (map (heading_of names) query.items.items) ++
    (if lists_rows query.items.items then csv_text (row_records query rows) else [])

-- the text and the totals are those of a query over these rows, of a table of columns of these
-- names
pub record AreOver (names : List (List ℕ)) (query : Query) (rows : List (List Value))
    (text : List ℕ)
    (totals : List Tally) : Type 0 where
  pub written : text ≡ text_over names query rows
  pub totalled : lists_rows query.items.items ≡ false
      → totals ≡ map (λ item. tally_of item (matching_rows query.cond rows))
      (aggregates_of query.items.items)
