-- A record of more fields than its table has columns is rejected for their number.
use Rattle.std.proofs.Common.{◌≡◌, ℕ, ◌<◌, List, [], ◌∷◌, length, Err, false, refl, arith}
use Rattle.std.proofs.lemmas.Bool.{and_right, ne_eqb}
use Rattle.bw_model.specs.declared.column.Column.{Column}
use Rattle.bw_csv.specs.declared.rule.FieldRule.{FieldRule}
use Rattle.bw_model.specs.Fault.{at_record}
use Rattle.bw_text.specs.Text.{same_text}
use Rattle.bw_csv.specs.Fields.{IsLonger}
use Rattle.bw_csv.specs.Rows.{is_heading, row_of_record, rows_after, rows_from, without_blanks}
use Rattle.bw_csv.proofs.RowLemmas.{rows_after-other, rows_from-fault}

longer-heading : (columns : List Column) (fields : List (List ℕ)) → length columns < length fields → is_heading columns fields ≡ false
unfolding is_heading
longer-heading [] [] h = absurd (omega arith)
longer-heading [] (field ∷ fields) h = refl
longer-heading (column ∷ columns) [] h = refl
longer-heading (column ∷ columns) (field ∷ fields) h =
    and_right (same_text column.name (without_blanks field)) _ (longer-heading columns fields (omega arith))

pub rows_after_longer : (columns : List Column) (records : List (List (List ℕ))) → IsLonger (length columns) records → rows_after columns records ≡ Err (at_record 202 0)
rows_after_longer columns records longer =
    rw longer.2 (rows_after-other columns longer.0 longer.1 (longer-heading columns longer.0 longer.3))

pub rows_from_longer : (rules : List FieldRule) (number : ℕ) (records : List (List (List ℕ))) → IsLonger (length rules) records
    → rows_from rules number records ≡ Err (at_record 203 number)
unfolding row_of_record
rows_from_longer rules number records longer = rows_from-fault rules number longer.0 records longer.1 (at_record 203 number) longer.2
    (rw (ne_eqb (length longer.0) (length rules) (λ same. omega (arith, longer.3))) refl)
