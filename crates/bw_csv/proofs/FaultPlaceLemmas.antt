-- The errors of CSV texts stand as the table of errors lists them.
use Rattle.std.proofs.Common.{◌≡◌, ℕ, ℤ, ◌+◌, List, [], ◌∷◌, not, ◌&&◌, ◌==◌, Option, Some, None}
use Rattle.std.proofs.Common.{Result, Ok, Err, IfErr, refl, length, map, nat_lt, int_le}
use Rattle.std.proofs.lemmas.Bool.{cond_both}
use Rattle.csv.specs.Reading.{records, strip_bom, default_config}
use Rattle.bw_model.specs.declared.column.Column.{Column}
use Rattle.bw_csv.specs.declared.rule.FieldRule.{FieldRule}
use Rattle.bw_model.specs.declared.fault.Fault.{Fault}
use Rattle.bw_model.specs.Fault.{◌>>=◌, at_record}
use Rattle.bw_model.specs.FaultTable.{standing_of, HEADING, RECORD_LENGTH, NOT_A_NUMBER}
use Rattle.bw_model.specs.FaultTable.{OUT_OF_RANGE, NULL_NOT_ALLOWED, TOO_MANY_ROWS}
use Rattle.bw_model.specs.FaultPlaces.{StandsAsListed}
use Rattle.bw_model.proofs.FaultLemmas.{then_so, refused_so, fault_so}
use Rattle.bw_text.specs.Number.{are_digits, number_of}
use Rattle.bw_csv.specs.Rule.{rule_of}
use Rattle.bw_csv.specs.Rows.{within_bounds, is_null_text, is_minus, without_sign}
use Rattle.bw_csv.specs.Rows.{text_value, without_blanks, value_of_field, values_of_fields}
use Rattle.bw_csv.specs.Rows.{row_of_record, with_row, rows_from, is_heading, rows_after, rows_of}

within_listed : (number : ℕ) (rule : FieldRule) (n : Option ℤ) → IfErr (within_bounds number rule n) StandsAsListed
unfolding standing_of
within_listed number rule None = refl
within_listed number rule (Some n) = refused_so StandsAsListed (not (int_le rule.lo n && int_le n rule.hi)) (at_record OUT_OF_RANGE number) _ refl tt

text_listed : (number : ℕ) (rule : FieldRule) (text : List ℕ) → IfErr (text_value number rule text) StandsAsListed
unfolding standing_of
text_listed number rule text = cond_both (is_null_text text) _ _ (λ (r : Result (Option ℤ) Fault). IfErr r StandsAsListed)
    (λ null. refused_so StandsAsListed (not rule.nullable) (at_record NULL_NOT_ALLOWED number) (Ok None) refl tt)
    (λ some. refused_so StandsAsListed (not (are_digits (without_sign text))) (at_record NOT_A_NUMBER number) _ refl
    (within_listed number rule (number_of (is_minus text) (without_sign text))))

values_listed : (number : ℕ) (rules : List FieldRule) (fields : List (List ℕ)) → IfErr (values_of_fields number rules fields) StandsAsListed
unfolding standing_of value_of_field values_of_fields
values_listed number [] fields = tt
values_listed number (rule ∷ rules) [] = refl
values_listed number (rule ∷ rules) (field ∷ fields) =
    then_so StandsAsListed (value_of_field number rule field) (λ value. values_of_fields number rules fields >>= λ values. Ok (value ∷ values)) (text_listed number rule (without_blanks field))
    (λ value. then_so StandsAsListed (values_of_fields number rules fields) (λ values. Ok (value ∷ values)) (values_listed number rules fields) (λ values. tt))

row_listed : (number : ℕ) (rules : List FieldRule) (fields : List (List ℕ)) → IfErr (row_of_record number rules fields) StandsAsListed
unfolding standing_of row_of_record
row_listed number rules fields =
    refused_so StandsAsListed (not (length fields == length rules)) (at_record RECORD_LENGTH number) _ refl
    (refused_so StandsAsListed (nat_lt 16777216 number) (at_record TOO_MANY_ROWS number) _ refl (values_listed number rules fields))

rows_listed : (rules : List FieldRule) (number : ℕ) (all : List (List (List ℕ))) → IfErr (rows_from rules number all) StandsAsListed
unfolding rows_from
rows_listed rules number [] = tt
rows_listed rules number (fields ∷ more) =
    then_so StandsAsListed (row_of_record number rules fields) (λ row. with_row row (rows_from rules (number + 1) more)) (row_listed number rules fields)
    (λ row. then_so StandsAsListed (rows_from rules (number + 1) more) (λ rows. Ok (row ∷ rows)) (rows_listed rules (number + 1) more) (λ rows. tt))

all_listed : (columns : List Column) (all : List (List (List ℕ))) → IfErr (rows_after columns all) StandsAsListed
unfolding standing_of rows_after
all_listed columns [] = refl
all_listed columns (heading ∷ more) = refused_so StandsAsListed (not (is_heading columns heading)) (at_record HEADING 0) _ refl (rows_listed (map rule_of columns) 1 more)

pub fault_listed : (columns : List Column) (text : List ℕ) (fault : Fault) → rows_of columns text ≡ Err fault → StandsAsListed fault
fault_listed columns text fault is = fault_so StandsAsListed (rows_of columns text) fault (all_listed columns (records default_config (strip_bom text))) is
