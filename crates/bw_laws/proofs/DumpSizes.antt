-- How long the text of a dump is at most: a name has 63 bytes at most, a number 20, and a byte
-- follows each field.
use Rattle.std.proofs.Common.{◌≡◌, ◌∙◌, ℕ, suc, ◌+◌, ◌*◌, ◌≤◌, List, [], ◌∷◌, ◌++◌, length}
use Rattle.std.proofs.Common.{length-append, append_assoc, map, Some, None, true, ap, arith}
use Rattle.std.specs.Prelude.{⊤}
use Rattle.std.specs.List.{join_with_byte, list_all}
use Rattle.std.proofs.lemmas.List.{length-map}
use Rattle.std.proofs.lemmas.Bool.{and_parts}
use Rattle.bw_model.specs.declared.column.Column.{Column}
use Rattle.bw_model.specs.declared.schema.Schema.{Schema}
use Rattle.bw_model.specs.Column.{admits_value, admits_values, names_of}
use Rattle.bw_model.specs.Limits.{longest_csv, most_rows}
use Rattle.bw_model.specs.Row.{Value}
use Rattle.bw_model.specs.Schema.{IsColumn}
use Rattle.bw_model.specs.SchemaText.{column_shape}
use Rattle.bw_model.proofs.PlaceLemmas.{length_admitted}
use Rattle.bw_answer.specs.Answer.{csv_text, record_text, value_text}
use Rattle.bw_file.specs.declared.layout.Layout.{Layout}
use Rattle.bw_file.specs.FileBytes.{IsFileBytes}
use Rattle.bw_csv_calls.proofs.PrintedBounds.{bound_length}
use Rattle.bw_laws.specs.Backup.{table_text}
use Rattle.bw_file.proofs.EncoderLemmas.{short_name}
use Rattle.bw_laws.proofs.SpelledValues.{AreColumns, first_is, fits_in, others_are}

-- each field has at most this many bytes
abbrev AreShort : ℕ → List (List ℕ) → Type 0
AreShort most [] = ⊤
AreShort most (field ∷ fields) = (length field ≤ most) × AreShort most fields

record_short : (most : ℕ) (field : List ℕ) (fields : List (List ℕ)) → AreShort most (field ∷ fields)
    → length (record_text (field ∷ fields)) ≤ length (field ∷ fields) * (most + 1)
record_short most field [] short = omega (arith, length-append field (10 ∷ []), short.0)
record_short most field (next ∷ fields) short =
    let split : record_text (field ∷ next ∷ fields) ≡ field ++ 44 ∷ record_text (next ∷ fields) = append_assoc field (44 ∷ join_with_byte 44 (next ∷ fields)) (10 ∷ []) in
    omega (arith, ap length split, length-append field (44 ∷ record_text (next ∷ fields)), short.0, record_short most next fields short.1)

names_short : (columns : List Column) → AreColumns columns → AreShort 63 (names_of columns)
names_short [] are = tt
names_short (column ∷ columns) are = (short_name column.name (first_is column columns are).name, names_short columns (others_are column columns are))

value_short : (column : Column) (value : Value) → IsColumn (column_shape column) → admits_value column value ≡ true → length (value_text value) ≤ 20
value_short column None is e = omega arith
value_short column (Some n) is e = bound_length n (fits_in column n is e)

row_short : (columns : List Column) (row : List Value) → AreColumns columns → admits_values columns row ≡ true → AreShort 20 (map value_text row)
row_short [] [] are e = tt
row_short (column ∷ columns) (value ∷ row) are e =
    let is = and_parts (admits_value column value) (admits_values columns row) e in
    (value_short column value (first_is column columns are) is.0, row_short columns row (others_are column columns are) is.1)
row_short _ _ are e = absurd (cc e)

fields_short : (most : ℕ) (fields : List (List ℕ)) → 1 ≤ length fields → AreShort most fields → length (record_text fields) ≤ length fields * (most + 1)
fields_short most [] some short = absurd (omega (arith, some))
fields_short most (field ∷ fields) some short = record_short most field fields short

rows_short : (columns : List Column) (rows : List (List Value)) → 1 ≤ length columns → AreColumns columns → list_all (admits_values columns) rows ≡ true
    → length (csv_text (map (map value_text) rows)) ≤ length rows * (length columns * 21)
unfolding csv_text
rows_short columns [] some are e = omega arith
rows_short columns (row ∷ rows) some are e =
    let is = and_parts (admits_values columns row) (list_all (admits_values columns) rows) e in
    let wide : length (map value_text row) ≡ length columns = length-map row value_text ∙ length_admitted columns row is.0 in
    let first : length (record_text (map value_text row)) ≤ length columns * 21 = rw wide at (fields_short 20 (map value_text row) (omega (arith, wide, some)) (row_short columns row are is.0)) in
    omega (arith, length-append (record_text (map value_text row)) (csv_text (map (map value_text) rows)), first, rows_short columns rows some are is.1)

pub table_short : (bytes : List ℕ) (layout : Layout) (schema : Schema) (rows : List (List Value)) → IsFileBytes bytes layout schema rows
    → length (table_text schema rows) ≤ length schema.columns.items * 64 + length rows * (length schema.columns.items * 21)
unfolding csv_text
table_short bytes layout schema rows file =
    let columns = schema.columns.items in
    let wide : length (names_of columns) ≡ length columns = length-map columns (λ (column : Column). column.name) in
    let first = fields_short 63 (names_of columns) (omega (arith, wide, schema.inhabited)) (names_short columns file.under.columns) in
    omega (arith, length-append (record_text (names_of columns)) (csv_text (map (map value_text) rows)), wide, first, rows_short columns rows schema.inhabited file.under.columns file.admitted.admitted)

-- of at most three columns, even the most rows have room in a CSV text
few_columns : (columns rows size : ℕ) → size ≤ columns * 64 + rows * (columns * 21) → columns ≤ 3 → rows ≤ most_rows → size ≤ longest_csv
few_columns (suc (suc (suc (suc columns)))) rows size most few all = absurd (omega (arith, few))
few_columns _ rows size most few all = omega (arith, most, all)

pub three_columns : (bytes : List ℕ) (layout : Layout) (schema : Schema) (rows : List (List Value)) → IsFileBytes bytes layout schema rows
    → length schema.columns.items ≤ 3 → length (table_text schema rows) ≤ longest_csv
three_columns bytes layout schema rows file few = few_columns (length schema.columns.items) (length rows) _ (table_short bytes layout schema rows file) few file.admitted.within_limit
