-- The text of a dump spells the table's rows, and so a load of it gives the table's file.
use Rattle.std.proofs.Common.{◌≡◌, ◌∙◌, ◌⊎◌, inl, inr, ℕ, zero, suc, ◌+◌, ◌≤◌, List, [], ◌∷◌, ◌++◌}
use Rattle.std.proofs.Common.{length, length-append, map, Option, Some, None, Result, Ok, Err, Bool}
use Rattle.std.proofs.Common.{true, false, refl, sym, ap, subst, arith, slice_index, MatchBool}
use Rattle.std.specs.Prelude.{slice_index_or}
use Rattle.std.specs.Io.KnownBytes.{Appends, Consumes}
use Rattle.std.specs.List.{filter_map, list_all, range_with_len}
use Rattle.std.proofs.lemmas.Bool.{eq-eqb, le-ltb, and_parts}
use Rattle.std.proofs.lemmas.List.{get_or-map, length-map}
use Rattle.std.proofs.lemmas.List.FromFn.{fill_by_all}
use Rattle.csv.specs.Reading.{default_config, records, strip_bom}
use Rattle.bw_model.specs.declared.column.Column.{Column}
use Rattle.bw_model.specs.declared.fault.Fault.{Fault}
use Rattle.bw_model.specs.declared.query.Item.TheVariants.{Plain}
use Rattle.bw_model.specs.declared.query.Query.{Query}
use Rattle.bw_model.specs.declared.schema.Schema.{Schema}
use Rattle.bw_model.specs.Column.{admits_value, admits_values, names_of}
use Rattle.bw_model.specs.Fault.{is_memory, no_memory, nowhere}
use Rattle.bw_model.specs.Limits.{longest_csv, longest_schema, most_rows}
use Rattle.bw_model.specs.Groups.{together}
use Rattle.bw_model.specs.Row.{Value, value_in}
use Rattle.bw_model.specs.Selection.{matching_rows}
use Rattle.bw_model.specs.SchemaText.{IsSchemaText, SchemaShape, schema_shape}
use Rattle.bw_model.proofs.SameColumns.{columns_same}
use Rattle.bw_model.proofs.SchemaSpelling.{read_of}
use Rattle.bw_model.proofs.PlaceLemmas.{length_admitted}
use Rattle.bw_answer.specs.Answer.{csv_text, field_of, heading_of, lists_rows, meaning, value_text}
use Rattle.bw_answer.proofs.CountLemmas.{every_kept}
use Rattle.bw_csv.specs.Input.{IsMadeAfter, IsMadeOf}
use Rattle.bw_csv.specs.Rule.{rule_of}
use Rattle.bw_csv.specs.Rows.{row_of_record, rows_from, rows_of, values_of_fields}
use Rattle.bw_csv.proofs.RowLemmas.{rows_after-rows}
use Rattle.bw_csv_calls.specs.ReadInputs.{IsSchemaFrom}
use Rattle.bw_csv_calls.specs.Load.{file_of}
use Rattle.bw_io.specs.Source.{Arrival, NotReached, Whole, TooLong, Failed, PassedLimit}
use Rattle.bw_io.specs.Source.{source_state, is_input_fault}
use Rattle.bw_file.specs.declared.layout.Layout.{Layout}
use Rattle.bw_file.specs.FileBytes.{IsFileBytes, bytes_of_version, file_bytes, file_bytes2}
use Rattle.bw_file.specs.FileBytes.{front_bytes, header_bytes, magic}
use Rattle.bw_file.specs.Reading.{Tail, tail}
use Rattle.bw_file.specs.TableReading.{Found, HeaderShape, IsReadAfter, found_as, found_in, header}
use Rattle.bw_file.proofs.ReaderLemmas.{head_at}
use Rattle.bw_file.proofs.SpelledFile.{spelled_is_read}
use Rattle.bw_query.specs.TableAnswer.{AnswersFile, IsEveryRow, by_dump}
use Rattle.bw_laws.specs.OneAnswer.{IsArrivalOf}
use Rattle.bw_laws.specs.Backup.{IsOfNeededVersion, IsThatFile, IsTold, LoadsUnder, table_text}
use Rattle.bw_laws.proofs.OneFileLemmas.{file_alike}
use Rattle.bw_laws.proofs.SchemaTextLemmas.{one_schema}
use Rattle.bw_laws.proofs.SpelledRecords.{is_record, records_read, unmarked}
use Rattle.bw_laws.proofs.SpelledValues.{AreColumns, first_is, is_solid, name_is_solid, names_head}
use Rattle.bw_laws.proofs.SpelledValues.{others_are, shows, solid_shows, value_shows, value_spelled}
use Rattle.bw_laws.proofs.SpelledValues.{word_unmarked}
use Rattle.bw_text.specs.Text.{goes_on_in_word}

abbrev Rows : Type 0
Rows = List (List Value)

-- the texts of the values of a row, and of each row
abbrev row_fields : List Value → List (List ℕ)
row_fields row = map value_text row

abbrev rows_fields : Rows → List (List (List ℕ))
rows_fields rows = map row_fields rows

-- the fields of a row that columns admit spell its values
values_spelled : (number : ℕ) (columns : List Column) (row : List Value) → AreColumns columns → admits_values columns row ≡ true
    → values_of_fields number (map rule_of columns) (row_fields row) ≡ Ok row
unfolding values_of_fields
values_spelled number [] [] are e = refl
values_spelled number (column ∷ columns) (value ∷ row) are e =
    let is = and_parts (admits_value column value) (admits_values columns row) e in
    rw (value_spelled number column value (first_is column columns are) is.0, values_spelled number columns row (others_are column columns are) is.1) refl
values_spelled number _ _ are e = absurd (cc e)

row_spelled : (number : ℕ) (columns : List Column) (row : List Value) → AreColumns columns → admits_values columns row ≡ true → number ≤ most_rows
    → row_of_record number (map rule_of columns) (row_fields row) ≡ Ok row
unfolding row_of_record
row_spelled number columns row are e few =
    let wide : length (row_fields row) ≡ length (map rule_of columns) = length-map row value_text ∙ length_admitted columns row e ∙ sym (length-map columns rule_of) in
    rw (eq-eqb (length (row_fields row)) (length (map rule_of columns)) wide, le-ltb most_rows number few) (values_spelled number columns row are e)

rows_spelled : (columns : List Column) (rows : Rows) (number : ℕ) → AreColumns columns → list_all (admits_values columns) rows ≡ true
    → number + length rows ≤ most_rows + 1 → rows_from (map rule_of columns) number (rows_fields rows) ≡ Ok rows
unfolding rows_from
rows_spelled columns [] number are e few = refl
rows_spelled columns (row ∷ rows) number are e few =
    let is = and_parts (admits_values columns row) (list_all (admits_values columns) rows) e in
    rw (row_spelled number columns row are is.0 (omega (arith, few)), rows_spelled columns rows (number + 1) are is.1 (omega (arith, few))) refl

-- each field shows itself, in the rows and in the heading
row_shows : (columns : List Column) (row : List Value) → AreColumns columns → admits_values columns row ≡ true → list_all shows (row_fields row) ≡ true
row_shows [] [] are e = refl
row_shows (column ∷ columns) (value ∷ row) are e =
    let is = and_parts (admits_value column value) (admits_values columns row) e in
    rw (value_shows column value (first_is column columns are) is.0, row_shows columns row (others_are column columns are) is.1) refl
row_shows _ _ are e = absurd (cc e)

names_show : (columns : List Column) → AreColumns columns → list_all shows (names_of columns) ≡ true
names_show [] are = refl
names_show (column ∷ columns) are =
    rw (solid_shows column.name (name_is_solid column.name (first_is column columns are).name), names_show columns (others_are column columns are)) refl

shown_record : (fields : List (List ℕ)) → 1 ≤ length fields → list_all shows fields ≡ true → is_record fields ≡ true
shown_record [] some e = absurd (omega (arith, some))
shown_record (field ∷ fields) some e = e

rows_are_records : (columns : List Column) (rows : Rows) → 1 ≤ length columns → AreColumns columns → list_all (admits_values columns) rows ≡ true
    → list_all is_record (rows_fields rows) ≡ true
rows_are_records columns [] some are e = refl
rows_are_records columns (row ∷ rows) some are e =
    let is = and_parts (admits_values columns row) (list_all (admits_values columns) rows) e in
    let long : 1 ≤ length (row_fields row) = omega (arith, length-map row value_text, length_admitted columns row is.0) in
    rw (shown_record (row_fields row) long (row_shows columns row are is.0), rows_are_records columns rows some are is.1) refl

-- no byte order mark begins with a name
named_unmarked : (name : List ℕ) (fields : List (List ℕ)) (more : List (List (List ℕ))) → is_solid name ≡ true
    → strip_bom (csv_text ((name ∷ fields) ∷ more)) ≡ csv_text ((name ∷ fields) ∷ more)
named_unmarked [] fields more e = absurd (cc e)
named_unmarked (c ∷ cs) fields more e = unmarked c cs fields more (word_unmarked c (and_parts (goes_on_in_word c) (list_all goes_on_in_word cs) e).0)

names_unmarked : (columns : List Column) (more : List (List (List ℕ))) → 1 ≤ length columns → AreColumns columns
    → strip_bom (csv_text (names_of columns ∷ more)) ≡ csv_text (names_of columns ∷ more)
names_unmarked [] more some are = absurd (omega (arith, some))
names_unmarked (column ∷ columns) more some are = named_unmarked column.name (names_of columns) more (name_is_solid column.name (first_is column columns are).name)

-- a heading of the columns' names, and then the rows, spell the rows
rows_again : (columns : List Column) (rows : Rows) → 1 ≤ length columns → AreColumns columns → list_all (admits_values columns) rows ≡ true → length rows ≤ most_rows
    → rows_of columns (csv_text (names_of columns ∷ rows_fields rows)) ≡ Ok rows
rows_again columns rows some are e few =
    let all = names_of columns ∷ rows_fields rows in
    let wide : 1 ≤ length (names_of columns) = omega (arith, some, length-map columns (λ (column : Column). column.name)) in
    let shown : list_all is_record all ≡ true = rw (shown_record (names_of columns) wide (names_show columns are), rows_are_records columns rows some are e) refl in
    let read : records default_config (strip_bom (csv_text all)) ≡ all = ap (records default_config) (names_unmarked columns (rows_fields rows) some are) ∙ records_read all shown in
    rows_after-rows columns (records default_config (strip_bom (csv_text all))) (rows_fields rows) (names_of columns) read (names_head columns are)
    ∙ rows_spelled columns rows 1 are e (omega (arith, few))

-- a query for every row in every column means them
headings_by : (names : List (List ℕ)) (places : List ℕ) → map (heading_of names) (map Plain places) ≡ map (λ (i : ℕ). slice_index_or names i []) places
headings_by names [] = refl
headings_by names (i ∷ places) = ap (λ (l : List (List ℕ)). slice_index_or names i [] ∷ l) (headings_by names places)

fields_by : (row : List Value) (places : List ℕ) → filter_map (field_of row) (map Plain places) ≡ map (λ (i : ℕ). value_text (value_in row i)) places
fields_by row [] = refl
fields_by row (i ∷ places) = ap (λ (l : List (List ℕ)). value_text (value_in row i) ∷ l) (fields_by row places)

all_headings : (names : List (List ℕ)) (n : ℕ) → length names ≡ n → map (heading_of names) (map Plain (range_with_len 0 n)) ≡ names
all_headings names n long =
    headings_by names (range_with_len 0 n) ∙ sym (fill_by_all (λ (i : ℕ). slice_index_or names i []) names n [] long (λ k lt. refl))

all_fields : (row : List Value) (n : ℕ) → length row ≡ n → filter_map (field_of row) (map Plain (range_with_len 0 n)) ≡ row_fields row
all_fields row n long =
    fields_by row (range_with_len 0 n)
    ∙ sym (fill_by_all (λ (i : ℕ). value_text (value_in row i)) (row_fields row) n (value_text None) (length-map row value_text ∙ long)
    (λ k lt. get_or-map value_text row k None (value_text None) (omega (arith, lt, long))))

every_field : (columns : List Column) (rows : Rows) → list_all (admits_values columns) rows ≡ true
    → map (λ (row : List Value). filter_map (field_of row) (map Plain (range_with_len 0 (length columns)))) rows ≡ rows_fields rows
every_field columns [] e = refl
every_field columns (row ∷ rows) e =
    let is = and_parts (admits_values columns row) (list_all (admits_values columns) rows) e in
    rw (all_fields row (length columns) (length_admitted columns row is.0), every_field columns rows is.1) refl

plain_lists : (n : ℕ) → 1 ≤ n → lists_rows (map Plain (range_with_len 0 n)) ≡ true
plain_lists zero some = absurd (omega (arith, some))
plain_lists (suc n) some = refl

every_meaning : (columns : List Column) (query : Query) (rows : Rows) → 1 ≤ length columns → list_all (admits_values columns) rows ≡ true
    → query.items.items ≡ map Plain (range_with_len 0 (length columns)) → matching_rows query.cond rows ≡ rows
    → meaning (names_of columns) query rows ≡ names_of columns ∷ rows_fields rows
unfolding meaning
every_meaning columns query rows some e items all =
    rw (items, plain_lists (length columns) some, all, all_headings (names_of columns) (length columns) (length-map columns (λ (column : Column). column.name)), every_field columns rows e) refl

-- so a dump of a table's file is the table as a CSV text, which spells the table's rows
pub dump_text : (bytes : List ℕ) (layout : Layout) (schema : Schema) (rows : Rows) (query : Query) → IsFileBytes bytes layout schema rows → IsEveryRow schema query
    → csv_text (meaning (names_of schema.columns.items) query rows) ≡ table_text schema rows
dump_text bytes layout schema rows query file every =
    ap csv_text (every_meaning schema.columns.items query rows schema.inhabited file.admitted.admitted every.columns (every_kept query.cond rows every.rows))

pub text_spells : (bytes : List ℕ) (layout : Layout) (schema : Schema) (rows : Rows) → IsFileBytes bytes layout schema rows
    → rows_of schema.columns.items (table_text schema rows) ≡ Ok rows
text_spells bytes layout schema rows file = rows_again schema.columns.items rows schema.inhabited file.under.columns file.admitted.admitted file.admitted.within_limit

-- so a load of a text that spells the rows gives their file
pub text_loads : (layout : Layout) (schema : Schema) (rows : Rows) (text : List ℕ) → rows_of schema.columns.items text ≡ Ok rows
    → file_of layout schema text ≡ Ok (file_bytes layout schema rows)
text_loads layout schema rows text spelled = rw spelled refl

-- a file of the version that its table needs has the bytes that a load gives
second_told : (layout : Layout) (schema : Schema) (rows : Rows) → slice_index (file_bytes2 layout schema rows) 8 ≡ 2
unfolding bytes_of_version header_bytes front_bytes magic
second_told layout schema rows = refl

pub needed_same : (bytes : List ℕ) (layout : Layout) (schema : Schema) (rows : Rows) → IsFileBytes bytes layout schema rows → IsOfNeededVersion bytes schema
    → bytes ≡ file_bytes layout schema rows
needed_same bytes layout schema rows file needed = by file.text needed
  where
    by : (bytes ≡ file_bytes layout schema rows) ⊎ (bytes ≡ file_bytes2 layout schema rows) → IsOfNeededVersion bytes schema → bytes ≡ file_bytes layout schema rows
    by (inl text) need = text
    by (inr text) (inl first) = absurd (let told : slice_index bytes 8 ≡ 2 = ap (λ (l : List ℕ). slice_index l 8) text ∙ second_told layout schema rows in omega (arith, first, told))
    by (inr text) (inr second) = text ∙ ap (λ (v : ℕ). bytes_of_version v layout schema.name schema.columns.items rows) (sym second)

-- what a dump wrote of a table's file is that text
pub dumped : (bytes : List ℕ) (layout : Layout) (schema : Schema) (rows : Rows) (old new : Option (List ℕ)) → (wrote : AnswersFile by_dump bytes old new)
    → found_as layout (schema_shape schema) rows ≡ found_as wrote.layout (schema_shape wrote.schema) wrote.rows → Appends old new (table_text schema rows)
dumped bytes layout schema rows old new wrote same =
    let columns : wrote.schema.columns.items ≡ schema.columns.items =
    columns_same _ _ (ap (λ (shape : SchemaShape). shape.columns) (sym (ap (λ (found : Found). found.schema) same))) in
    let rows_same : wrote.rows ≡ rows = sym (ap (λ (found : Found). found.rows) same) in
    let alike : table_text wrote.schema wrote.rows ≡ table_text schema rows = rw (columns, rows_same) refl in
    subst (Appends old new) (dump_text bytes wrote.layout wrote.schema wrote.rows wrote.query wrote.file wrote.asked ∙ alike) wrote.text

-- what fails a source is a failed read or no memory, and no more comes than it had to give
input_is : (fault : Fault) (memory : Bool) (before after : ℕ) → is_memory fault ≡ memory
    → MatchBool memory ((fault ≡ no_memory) × (after ≡ before)) ((fault ≡ nowhere 701) × (after ≡ before + 1)) → is_input_fault fault ≡ true
input_is fault true before after e came = rw e refl
input_is fault false before after e came = rw (came.0) refl

failed_input : (limit : ℕ) (bytes : List ℕ) (fault : Fault) → IsArrivalOf limit bytes (Failed fault) → is_input_fault fault ≡ true
failed_input limit bytes fault of = input_is fault (is_memory fault) of.before of.now.failures refl of.is

not_past : (bytes left taken : List ℕ) (limit : ℕ) → length bytes ≤ limit → bytes ≡ taken ++ left → length taken ≡ limit + 1 → ⊥
not_past bytes left taken limit short e long = omega (arith, short, ap length e, length-append taken left, long)

never_past : (limit : ℕ) (bytes : List ℕ) (before after : ℕ) (left : Option (List ℕ)) → length bytes ≤ limit
    → PassedLimit limit (source_state (Some bytes) before) (source_state left after) → ⊥
never_past limit bytes before after None short past = past.1
never_past limit bytes before after (Some left) short past = not_past bytes left past.0 limit short past.1 past.2

-- a load of a text that spells the rows, and is no longer than a CSV text may be
module _ (layout : Layout) (schema : Schema) (rows : Rows) (csv : List ℕ) (spelled : rows_of schema.columns.items csv ≡ Ok rows) where
  abbrev IsGiven : Result (List ℕ) Fault → Type 0
  IsGiven given = IsThatFile (file_bytes layout schema rows) given

  failed_is_given : (given : Result (List ℕ) Fault) (fault : Fault) → is_input_fault fault ≡ true → given ≡ Err fault → IsGiven given
  failed_is_given given fault input e = rw e input

  with_csv : (under : Schema) (came : Arrival) (given : Result (List ℕ) Fault) → schema_shape under ≡ schema_shape schema → length csv ≤ longest_csv → IsArrivalOf longest_csv csv came
      → IsMadeOf (file_of layout under) came given → IsGiven given
  with_csv under NotReached given alike short of made = absurd made
  with_csv under (Whole all) given alike short of made =
      let file : given ≡ Ok (file_bytes layout schema rows) =
      made ∙ ap (file_of layout under) of.is.0.1 ∙ file_alike layout under schema csv alike ∙ text_loads layout schema rows csv spelled in
      rw file refl
  with_csv under TooLong given alike short of made = absurd (never_past longest_csv csv of.before of.now.failures of.now.known short of.is.0)
  with_csv under (Failed fault) given alike short of made = failed_is_given given fault (failed_input longest_csv csv fault of) made

  with_schema : (text : List ℕ) (under : Result Schema Fault) (came : Arrival) (given : Result (List ℕ) Fault) → IsSchemaText text (schema_shape schema)
      → IsSchemaFrom (Whole text) under → length csv ≤ longest_csv → IsArrivalOf longest_csv csv came → IsMadeAfter under (file_of layout) came given → IsGiven given
  with_schema text (Ok under) came given is from short of made = with_csv under came given (one_schema text (schema_shape under) (schema_shape schema) from is) short of made
  with_schema text (Err fault) came given is from short of made =
      absurd (let clash : ◌≡◌ {A = Result SchemaShape Fault} (Ok (schema_shape schema)) (Err fault) = sym (read_of text (schema_shape schema) is) ∙ from in cc clash)

  by_schema : (text : List ℕ) (schema_came came : Arrival) (under : Result Schema Fault) (given : Result (List ℕ) Fault) → IsSchemaText text (schema_shape schema)
      → IsArrivalOf longest_schema text schema_came → IsSchemaFrom schema_came under → length csv ≤ longest_csv → IsArrivalOf longest_csv csv came
      → IsMadeAfter under (file_of layout) came given → IsGiven given
  by_schema text NotReached came under given is source from short of made = absurd from
  by_schema text (Whole all) came under given is source from short of made =
      with_schema text under came given is (subst (λ (bytes : List ℕ). IsSchemaFrom (Whole bytes) under) source.is.0.1 from) short of made
  by_schema text TooLong came under given is source from short of made = absurd (never_past longest_schema text source.before source.now.failures source.now.known (is.0) source.is.0)
  by_schema text (Failed fault) came under given is source from short of made =
      let refused = subst (λ (under : Result Schema Fault). IsMadeAfter under (file_of layout) came given) from made in
      failed_is_given given fault (failed_input longest_schema text fault source) refused.1

  pub load_again : length csv ≤ longest_csv → LoadsUnder layout schema csv (file_bytes layout schema rows)
  load_again short text is schema_came csv_came given of_schema of_csv file =
      by_schema text schema_came csv_came file.0 given is of_schema file.1 short of_csv file.2

-- what is told of a table's file is its schema
rest_of : (new : Option (List ℕ)) (bytes taken : List ℕ) → Consumes (Some bytes) new taken → (rest : List ℕ) × (bytes ≡ taken ++ rest)
rest_of None bytes taken gone = absurd gone
rest_of (Some rest) bytes taken e = (rest, e)

found_schema : (told : HeaderShape) (found : Found) (groups : Result (List Rows × Tail) Fault) → ◌≡◌ {A = Result Found Fault} (Ok found) (found_in told.layout told.schema groups)
    → told.schema ≡ found.schema
found_schema told found (Ok x) e =
    let same : found ≡ found_as told.layout told.schema (together x.0) = cc e in
    sym (ap (λ (found : Found). found.schema) same)
found_schema told found (Err fault) e = absurd (cc e)

pub told_spells : (bytes : List ℕ) (layout : Layout) (schema : Schema) (rows : Rows) (text : List ℕ) → IsFileBytes bytes layout schema rows → IsTold bytes text → IsSchemaText text (schema_shape schema)
told_spells bytes layout schema rows text file is =
    let read = spelled_is_read bytes layout schema rows file in
    let told = is.header.told in
    let head = is.header.read in
    let rest = rest_of is.now.known bytes head.bytes head.took.consumed in
    let e : header (tail 0 bytes) ≡ Ok (told, tail is.now.offset rest.0) = ap (λ (l : List ℕ). header (tail 0 l)) rest.1 ∙ head_at _ is.now told rest.0 refl head in
    let after = subst (λ r. IsReadAfter r (Ok (found_as layout (schema_shape schema) rows))) e read in
    let same = found_schema told (found_as layout (schema_shape schema) rows) _ after.2 in
    subst (λ (shape : SchemaShape). IsSchemaText text shape) (sym is.header.shape ∙ same) is.header.spelled

-- a text spells its rows in one way
pub same_rows : (rows other : Rows) → ◌≡◌ {A = Result Rows Fault} (Ok rows) (Ok other) → rows ≡ other
same_rows rows other e = cc e
