-- What is answered over the file by columns of a load is answered over the CSV text.
use Rattle.std.proofs.Common.{◌≡◌, ◌∙◌, refl, sym, ap, ap₂, subst, ℕ, zero, suc, ◌≤◌, Bool, true, cond, ◌==◌, List, [], ◌∷◌, map, length, inl, inr}
use Rattle.std.proofs.Common.{None, Some, Option, Result, Ok, Err, arith}
use Rattle.std.specs.Io.KnownBytes.{Appends}
use Rattle.std.specs.List.{list_all}
use Rattle.std.proofs.lemmas.Bool.{cases_Bool, cases_lt, eq-eqb, eqb-true}
use Rattle.std.proofs.lemmas.List.FromFn.{get_or-map-range_with_len, length-map-range_with_len}
use Rattle.bw_model.specs.declared.column.Column.{Column}
use Rattle.bw_model.specs.declared.fault.Fault.{Fault}
use Rattle.bw_model.specs.declared.query.Query.{Query}
use Rattle.bw_model.specs.declared.schema.Schema.{Schema}
use Rattle.bw_model.specs.Code.{value_at}
use Rattle.bw_model.specs.Column.{admits_values, names_of}
use Rattle.bw_model.specs.Fault.{◌>>=◌}
use Rattle.bw_model.specs.Row.{Value, value_in}
use Rattle.bw_model.specs.Schema.{IsSchema}
use Rattle.bw_model.specs.SchemaText.{schema_shape}
use Rattle.bw_model.proofs.BitsLemmas.{both}
use Rattle.bw_model.proofs.PlaceLemmas.{length_admitted}
use Rattle.bw_sql.proofs.SameNames.{columns_too}
use Rattle.bw_answer.specs.Answer.{csv_text, meaning}
use Rattle.csv.specs.Reading.{default_config, records, strip_bom}
use Rattle.bw_csv.specs.Rows.{rows_of}
use Rattle.bw_csv.proofs.RowLemmas.{text_good}
use Rattle.bw_program.specs.Program.{ProgramShape}
use Rattle.bw_file.specs.declared.layout.Layout.{Layout}
use Rattle.bw_file.specs.declared.order.FileOrder.TheVariants.{ByColumns}
use Rattle.bw_file.specs.Columnar.{IsColumnarFile, columnar_bytes}
use Rattle.bw_memory.specs.declared.columnar.ColumnarTable.{ColumnarTable}
use Rattle.bw_memory.specs.Columnar.{HasColumns, IsOpened, table_in}
use Rattle.bw_memory.specs.MemoryTable.{rows_of as rows_stored, schema_of}
use Rattle.bw_memory.specs.NamedRows.{AreReadRows, read_row}
use Rattle.bw_query.specs.ColumnarAnswer.{ColumnarText}
use Rattle.bw_query.specs.NamedColumns.{is_named_by, is_read, program_names, query_names}
use Rattle.bw_csv_calls.specs.Direct.{answer_of}
use Rattle.bw_csv_calls.specs.Load.{file_in}
use Rattle.bw_laws.specs.LoadThenQuery.{AnswersCsv}
use Rattle.bw_laws.proofs.NamedColumnsLemmas.{meaning_same, or_first}

abbrev Rows : Type 0
Rows = List (List Value)

-- the rows of a CSV text whose file by columns there is
pub record LoadedByColumns (layout : Layout) (schema : Schema) (csv bytes : List ℕ) : Type 0 where
  pub rows : Rows
  pub spelled : rows_of schema.columns.items csv ≡ Ok rows
  pub file : IsColumnarFile bytes layout schema rows

loaded_by : (layout : Layout) (schema : Schema) (csv bytes : List ℕ) (spelled : Result Rows Fault) → IsSchema (schema_shape schema) → rows_of schema.columns.items csv ≡ spelled
    → (spelled >>= λ rows. Ok (columnar_bytes layout schema rows)) ≡ Ok bytes → LoadedByColumns layout schema csv bytes
loaded_by layout schema csv bytes (Ok rows) under e made =
    let same : ◌≡◌ {A = List ℕ} bytes (columnar_bytes layout schema rows) = cc in
    let good = text_good schema.columns.items (records default_config (strip_bom csv)) rows e in
    record { rows = rows; spelled = e; file = record { under = under; admitted = record { within_limit = good.0; admitted = good.1 }; text = same } }
loaded_by layout schema csv bytes (Err fault) under e made = absurd (cc made)

pub loaded_by_columns : (layout : Layout) (schema : Schema) (csv bytes : List ℕ) → IsSchema (schema_shape schema) → file_in ByColumns layout schema csv ≡ Ok bytes → LoadedByColumns layout schema csv bytes
loaded_by_columns layout schema csv bytes under made = loaded_by layout schema csv bytes (rows_of schema.columns.items csv) under refl made

-- rows of which the columns that a query doesn't name are replaced
module _ (columns : List Column) (read : ℕ → Bool) (query : Query) (wide : (column : ℕ) → query_names column query ≡ true → read column ≡ true) where
  abbrev value_read : List Value → ℕ → Value
  value_read row column = cond (read column) (value_in row column) (Some (value_at columns column 0))

  -- a row that isn't as long as the columns stays as it is
  abbrev kept_row : List Value → List Value
  kept_row row = cond (length row == length columns) (read_row columns read row) row

  beyond : (row : List Value) (column : ℕ) → length row ≤ column → value_in row column ≡ None
  beyond [] column le = refl
  beyond (value ∷ row) zero le = absurd (omega (arith, le))
  beyond (value ∷ row) (suc column) le = beyond row column (omega (arith, le))

  read_same : (row : List Value) (column : ℕ) → length row ≡ length columns → query_names column query ≡ true → value_in (read_row columns read row) column ≡ value_in row column
  read_same row column long named = elim (cases_lt column (length columns)) [
    | inl there ↦
        get_or-map-range_with_len (value_read row) 0 (length columns) column column None there (omega arith)
        ∙ ap (λ b. cond b (value_in row column) (Some (value_at columns column 0))) (wide column named)
    | inr past ↦
        beyond (read_row columns read row) column (omega (arith, past, length-map-range_with_len (value_read row) 0 (length columns))) ∙ sym (beyond row column (omega (arith, past, long)))
  ]

  keeps : (column : ℕ) → query_names column query ≡ true → (row : List Value) → value_in (kept_row row) column ≡ value_in row column
  keeps column named row = elim (cases_Bool (length row == length columns)) [
    | inl long ↦ ap (λ b. value_in (cond b (read_row columns read row) row) column) long ∙ read_same row column (eqb-true _ _ long) named
    | inr other ↦ ap (λ b. value_in (cond b (read_row columns read row) row) column) other
  ]

  rows_kept : (rows : Rows) → list_all (admits_values columns) rows ≡ true → map (read_row columns read) rows ≡ map kept_row rows
  rows_kept [] all = refl
  rows_kept (row ∷ rows) all =
      let p = both (admits_values columns row) (list_all (admits_values columns) rows) all in
      let long : (length row == length columns) ≡ true = eq-eqb _ _ (length_admitted columns row p.0) in
      ap₂ ◌∷◌ (sym (ap (λ b. cond b (read_row columns read row) row) long)) (rows_kept rows p.1)

  pub meaning_read : (names : List (List ℕ)) (rows : Rows) → list_all (admits_values columns) rows ≡ true → meaning names query (map (read_row columns read) rows) ≡ meaning names query rows
  meaning_read names rows all = ap (meaning names query) (rows_kept rows all) ∙ meaning_same names query kept_row rows keeps

-- the columns that a query names are read
reads : (program : Option ProgramShape) (query : Query) (column : ℕ) → query_names column query ≡ true → is_read program query column ≡ true
reads program query column named = or_first (query_names column query) (program_names column program) named

-- a session's answer over a file by columns is that over the CSV text
pub stored_meaning : (layout : Layout) (schema : Schema) (csv bytes : List ℕ) (of : LoadedByColumns layout schema csv bytes) (other : Schema) (query : Query) (stored : Rows)
    → schema_shape other ≡ schema_shape schema → AreReadRows schema.columns.items (is_named_by query) of.rows stored
    → answer_of schema.columns.items query csv ≡ Ok (csv_text (meaning (names_of other.columns.items) query stored))
stored_meaning layout schema csv bytes of other query stored shape are =
    let columns = schema.columns.items in
    let same : csv_text (meaning (names_of other.columns.items) query stored) ≡ csv_text (meaning (names_of columns) query of.rows) =
    ap₂ (λ (cs : List Column) (l : Rows). csv_text (meaning (names_of cs) query l)) (columns_too other schema shape) are.are
    ∙ ap csv_text (meaning_read columns are.read query are.wide (names_of columns) of.rows of.file.admitted.admitted) in
    rw of.spelled (ap Ok (sym same))

-- a table of a file by columns has the file's columns and rows
pub record AreTheFiles : Type 0 where
  pub schema : (bytes : List ℕ) (layout : Layout) (schema : Schema) (rows : Rows) (columnar : ColumnarTable) (read : ℕ → Bool) → IsColumnarFile bytes layout schema rows
      → IsOpened (Some bytes) columnar → HasColumns (Some bytes) columnar read (length (schema_of (table_in columnar)).columns.items)
      → schema_shape (schema_of (table_in columnar)) ≡ schema_shape schema
  pub rows : (bytes : List ℕ) (layout : Layout) (schema : Schema) (rows : Rows) (columnar : ColumnarTable) (read : ℕ → Bool) → IsColumnarFile bytes layout schema rows
      → IsOpened (Some bytes) columnar → HasColumns (Some bytes) columnar read (length (schema_of (table_in columnar)).columns.items)
      → rows_stored (table_in columnar) ≡ map (read_row schema.columns.items read) rows

module _ (are : AreTheFiles) (layout : Layout) (schema : Schema) (csv bytes : List ℕ) (of : LoadedByColumns layout schema csv bytes)
    (asks : Schema → Result Query Fault → Type 0) (program : Option (List ℕ)) (text : List ℕ) (found : ColumnarText asks program (Some bytes) text) where
  pub shape_of : schema_shape (schema_of (table_in found.columnar)) ≡ schema_shape schema
  shape_of = are.schema bytes layout schema of.rows found.columnar _ of.file found.asked.opened found.columns

  pub columns_of : (schema_of (table_in found.columnar)).columns.items ≡ schema.columns.items
  columns_of = columns_too (schema_of (table_in found.columnar)) schema shape_of

  -- the text of the query's meaning over the rows of the CSV text
  pub text_of : text ≡ csv_text (meaning (names_of schema.columns.items) found.query of.rows)
  text_of =
      let columns = schema.columns.items in
      let rows = are.rows bytes layout schema of.rows found.columnar _ of.file found.asked.opened found.columns in
      found.is ∙ ap₂ (λ (cs : List Column) (l : Rows). csv_text (meaning (names_of cs) found.query l)) columns_of rows
      ∙ ap csv_text (meaning_read columns (is_read found.program found.query) found.query (reads found.program found.query) (names_of columns) of.rows of.file.admitted.admitted)

  pub answered : (asked : Query → Type 0) (old new : Option (List ℕ)) → asked found.query → Appends old new text → AnswersCsv asked schema csv old new
  answered asked old new is took =
      record {
        query = found.query;
        asked = is;
        text = csv_text (meaning (names_of schema.columns.items) found.query of.rows);
        is = rw of.spelled refl;
        took = subst (Appends old new) text_of took;
      }
