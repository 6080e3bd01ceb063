-- The table file that a load writes is of one table: that of the rows of the CSV text.
use Rattle.std.proofs.Common.{◌≡◌, ℕ, List, Option, Result, Ok, Err, inl, refl, ap}
use Rattle.std.specs.Io.KnownBytes.{Appends}
use Rattle.bw_model.specs.declared.fault.Fault.{Fault}
use Rattle.bw_model.specs.declared.query.Query.{Query}
use Rattle.bw_model.specs.declared.schema.Schema.{Schema}
use Rattle.bw_model.specs.Column.{names_of}
use Rattle.bw_model.specs.Fault.{◌>>=◌}
use Rattle.bw_model.specs.Row.{Value}
use Rattle.bw_model.specs.Schema.{IsSchema}
use Rattle.bw_model.specs.SchemaText.{schema_shape}
use Rattle.bw_answer.specs.Answer.{csv_text, meaning}
use Rattle.csv.specs.Reading.{default_config, records, strip_bom}
use Rattle.bw_csv.specs.Rows.{rows_of}
use Rattle.bw_csv.proofs.RowLemmas.{text_good}
use Rattle.bw_file.specs.declared.layout.Layout.{Layout}
use Rattle.bw_file.specs.FileBytes.{IsFileBytes, file_bytes}
use Rattle.bw_file.specs.TableReading.{Found, found_as}
use Rattle.bw_laws.specs.LoadThenQuery.{AnswersCsv}
use Rattle.bw_csv_calls.specs.Load.{file_of}

abbrev Rows : Type 0
Rows = List (List Value)

-- the rows of a CSV text whose table file there is
pub record Loaded (layout : Layout) (schema : Schema) (csv bytes : List ℕ) : Type 0 where
  pub rows : Rows
  pub spelled : rows_of schema.columns.items csv ≡ Ok rows
  pub text : bytes ≡ file_bytes layout schema rows

loaded_by : (layout : Layout) (schema : Schema) (csv bytes : List ℕ) (spelled : Result Rows Fault) → rows_of schema.columns.items csv ≡ spelled
    → (spelled >>= λ rows. Ok (file_bytes layout schema rows)) ≡ Ok bytes → Loaded layout schema csv bytes
loaded_by layout schema csv bytes (Ok rows) e made = let same : ◌≡◌ {A = List ℕ} bytes (file_bytes layout schema rows) = cc in record { rows = rows; spelled = e; text = same }
loaded_by layout schema csv bytes (Err fault) e made = absurd (cc made)

pub loaded : (layout : Layout) (schema : Schema) (csv bytes : List ℕ) → file_of layout schema csv ≡ Ok bytes → Loaded layout schema csv bytes
loaded layout schema csv bytes made = loaded_by layout schema csv bytes (rows_of schema.columns.items csv) refl made

-- that file has the bytes of the table of these rows
pub loaded_text : (layout : Layout) (schema : Schema) (csv bytes : List ℕ) → IsSchema (schema_shape schema) → (of : Loaded layout schema csv bytes) → IsFileBytes bytes layout schema of.rows
loaded_text layout schema csv bytes under of =
    let good = text_good schema.columns.items (records default_config (strip_bom csv)) of.rows of.spelled in
    rw of.text (record { under = under; admitted = record { within_limit = good.0; admitted = good.1 }; text = inl refl })

-- what is answered over that file is answered over the CSV text
pub answers : (asks : Query → Type 0) (layout other : Layout) (schema under : Schema) (csv bytes : List ℕ) (old new : Option (List ℕ)) (query : Query) (of : Loaded layout schema csv bytes) (rows : Rows)
    → found_as layout (schema_shape schema) of.rows ≡ found_as other (schema_shape under) rows → under.columns.items ≡ schema.columns.items → asks query
    → Appends old new (csv_text (meaning (names_of under.columns.items) query rows)) → AnswersCsv asks schema csv old new
answers asks layout other schema under csv bytes old new query of rows same columns asked took =
    let rows_same : of.rows ≡ rows = ap (λ (found : Found). found.rows) same in
    record {
      query = query;
      asked = asked;
      text = csv_text (meaning (names_of under.columns.items) query rows);
      is = rw of.spelled (rw (rows_same, columns) refl);
      took = took;
    }
