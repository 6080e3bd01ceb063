-- What is answered over a loaded table is what `direct` may write.
use Rattle.std.proofs.Common.{◌≡◌, ◌∙◌, ℕ, List, Option, Result, Ok, Err, refl, sym, ap, subst}
use Rattle.std.specs.Io.KnownBytes.{Appends}
use Rattle.bw_model.specs.declared.column.Column.{Column}
use Rattle.bw_model.specs.declared.fault.Fault.{Fault}
use Rattle.bw_model.specs.declared.query.Query.{Query}
use Rattle.bw_model.specs.declared.schema.Schema.{Schema}
use Rattle.bw_model.specs.Column.{names_of}
use Rattle.bw_model.specs.Fault.{◌>>=◌}
use Rattle.bw_model.specs.Row.{Value}
use Rattle.bw_model.specs.Schema.{IsSchema}
use Rattle.bw_model.specs.SchemaText.{schema_shape}
use Rattle.bw_io.specs.Source.{Arrival, NotReached, Whole}
use Rattle.bw_sql.specs.QueryShape.{query_shape}
use Rattle.bw_sql.specs.Statement.{IsReadAs}
use Rattle.bw_sql.proofs.SameNames.{columns_too, spells_too}
use Rattle.bw_answer.specs.Answer.{csv_text, meaning}
use Rattle.bw_csv.specs.Input.{IsMadeOf, IsMadeAfter}
use Rattle.bw_csv.specs.Rows.{rows_of}
use Rattle.bw_file.specs.declared.layout.Layout.{Layout}
use Rattle.bw_file.specs.FileBytes.{file_bytes}
use Rattle.bw_file.specs.TableReading.{Found}
use Rattle.bw_file.proofs.SpelledFile.{of_one_table}
use Rattle.bw_query.specs.TableAnswer.{AnswersFile, by_statement}
use Rattle.bw_csv_calls.specs.ReadInputs.{IsSchemaFrom}
use Rattle.bw_csv_calls.specs.Direct.{IsAnswer, IsAnswerUnder, answer_of}
use Rattle.bw_csv_calls.specs.Load.{IsFile, file_of}
use Rattle.bw_laws.specs.AsDirect.{IsAnswerable, LoadMayWrite, HasConsumedAnswer}
use Rattle.bw_laws.specs.AsDirect.{HasConsumedAsDirect}
use Rattle.bw_laws.specs.LoadThenQuery.{AnswersCsv}
use Rattle.bw_laws.specs.OneAnswer.{DirectMayWrite}
use Rattle.bw_laws.proofs.ArrivedLemmas.{csv_text_of, one_text}
use Rattle.bw_laws.proofs.LoadThenQueryLemmas.{Loaded, answers, loaded, loaded_text}
use Rattle.bw_laws.proofs.OneAnswerLemmas.{one_answer, one_schema}
use Rattle.bw_laws.proofs.SoundSchemaLemmas.{sound_shape}

abbrev Rows : Type 0
Rows = List (List Value)

-- a schema that came of a text is sound
sound_from : (came : Arrival) (schema : Schema) → IsSchemaFrom came (Ok schema) → IsSchema (schema_shape schema)
sound_from NotReached schema from = absurd from
sound_from (Whole text) schema from = sound_shape text (schema_shape schema) from
sound_from _ schema from = absurd (cc from)

-- what is made of a CSV text that came
made_from : (make : List ℕ → Result (List ℕ) Fault) (csv : Arrival) (text made : List ℕ) → csv ≡ Whole text → make text ≡ Ok made → IsMadeOf make csv (Ok made)
made_from make csv text made came is = subst (λ (csv : Arrival). IsMadeOf make csv (Ok made)) (sym came) (sym is)

given_from : (make : List ℕ → Result (List ℕ) Fault) (csv : Arrival) (text : List ℕ) (given : Result (List ℕ) Fault) → csv ≡ Whole text → IsMadeOf make csv given → given ≡ make text
given_from make csv text given came made = subst (λ (csv : Arrival). IsMadeOf make csv given) came made

under_direct : (layout : Layout) (came csv : Arrival) (bytes sql : List ℕ) (program old new : Option (List ℕ))
    (reading : Result Schema Fault) → IsSchemaFrom came reading → IsMadeAfter reading (file_of layout) csv (Ok bytes)
    → AnswersFile (by_statement program sql) bytes old new → HasConsumedAnswer came csv sql old new
under_direct layout came csv bytes sql program old new (Err fault) from made file = absurd (cc (made.1))
under_direct layout came csv bytes sql program old new (Ok schema) from made file =
    let csv_came = csv_text_of csv (file_of layout schema) bytes made in
    let of = loaded layout schema csv_came.text bytes csv_came.given in
    let is = loaded_text layout schema csv_came.text bytes (sound_from came schema from) of in
    let same = of_one_table bytes layout file.layout schema file.schema of.rows file.rows is file.file in
    let shape = sym (ap (λ (found : Found). found.schema) same) in
    let spelled = spells_too file.schema schema sql (query_shape file.query) shape file.asked.0 in
    let found : AnswersCsv (λ query. IsReadAs schema sql (Ok query)) schema csv_came.text old new =
    answers (λ query. IsReadAs schema sql (Ok query)) layout file.layout schema file.schema csv_came.text bytes old new file.query of file.rows same
    (columns_too file.schema schema shape) spelled file.text in
    let answer : IsAnswer came sql csv (Ok found.text) =
    (Ok schema, from, (Ok found.query, found.asked, made_from (answer_of schema.columns.items found.query) csv csv_came.text found.text csv_came.came found.is)) in
    record {
      text = found.text;
      is = answer;
      only = λ given other. one_answer came csv sql given (Ok found.text) other answer;
      took = found.took;
    }

pub took_answer : (layout : Layout) (schema csv : Arrival) (bytes sql : List ℕ) (program old new : Option (List ℕ))
    → IsFile layout schema csv (Ok bytes) → AnswersFile (by_statement program sql) bytes old new → HasConsumedAnswer schema csv sql old new
took_answer layout schema csv bytes sql program old new is file =
    under_direct layout schema csv bytes sql program old new is.0 is.1 is.2 file

-- so it is over the texts of the sources
pub took_as_direct : (layout : Layout) (schema csv bytes sql : List ℕ) (program old new : Option (List ℕ))
    → LoadMayWrite layout schema csv bytes → AnswersFile (by_statement program sql) bytes old new → HasConsumedAsDirect schema csv sql old new
took_as_direct layout schema csv bytes sql program old new load file =
    let took = took_answer layout load.schema_came load.csv_came bytes sql program old new load.is file in
    let may : DirectMayWrite schema csv sql took.text =
    record {
      schema_came = load.schema_came;
      csv_came = load.csv_came;
      schema_source = load.schema_source;
      csv_source = load.csv_source;
      is = took.is;
    } in
    record {
      text = took.text;
      may = may;
      only = λ other also. one_text schema csv sql other took.text also may;
      took = took.took;
    }

-- two sinks that took what `direct` may write took the same text
pub took_alike : (layout other : Layout) (schema csv bytes others sql : List ℕ) (program old new second before after : Option (List ℕ))
    → LoadMayWrite layout schema csv bytes → AnswersFile (by_statement program sql) bytes old new
    → LoadMayWrite other schema csv others → AnswersFile (by_statement second sql) others before after
    → (text : List ℕ) × Appends old new text × Appends before after text
took_alike layout other schema csv bytes others sql program old new second before after load file also more =
    let a = took_as_direct layout schema csv bytes sql program old new load file in
    let b = took_as_direct other schema csv others sql second before after also more in
    (a.text, a.took, subst (λ (text : List ℕ). Appends before after text) (a.only b.text b.may) b.took)

-- a CSV text over which a query has an answer spells rows
rows_spelled : (columns : List Column) (query : Query) (text answer : List ℕ) (spelled : Result Rows Fault) → rows_of columns text ≡ spelled
    → (spelled >>= λ rows. Ok (csv_text (meaning (names_of columns) query rows))) ≡ Ok answer → (rows : Rows) × (rows_of columns text ≡ Ok rows)
rows_spelled columns query text answer (Ok rows) spelled given = (rows, spelled)
rows_spelled columns query text answer (Err fault) spelled given = absurd (cc given)

-- if a query has an answer over a CSV that came, a load has a file for it
answerable_under : (layout : Layout) (came csv : Arrival) (sql answer : List ℕ) (given : Result (List ℕ) Fault)
    (schema other : Schema) (query : Query) → IsSchemaFrom came (Ok schema) → schema_shape other ≡ schema_shape schema → IsReadAs other sql (Ok query)
    → IsMadeOf (answer_of other.columns.items query) csv (Ok answer) → IsMadeOf (file_of layout schema) csv given → IsAnswerable layout sql given
answerable_under layout came csv sql answer given schema other query from shape read is made =
    let csv_came = csv_text_of csv (answer_of other.columns.items query) answer is in
    let text = csv_came.text in
    let found = rows_spelled other.columns.items query text answer (rows_of other.columns.items text) refl csv_came.given in
    let spelled : rows_of schema.columns.items text ≡ Ok found.0 = ap (λ (cs : List Column). rows_of cs text) (sym (columns_too other schema shape)) ∙ found.1 in
    let bytes = file_bytes layout schema found.0 in
    let of : Loaded layout schema text bytes = record { rows = found.0; spelled = spelled; text = refl } in
    let whole : file_of layout schema text ≡ Ok bytes = ap (λ (spelled : Result Rows Fault). spelled >>= λ rows. Ok (file_bytes layout schema rows)) spelled in
    record {
      bytes = bytes;
      is = given_from (file_of layout schema) csv text given csv_came.came made ∙ whole;
      schema = schema;
      rows = found.0;
      file = loaded_text layout schema text bytes (sound_from came schema from) of;
      query = query;
      asked = spells_too other schema sql (query_shape query) shape read;
    }

answerable_read : (layout : Layout) (came csv : Arrival) (sql answer : List ℕ) (given : Result (List ℕ) Fault)
    (schema other : Schema) (reading : Result Query Fault) → IsSchemaFrom came (Ok schema) → schema_shape other ≡ schema_shape schema → IsReadAs other sql reading
    → IsMadeAfter reading (answer_of other.columns.items) csv (Ok answer) → IsMadeOf (file_of layout schema) csv given → IsAnswerable layout sql given
answerable_read layout came csv sql answer given schema other (Ok query) from shape read is made =
    answerable_under layout came csv sql answer given schema other query from shape read is made
answerable_read layout came csv sql answer given schema other (Err fault) from shape read is made = absurd (cc (is.1))

answerable_by : (layout : Layout) (came csv : Arrival) (sql answer : List ℕ) (given : Result (List ℕ) Fault)
    (reading second : Result Schema Fault) → IsSchemaFrom came reading → IsSchemaFrom came second → IsAnswerUnder reading sql csv (Ok answer)
    → IsMadeAfter second (file_of layout) csv given → IsAnswerable layout sql given
answerable_by layout came csv sql answer given (Ok other) (Ok schema) a b is made =
    let same = one_schema came (Ok other) (Ok schema) a b in
    let shape : schema_shape other ≡ schema_shape schema = cc same in
    answerable_read layout came csv sql answer given schema other is.0 b shape is.1 is.2 made
answerable_by layout came csv sql answer given (Ok other) (Err fault) a b is made = absurd (cc (one_schema came (Ok other) (Err fault) a b))
answerable_by layout came csv sql answer given (Err fault) second a b is made = absurd (cc (is.1))

pub answerable : (layout : Layout) (schema csv : Arrival) (sql answer : List ℕ) (given : Result (List ℕ) Fault)
    → IsAnswer schema sql csv (Ok answer) → IsFile layout schema csv given → IsAnswerable layout sql given
answerable layout schema csv sql answer given is file =
    answerable_by layout schema csv sql answer given is.0 file.0 is.1 file.1 is.2 file.2
