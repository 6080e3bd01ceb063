-- Over two files of one table a statement has one answer.
use Rattle.std.proofs.Common.{◌≡◌, ℕ, List, Option, sym, ap, subst}
use Rattle.std.specs.Io.KnownBytes.{Appends}
use Rattle.bw_model.specs.declared.query.Query.{Query}
use Rattle.bw_model.specs.declared.schema.Schema.{Schema}
use Rattle.bw_model.specs.Column.{names_of}
use Rattle.bw_model.specs.Row.{Value}
use Rattle.bw_sql.specs.QueryShape.{query_shape}
use Rattle.bw_sql.specs.Statement.{Spells}
use Rattle.bw_sql.proofs.SameNames.{columns_too, spells_too}
use Rattle.bw_sql.proofs.Texts.{text_query}
use Rattle.bw_answer.specs.Answer.{csv_text, meaning}
use Rattle.bw_file.specs.declared.layout.Layout.{Layout}
use Rattle.bw_file.specs.FileBytes.{IsFileBytes}
use Rattle.bw_file.specs.TableReading.{Found}
use Rattle.bw_file.proofs.SpelledFile.{of_one_table}
use Rattle.bw_query.specs.TableAnswer.{AnswersFile, by_statement}
use Rattle.bw_laws.proofs.OneMeaningLemmas.{one_meaning}

-- a sink took the meaning over these rows of a query that the statement spells under this schema
pub record TookMeaning (schema : Schema) (rows : List (List Value)) (sql : List ℕ) (old new : Option (List ℕ)) : Type 0 where
  pub query : Query
  pub spelled : Spells schema sql (query_shape query)
  pub took : Appends old new (csv_text (meaning (names_of schema.columns.items) query rows))

pub took_meaning : (layout : Layout) (schema : Schema) (rows : List (List Value)) (bytes sql : List ℕ) (program old new : Option (List ℕ))
    → IsFileBytes bytes layout schema rows → AnswersFile (by_statement program sql) bytes old new → TookMeaning schema rows sql old new
took_meaning layout schema rows bytes sql program old new is file =
    let same = of_one_table bytes layout file.layout schema file.schema rows file.rows is file.file in
    let shape = sym (ap (λ (found : Found). found.schema) same) in
    let rows_same : file.rows ≡ rows = sym (ap (λ (found : Found). found.rows) same) in
    let columns = columns_too file.schema schema shape in
    record {
      query = file.query;
      spelled = spells_too file.schema schema sql (query_shape file.query) shape file.asked.0;
      took = rw (rows_same, columns) at file.text;
    }

pub one_answer : (layout other : Layout) (schema : Schema) (rows : List (List Value)) (bytes others sql : List ℕ)
    (program old new second before after : Option (List ℕ)) → IsFileBytes bytes layout schema rows → AnswersFile (by_statement program sql) bytes old new
    → IsFileBytes others other schema rows → AnswersFile (by_statement second sql) others before after
    → (text : List ℕ) × Appends old new text × Appends before after text
one_answer layout other schema rows bytes others sql program old new second before after is file also more =
    let a = took_meaning layout schema rows bytes sql program old new is file in
    let b = took_meaning other schema rows others sql second before after also more in
    let names = names_of schema.columns.items in
    let same = one_meaning names b.query a.query rows (text_query schema sql (query_shape b.query) (query_shape a.query) b.spelled a.spelled) in
    (csv_text (meaning names a.query rows), a.took, subst (λ (records : List (List (List ℕ))). Appends before after (csv_text records)) same b.took)
