-- A schema text and a CSV text have one table file in each layout.
use Rattle.std.proofs.Common.{◌≡◌, ℕ, List, Result, Ok, Err, ap, ap₂, subst}
use Rattle.bw_model.specs.declared.column.Column.{Column}
use Rattle.bw_model.specs.declared.fault.Fault.{Fault}
use Rattle.bw_model.specs.declared.schema.Schema.{Schema}
use Rattle.bw_model.specs.Fault.{◌>>=◌}
use Rattle.bw_model.specs.SchemaText.{SchemaShape, schema_shape}
use Rattle.bw_io.specs.Source.{Arrival, Whole}
use Rattle.bw_sql.proofs.SameNames.{columns_too}
use Rattle.bw_csv.specs.Input.{IsMadeAfter}
use Rattle.bw_csv.specs.Rows.{rows_of}
use Rattle.bw_file.specs.declared.layout.Layout.{Layout}
use Rattle.bw_file.specs.FileBytes.{bytes_of_version, version_for}
use Rattle.bw_csv_calls.specs.ReadInputs.{IsSchemaFrom}
use Rattle.bw_csv_calls.specs.Load.{IsFile, file_of}
use Rattle.bw_laws.specs.AsDirect.{LoadMayWrite}
use Rattle.bw_laws.specs.OneAnswer.{IsArrivalOf}
use Rattle.bw_laws.proofs.ArrivedLemmas.{Arrived, came_whole_after, schema_came_whole}
use Rattle.bw_laws.proofs.OneAnswerLemmas.{after_alike, one_schema}

-- the file of a CSV text is the same under schemas of one shape
pub file_alike : (layout : Layout) (s t : Schema) (text : List ℕ) → schema_shape s ≡ schema_shape t → file_of layout s text ≡ file_of layout t text
file_alike layout s t text shape =
    ap₂ (λ (name : List ℕ) (cs : List Column). rows_of cs text >>= λ rows. Ok (bytes_of_version (version_for cs) layout name cs rows))
    (ap (λ (h : SchemaShape). h.name) shape) (columns_too s t shape)

pub one_file : (layout : Layout) (schema csv : Arrival) (given other : Result (List ℕ) Fault) → IsFile layout schema csv given → IsFile layout schema csv other → given ≡ other
one_file layout schema csv given other a b =
    after_alike schema_shape (file_of layout) (file_of layout) a.0 b.0 csv given other (file_alike layout) (one_schema schema a.0 b.0 a.1 b.1) a.2 b.2

-- if a load wrote bytes, both texts were read completely
arrived_under : (schema csv bytes : List ℕ) (limit most : ℕ) (came csv_came : Arrival) → IsArrivalOf limit schema came → IsArrivalOf most csv csv_came
    → (layout : Layout) (reading : Result Schema Fault) → IsSchemaFrom came reading → IsMadeAfter reading (file_of layout) csv_came (Ok bytes) → Arrived schema csv came csv_came
arrived_under schema csv bytes limit most came csv_came source csv_source layout (Ok under) from is = record {
  schema_whole = schema_came_whole limit schema came under source from;
  csv_whole = came_whole_after most csv bytes csv_came (Ok under) (file_of layout) csv_source is;
}
arrived_under schema csv bytes limit most came csv_came source csv_source layout (Err fault) from is = absurd (cc (is.1))

file_of_texts : (layout : Layout) (schema csv bytes : List ℕ) → LoadMayWrite layout schema csv bytes → IsFile layout (Whole schema) (Whole csv) (Ok bytes)
file_of_texts layout schema csv bytes may =
    let whole = arrived_under schema csv bytes _ _ may.schema_came may.csv_came may.schema_source may.csv_source layout may.is.0 may.is.1 may.is.2 in
    subst (λ (came : Arrival). IsFile layout came (Whole csv) (Ok bytes)) whole.schema_whole
    (subst (λ (came : Arrival). IsFile layout may.schema_came came (Ok bytes)) whole.csv_whole may.is)

pub one_text : (layout : Layout) (schema csv bytes other : List ℕ) → LoadMayWrite layout schema csv bytes → LoadMayWrite layout schema csv other → bytes ≡ other
one_text layout schema csv bytes other a b =
    let same = one_file layout (Whole schema) (Whole csv) (Ok bytes) (Ok other) (file_of_texts layout schema csv bytes a) (file_of_texts layout schema csv other b) in
    cc same
