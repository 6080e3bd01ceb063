-- Answers over the table file that a load wrote, compared with answers straight from the CSV text.
use Rattle.std.specs.Prelude.{◌≡◌, ℕ, List, Option, Result, Ok}
use Rattle.std.specs.Io.KnownBytes.{Appends}
use Rattle.bw_model.specs.declared.fault.Fault.{Fault}
use Rattle.bw_model.specs.declared.query.Query.{Query}
use Rattle.bw_model.specs.declared.schema.Schema.{Schema}
use Rattle.bw_model.specs.Limits.{longest_schema, longest_csv}
use Rattle.bw_model.specs.Row.{Value}
use Rattle.bw_io.specs.Source.{Arrival}
use Rattle.bw_file.specs.declared.layout.Layout.{Layout}
use Rattle.bw_file.specs.FileBytes.{IsFileBytes}
use Rattle.bw_sql.specs.Statement.{IsReadAs}
use Rattle.bw_csv_calls.specs.Direct.{IsAnswer}
use Rattle.bw_csv_calls.specs.Load.{IsFile}
use Rattle.bw_laws.specs.OneAnswer.{IsArrivalOf, DirectMayWrite}

-- over sources of this schema text and of this CSV text, `load` may write these bytes
pub record LoadMayWrite (layout : Layout) (schema csv bytes : List ℕ) : Type 0 where
  pub schema_came : Arrival
  pub csv_came : Arrival
  pub schema_source : IsArrivalOf longest_schema schema schema_came
  pub csv_source : IsArrivalOf longest_csv csv csv_came
  pub is : IsFile layout schema_came csv_came (Ok bytes)

-- a sink received the text of the one answer that follows from what was read of the schema's source
-- and of the CSV's
pub record HasConsumedAnswer (schema csv : Arrival) (sql : List ℕ)
    (old new : Option (List ℕ)) : Type 0 where
  pub text : List ℕ
  pub is : IsAnswer schema sql csv (Ok text)
  pub only : (given : Result (List ℕ) Fault) → IsAnswer schema sql csv given → given ≡ Ok text
  pub took : Appends old new text

-- a sink received the one text that `direct` may write over sources of this schema text and of this
-- CSV text
pub record HasConsumedAsDirect (schema csv sql : List ℕ) (old new : Option (List ℕ)) : Type 0 where
  pub text : List ℕ
  pub may : DirectMayWrite schema csv sql text
  pub only : (other : List ℕ) → DirectMayWrite schema csv sql other → other ≡ text
  pub took : Appends old new text

-- a load yields the file of a table under whose schema the statement spells a query
pub record IsAnswerable (layout : Layout) (sql : List ℕ) (given : Result (List ℕ) Fault) : Type
    0 where
  pub bytes : List ℕ
  pub is : given ≡ Ok bytes
  pub schema : Schema
  pub rows : List (List Value)
  pub file : IsFileBytes bytes layout schema rows
  pub query : Query
  pub asked : IsReadAs schema sql (Ok query)
