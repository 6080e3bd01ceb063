-- Who finds a query's rows, and what is reported of that.
use Rattle.std.proofs.Common.{◌≡◌, ◌∙◌, ℕ, Bool, true, false, List, [], ◌∷◌, Option, Some, None}
use Rattle.std.proofs.Common.{inl, inr, refl}
use Rattle.std.specs.List.{sum_by}
use Rattle.bw_model.specs.declared.column.Column.{Column}
use Rattle.bw_model.specs.declared.cond.Cond.{Cond}
use Rattle.bw_model.specs.declared.fault.Fault.{Fault}
use Rattle.bw_model.specs.declared.query.Query.{Query}
use Rattle.bw_model.specs.declared.schema.Schema.{Schema}
use Rattle.bw_model.specs.Fault.{is_memory}
use Rattle.bw_model.specs.Groups.{groups_of}
use Rattle.bw_model.specs.Row.{Value}
use Rattle.bw_query.specs.declared.scan.Scan.{Scan}
use Rattle.bw_query.specs.declared.scan.Scan.TheVariants.{Program, Rows}
use Rattle.bw_query.specs.declared.served.Scanned.{Scanned}
use Rattle.bw_query.specs.Scan.{IsChosen, IsUsable, loads_in, skips_in}
use Rattle.bw_query.specs.Served.{IsServed, report_of}
use Rattle.bw_query.specs.Segments.{IsScanOf}

-- a program file whose program is used is accepted
pub usable : (file : Option (List ℕ)) (columns : List Column) (cond : Cond) (scan : Scan) → IsChosen file columns cond scan → IsUsable file columns cond
usable (Some file) columns cond (Program certified) chosen = (certified.program, chosen.0, chosen.1)
usable (Some file) columns cond Rows chosen = absurd chosen
usable None columns cond scan chosen = tt

-- no load and no skip by the fallback
no_loads : (columns : List Column) (groups : List (List (List Value))) → sum_by (loads_in columns Rows) groups ≡ 0
no_loads columns [] = refl
no_loads columns (group ∷ groups) = no_loads columns groups

no_skips : (columns : List Column) (groups : List (List (List Value))) → sum_by (skips_in columns Rows) groups ≡ 0
no_skips columns [] = refl
no_skips columns (group ∷ groups) = no_skips columns groups

-- what is reported of a scan over groups of rows
abbrev pub served : Option (List ℕ) → Scan → Scanned → Schema → Query → List (List Value) → Type 0
served file scan scanned schema query rows = IsServed file schema query (groups_of rows) (report_of scan scanned)

pub serves : (file : Option (List ℕ)) (schema : Schema) (query : Query) (groups : List (List (List Value))) (scan : Scan) (scanned : Scanned)
    → IsChosen file schema.columns.items query.cond scan → IsScanOf schema.columns.items scan groups scanned
    → IsServed file schema query groups (report_of scan scanned)
serves (Some file) schema query groups (Program certified) scanned chosen counts = record {
  segments = counts.segments;
  how = (certified.program, chosen.0, chosen.1, record { by = refl; loads = counts.loads; skips = counts.skips });
}
serves (Some file) schema query groups Rows scanned chosen counts = absurd chosen
serves None schema query groups (Program certified) scanned chosen counts = record {
  segments = counts.segments;
  how = inl (certified.program, chosen.0, chosen.1, record { by = refl; loads = counts.loads; skips = counts.skips });
}
serves None schema query groups Rows scanned chosen counts = record {
  segments = counts.segments;
  how = inr (record {
    by = refl;
    loads = counts.loads ∙ no_loads schema.columns.items groups;
    skips = counts.skips ∙ no_skips schema.columns.items groups;
  });
}

-- an error that can't be another one is out of memory
pub only_memory : (fault : Fault) → (is_memory fault ≡ false → ⊥) → is_memory fault ≡ true
only_memory fault other = by_case (is_memory fault) refl
  where
    by_case : (b : Bool) → is_memory fault ≡ b → is_memory fault ≡ true
    by_case true e = e
    by_case false e = absurd (other e)
