-- How a query over groups of a table's rows is served: its scan statistics.
use Rattle.std.specs.Prelude.{◌≡◌, ◌⊎◌, ℕ, List, Option, Some, None, length}
use Rattle.std.specs.List.{sum_by}
use Rattle.bw_model.specs.declared.column.Column.{Column}
use Rattle.bw_model.specs.declared.cond.Cond.{Cond}
use Rattle.bw_model.specs.declared.query.Query.{Query}
use Rattle.bw_model.specs.declared.schema.Schema.{Schema}
use Rattle.bw_model.specs.Row.{Value}
use Rattle.bw_program.specs.Program.{ProgramShape}
use Rattle.bw_cert_text.specs.CertificateShape.{CertificateShape}
use Rattle.bw_cert.specs.Valid.{Valid}
use Rattle.bw_cert.specs.FileVerdict.{Certifies}
use Rattle.bw_query.specs.declared.scan.Scan.{Scan}
use Rattle.bw_query.specs.declared.scan.Scan.TheVariants.{Program, Rows}
use Rattle.bw_report.specs.declared.served.By.{By}
use Rattle.bw_report.specs.declared.served.Served.{Served}
use Rattle.bw_query.specs.declared.served.Scanned.{Scanned}
use Rattle.bw_query.specs.Scan.{run_over}

-- by a program: the loads and skips are the sums of the machine's counts over the groups
pub record ByProgram (program : ProgramShape) (columns : List Column)
    (groups : List (List (List Value))) (served : Served) : Type 0 where
  pub by : served.by ≡ By.Program
  pub loads : served.loads ≡ sum_by (λ group. (run_over program columns group).loads) groups
  pub skips : served.skips ≡ sum_by (λ group. (run_over program columns group).skips) groups

-- by the fallback: no load and no skip
pub record ByRows (served : Served) : Type 0 where
  pub by : served.by ≡ By.Rows
  pub loads : served.loads ≡ 0
  pub skips : served.skips ≡ 0

-- With a program file: by its program, whose certificate is valid for the condition. Else by some
-- program that with some certificate is valid, or by the fallback.
abbrev pub IsServedBy : Option (List ℕ) → List Column → Cond → List (List (List Value)) → Served
    → Type 0
IsServedBy (Some file) columns cond groups served =
    (program : ProgramShape) × (certificate : CertificateShape)
    × Certifies columns cond file program certificate
    × ByProgram program columns groups served
IsServedBy None columns cond groups served =
    ((program : ProgramShape) × (certificate : CertificateShape)
    × Valid columns cond program certificate
    × ByProgram program columns groups served)
    ⊎ ByRows served

-- the scan statistics of a query over groups of rows, each a segment
pub record IsServed (file : Option (List ℕ)) (schema : Schema) (query : Query)
    (groups : List (List (List Value))) (served : Served) : Type 0 where
  pub segments : served.segments ≡ length groups
  pub how : IsServedBy file schema.columns.items query.cond groups served

-- what selects the rows of a scan
abbrev pub finder_of : Scan → By
finder_of (Program certified) = By.Program
finder_of Rows = By.Rows

-- the scan statistics that are reported
abbrev pub report_of : Scan → Scanned → Served
report_of scan scanned = record {
  by = finder_of scan;
  segments = scanned.segments;
  loads = scanned.loads;
  skips = scanned.skips;
}
