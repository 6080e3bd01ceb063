-- What selects the rows of a query, and how many planes it loads and instructions it skips.
use Rattle.std.specs.Prelude.{◌≡◌, ℕ, List, Option, Some, None, option_map, Result, Ok, Err}
use Rattle.std.specs.Prelude.{if◌then◌else◌}
use Rattle.std.specs.Borrow.{Bor}
use Rattle.bw_model.specs.declared.column.Column.{Column}
use Rattle.bw_model.specs.declared.cond.Cond.{Cond}
use Rattle.bw_model.specs.declared.fault.Fault.{Fault}
use Rattle.bw_model.specs.CondTree.{tree_of}
use Rattle.bw_model.specs.Fault.{is_memory}
use Rattle.bw_model.specs.Groups.{lanes_of}
use Rattle.bw_model.specs.Row.{Value}
use Rattle.bw_program.specs.Machine.{State, end_state}
use Rattle.bw_program.specs.Program.{ProgramShape}
use Rattle.bw_cert_text.specs.CertificateShape.{CertificateShape}
use Rattle.bw_cert.specs.declared.certified.Certified.{Certified}
use Rattle.bw_cert.specs.Valid.{Valid}
use Rattle.bw_cert.specs.FileVerdict.{Certifies, IsFileFault}
use Rattle.bw_query.specs.declared.scan.Scan.{Scan}
use Rattle.bw_query.specs.declared.scan.Scan.TheVariants.{Program, Rows}

-- a scan program is certified for these columns and for a condition of the same tree
abbrev pub IsFor : List Column → Cond → Scan → Type 0
IsFor columns cond (Program certified) = (certified.schema.columns.items ≡ columns)
    × (tree_of certified.condition ≡ tree_of cond)
IsFor columns cond Rows = Unit {0}

-- the program of a scan: none for the fallback
abbrev pub program_of : Scan → Option ProgramShape
program_of (Program certified) = Some certified.program
program_of Rows = None

-- With a program file its program is used. Else it's some program that with some certificate is
-- valid, or none.
abbrev pub IsChosen : Option (List ℕ) → List Column → Cond → Scan → Type 0
IsChosen (Some file) columns cond (Program certified) = (certificate : CertificateShape)
    × Certifies columns cond file certified.program certificate
IsChosen (Some file) columns cond Rows = ⊥
IsChosen None columns cond (Program certified) = (certificate : CertificateShape)
    × Valid columns cond certified.program certificate
IsChosen None columns cond Rows = Unit {0}

-- The scan by the result of a search for a program: by the program, if one was found; else by the
-- fallback. Out of memory is no scan.
abbrev pub scan_by : Result Certified Fault → Result Scan Fault
scan_by (Ok certified) = Ok (Program certified)
scan_by (Err fault) = if is_memory fault then Err fault else Ok Rows

-- the bytes of a program file, if one is given
abbrev pub given_file : Option (Bor (List ℕ)) → Option (List ℕ)
given_file program = option_map (λ file. file.now) program

-- a program file, if there is one, is accepted
abbrev pub IsUsable : Option (List ℕ) → List Column → Cond → Type 0
IsUsable (Some file) columns cond = (program : ProgramShape) × (certificate : CertificateShape)
    × Certifies columns cond file program certificate
IsUsable None columns cond = Unit {0}

-- only a program file has an error
abbrev pub IsScanFault : Option (List ℕ) → List Column → Cond → Fault → Type 0
IsScanFault (Some file) columns cond fault = IsFileFault columns cond file fault
IsScanFault None columns cond fault = ⊥

-- the machine's state at the end of a program's run over a group of rows
abbrev pub run_over : ProgramShape → List Column → List (List Value) → State
run_over program columns group = end_state columns (lanes_of columns group) program

-- the loads of a scan over a group of rows: 0 for the fallback
abbrev pub loads_in : List Column → Scan → List (List Value) → ℕ
loads_in columns (Program certified) group = (run_over certified.program columns group).loads
loads_in columns Rows group = 0

abbrev pub skips_in : List Column → Scan → List (List Value) → ℕ
skips_in columns (Program certified) group = (run_over certified.program columns group).skips
skips_in columns Rows group = 0
