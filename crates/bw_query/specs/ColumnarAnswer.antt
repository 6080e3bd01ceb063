-- The expected result of a query over a file by columns.
use Rattle.std.specs.Prelude.{◌≡◌, ◌⊎◌, ℕ, false, List, Option, Some, None}
use Rattle.std.specs.Prelude.{Result, Ok, Err}
use Rattle.bw_model.specs.declared.column.Column.{Column}
use Rattle.bw_model.specs.declared.cond.Cond.{Cond}
use Rattle.bw_model.specs.declared.fault.Fault.{Fault}
use Rattle.bw_model.specs.declared.query.Query.{Query}
use Rattle.bw_model.specs.declared.schema.Schema.{Schema}
use Rattle.bw_model.specs.Column.{names_of}
use Rattle.bw_io.specs.Source.{is_input_fault}
use Rattle.bw_answer.specs.Answer.{csv_text, meaning}
use Rattle.bw_program.specs.Program.{ProgramShape}
use Rattle.bw_cert_text.specs.CertificateShape.{CertificateShape}
use Rattle.bw_cert.specs.Valid.{Valid}
use Rattle.bw_cert.specs.FileVerdict.{Certifies}
use Rattle.bw_memory.specs.declared.columnar.ColumnarTable.{ColumnarTable}
use Rattle.bw_memory.specs.Columnar.{HasColumns, HasDamage, IsOpened, IsOpenFault, column_count}
use Rattle.bw_memory.specs.Columnar.{table_in}
use Rattle.bw_memory.specs.MemoryTable.{rows_of, schema_of}
use Rattle.bw_query.specs.NamedColumns.{is_read}

-- With a program file its program is used. Else some program that with some certificate is valid, or
-- none.
abbrev pub IsUsed : Option (List ℕ) → List Column → Cond → Option ProgramShape → Type 0
IsUsed (Some file) columns cond (Some program) = (certificate : CertificateShape)
    × Certifies columns cond file program certificate
IsUsed (Some file) columns cond None = ⊥
IsUsed None columns cond (Some program) = (certificate : CertificateShape)
    × Valid columns cond program certificate
IsUsed None columns cond None = Unit {0}

-- A file by columns was opened, and a query asked of it. A program, or none, scans for it.
pub record IsAsked (asks : Schema → Result Query Fault → Type 0) (file known : Option (List ℕ))
    (columnar : ColumnarTable) (query : Query) (program : Option ProgramShape) : Type 0 where
  pub opened : IsOpened known columnar
  pub asked : asks (schema_of (table_in columnar)) (Ok query)
  pub used : IsUsed file (schema_of (table_in columnar)).columns.items query.cond program

-- The columns that the query or its program names were read. The text is that of the query's meaning
-- over the rows of the table, in which each other column has its minimum.
pub record ColumnarText (asks : Schema → Result Query Fault → Type 0)
    (file known : Option (List ℕ)) (text : List ℕ) : Type 0 where
  pub columnar : ColumnarTable
  pub query : Query
  pub program : Option ProgramShape
  pub asked : IsAsked asks file known columnar query program
  pub columns : HasColumns known columnar (is_read program query) (column_count columnar)
  pub is : text ≡ csv_text (meaning (names_of (schema_of (table_in columnar)).columns.items) query
      (rows_of (table_in columnar)))

-- the file was opened, and the query rejected
pub record IsRejected (asks : Schema → Result Query Fault → Type 0) (known : Option (List ℕ))
    (fault : Fault) : Type 0 where
  pub columnar : ColumnarTable
  pub opened : IsOpened known columnar
  pub asked : asks (schema_of (table_in columnar)) (Err fault)

-- the query was accepted, and a column that it or its program names has an error
pub record HasDamagedColumn (asks : Schema → Result Query Fault → Type 0)
    (file known : Option (List ℕ)) (fault : Fault) : Type 0 where
  pub columnar : ColumnarTable
  pub query : Query
  pub program : Option ProgramShape
  pub asked : IsAsked asks file known columnar query program
  pub damage : HasDamage known (is_read program query) columnar fault

-- The text of the query's meaning over the columns that it names, or the first error in the order of
-- the header and the file's length, the query, and these columns, each completely. A failed read or
-- out of memory may be the error at any time.
abbrev pub IsColumnarAnswer : (Schema → Result Query Fault → Type 0) → Option (List ℕ)
    → Option (List ℕ) → Result (List ℕ) Fault → Type 0
IsColumnarAnswer asks file known (Ok text) = ColumnarText asks file known text
IsColumnarAnswer asks file known (Err fault) = is_input_fault fault ≡ false
    → IsOpenFault known fault ⊎ IsRejected asks known fault ⊎ HasDamagedColumn asks file known fault
