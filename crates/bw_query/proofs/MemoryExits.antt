-- The text over a table in memory, and the scan of its segments.
use Rattle.std.proofs.Common.{◌≡◌, ◌∙◌, true, false, ℕ, List, Ok, Err, ap, subst, sym}
use Rattle.std.specs.Prelude.{Result}
use Rattle.bw_model.specs.declared.fault.Fault.{Fault}
use Rattle.bw_model.specs.declared.query.Query.{Query}
use Rattle.bw_model.specs.declared.schema.Schema.{Schema}
use Rattle.bw_model.specs.Column.{names_of}
use Rattle.bw_model.specs.Fault.{is_memory}
use Rattle.bw_model.specs.Groups.{groups_of, together}
use Rattle.bw_model.specs.Row.{Value}
use Rattle.bw_answer.specs.Answer.{csv_text, meaning}
use Rattle.bw_memory.specs.MemoryTable.{groups_in, rows_of, schema_of}
use Rattle.bw_memory.specs.declared.table.MemoryTable.{MemoryTable}
use Rattle.bw_query.specs.MemoryAnswer.{IsMemoryAnswer, RowsText}
use Rattle.bw_query.specs.Segments.{IsScanOf, IsTextOf}
use Rattle.bw_query.specs.declared.scan.Scan.{Scan}
use Rattle.bw_query.specs.declared.served.Scanned.{Scanned}

-- the text of a query over a table, and what was scanned for it
abbrev pub TextOfTable : MemoryTable → Query → Scan → List ℕ → Scanned → Type 0
TextOfTable table query scan text scanned = IsTextOf (schema_of table).columns.items query scan (λ groups. groups ≡ groups_in table) text scanned

pub text_is : (table : MemoryTable) (query : Query) (scan : Scan) (text : List ℕ) (scanned : Scanned) → TextOfTable table query scan text scanned
    → text ≡ csv_text (meaning (names_of (schema_of table).columns.items) query (rows_of table))
text_is table query scan text scanned over =
    let T : List (List (List Value)) → List ℕ = λ groups. csv_text (meaning (names_of (schema_of table).columns.items) query (together groups)) in
    over.is ∙ ap T over.all

pub rows_text : (table : MemoryTable) (asks : Schema → Result Query Fault → Type 0) (query : Query) (scan : Scan) (text : List ℕ) (scanned : Scanned)
    → asks (schema_of table) (Ok query) → TextOfTable table query scan text scanned → RowsText asks (schema_of table) (rows_of table) text
rows_text table asks query scan text scanned asked over = record { query = query; asked = asked; is = text_is table query scan text scanned over }

-- out of memory is an error at any time
pub any_memory : (table : MemoryTable) (asks : Schema → Result Query Fault → Type 0) (fault : Fault) → is_memory fault ≡ true
    → IsMemoryAnswer asks (schema_of table) (rows_of table) (Err fault)
any_memory table asks fault memory = λ other. absurd (no_both other)
  where
    no_both : is_memory fault ≡ false → ⊥
    no_both other = let e : true ≡ false = sym memory ∙ other in cc e

pub scan_counts : (table : MemoryTable) (query : Query) (scan : Scan) (text : List ℕ) (scanned : Scanned)
    → TextOfTable table query scan text scanned → IsScanOf (schema_of table).columns.items scan (groups_of (rows_of table)) scanned
scan_counts table query scan text scanned over =
    let S : List (List (List Value)) → Type 0 = λ groups. IsScanOf (schema_of table).columns.items scan groups scanned in
    subst S table.cut (subst S over.all over.counts)
