-- Where a call over a file by columns ends: at the header, at the query, at a column, or when the
-- text is written.
use Rattle.std.proofs.Common.{◌≡◌, ◌∙◌, refl, sym, ap, subst, ℕ, ◌<◌, Bool, true, false, ◌||◌, List, map, length, get_or, Option, Some, None, Result, Ok, Err, inl, inr, arith}
use Rattle.std.specs.Prelude.{IfSome, slice_index_or}
use Rattle.std.specs.List.{range_with_len}
use Rattle.std.proofs.lemmas.List.FromFn.{get_or-map-range_with_len}
use Rattle.bw_model.specs.declared.column.Column.{Column}
use Rattle.bw_model.specs.declared.cond.Cond.{Cond}
use Rattle.bw_model.specs.declared.fault.Fault.{Fault}
use Rattle.bw_model.specs.declared.query.Query.{Query}
use Rattle.bw_model.specs.declared.schema.Schema.{Schema}
use Rattle.bw_model.specs.Column.{names_of}
use Rattle.bw_model.specs.Fault.{is_memory}
use Rattle.bw_answer.specs.Answer.{csv_text, meaning}
use Rattle.bw_io.specs.Source.{is_input_fault, is_read_fault}
use Rattle.bw_program.specs.Program.{ProgramShape}
use Rattle.bw_memory.specs.declared.columnar.ColumnarTable.{ColumnarTable}
use Rattle.bw_memory.specs.Columnar.{HasColumns, HasDamage, IsOpened, IsOpenFault, SameHeader, column_count, is_wanted, table_in}
use Rattle.bw_memory.specs.MemoryTable.{groups_in, rows_of, schema_of}
use Rattle.bw_memory.proofs.ReadColumnsLemmas.{opened_same}
use Rattle.bw_query.specs.ColumnarAnswer.{ColumnarText, IsAsked, IsColumnarAnswer, IsUsed}
use Rattle.bw_query.specs.NamedColumns.{is_read}
use Rattle.bw_query.specs.Scan.{IsChosen, program_of}
use Rattle.bw_query.specs.Segments.{IsTextOf}
use Rattle.bw_query.specs.declared.scan.Scan.{Scan}
use Rattle.bw_query.specs.declared.scan.Scan.TheVariants.{Program, Rows}
use Rattle.bw_query.specs.declared.served.Scanned.{Scanned}
use Rattle.bw_query.proofs.MemoryExits.{TextOfTable, text_is}

-- an error that is no failed read isn't out of memory either
no_memory_of : (fault : Fault) → is_input_fault fault ≡ false → is_memory fault ≡ false
no_memory_of fault own = by_memory (is_memory fault) refl
  where
    by_memory : (b : Bool) → is_memory fault ≡ b → is_memory fault ≡ false
    by_memory true e = absurd (cc (rw e at own))
    by_memory false e = e

-- the columns that are wanted are those that are read
pub wanted_is : (read : ℕ → Bool) (wanted : List Bool) (count : ℕ) → wanted ≡ map read (range_with_len 0 count) → (column : ℕ) → column < count → is_wanted wanted column ≡ read column
wanted_is read wanted count is column lt = ap (λ (l : List Bool). get_or l column false) is ∙ get_or-map-range_with_len read 0 count column column false lt (omega arith)

-- the scan that was chosen is by a program that may be used
used_of : (file : Option (List ℕ)) (columns : List Column) (cond : Cond) (scan : Scan) → IsChosen file columns cond scan → IsUsed file columns cond (program_of scan)
used_of (Some file) columns cond (Program certified) chosen = chosen
used_of (Some file) columns cond Rows chosen = chosen
used_of None columns cond (Program certified) chosen = chosen
used_of None columns cond Rows chosen = chosen

module _ (asks : Schema → Result Query Fault → Type 0) (file known : Option (List ℕ)) where
  pub memory_exit : (fault : Fault) → is_memory fault ≡ true → IsColumnarAnswer asks file known (Err fault)
  memory_exit fault memory = λ own. absurd (let e : true ≡ false = sym memory ∙ no_memory_of fault own in cc e)

  pub rejected_exit : (columnar : ColumnarTable) (fault : Fault) → IsOpened known columnar → (is_memory fault ≡ false → asks (schema_of (table_in columnar)) (Err fault))
      → IsColumnarAnswer asks file known (Err fault)
  rejected_exit columnar fault opened asked = λ own. inr (inl (record { columnar = columnar; opened = opened; asked = asked (no_memory_of fault own) }))

  -- a query was accepted for the table as it was opened, and so it is for the table of which columns
  -- were read
  module _ (old new : ColumnarTable) (query : Query) (scan : Scan) (same : SameHeader old new) (opened : IsOpened known old) (asked : asks (schema_of (table_in old)) (Ok query))
      (chosen : IsChosen file (schema_of (table_in old)).columns.items query.cond scan) where
    pub asked_of : IsAsked asks file known new query (program_of scan)
    asked_of = record {
      opened = opened_same known old new same opened;
      asked = subst (λ (schema : Schema). asks schema (Ok query)) (sym same.schema) asked;
      used = subst (λ (schema : Schema). IsUsed file schema.columns.items query.cond (program_of scan)) (sym same.schema) (used_of file (schema_of (table_in old)).columns.items query.cond scan chosen);
    }

    pub damage_exit : (fault : Fault) → (is_input_fault fault ≡ false → HasDamage known (is_read (program_of scan) query) new fault) → IsColumnarAnswer asks file known (Err fault)
    damage_exit fault damage = λ own. inr (inr (record { columnar = new; query = query; program = program_of scan; asked = asked_of; damage = damage own }))

    abbrev pub text_found : (text : List ℕ) (scanned : Scanned) → HasColumns known new (is_read (program_of scan) query) (column_count new) → TextOfTable (table_in new) query scan text scanned
        → ColumnarText asks file known text
    text_found text scanned columns over =
        record { columnar = new; query = query; program = program_of scan; asked = asked_of; columns = columns; is = text_is (table_in new) query scan text scanned over }
