-- Over a table in memory a statement has the answer that it has over its file.
use Rattle.std.proofs.Common.{◌≡◌, ◌∙◌, ◌⊎◌, ℕ, Bool, true, false, List, [], ◌++◌, Option, Some}
use Rattle.std.proofs.Common.{None, Result, Ok, Err, inl, inr, refl, sym, ap, subst}
use Rattle.std.specs.Io.KnownBytes.{Appends, Consumes}
use Rattle.bw_model.specs.declared.column.Column.{Column}
use Rattle.bw_model.specs.declared.cond.Cond.{Cond}
use Rattle.bw_model.specs.declared.fault.Fault.{Fault}
use Rattle.bw_model.specs.declared.query.Query.{Query}
use Rattle.bw_model.specs.declared.schema.Schema.{Schema}
use Rattle.bw_model.specs.Column.{names_of}
use Rattle.bw_model.specs.CondTree.{tree_of}
use Rattle.bw_model.specs.Fault.{is_memory}
use Rattle.bw_model.specs.Row.{Value}
use Rattle.bw_model.specs.SchemaText.{schema_shape}
use Rattle.bw_sql.specs.QueryShape.{QueryShape, query_shape}
use Rattle.bw_sql.specs.Statement.{IsReadAs}
use Rattle.bw_sql.proofs.SameNames.{columns_too}
use Rattle.bw_sql.proofs.Texts.{text_query}
use Rattle.bw_program.specs.Program.{ProgramShape}
use Rattle.bw_cert_text.specs.CertificateShape.{CertificateShape}
use Rattle.bw_cert.specs.FileVerdict.{Certifies, IsFileFault}
use Rattle.bw_answer.specs.Answer.{csv_text}
use Rattle.bw_file.specs.declared.layout.Layout.{Layout}
use Rattle.bw_file.specs.FileBytes.{IsFileBytes}
use Rattle.bw_io.specs.Source.{is_input_fault, source_state}
use Rattle.bw_file.specs.Reading.{State, Fails, state_at, tail}
use Rattle.bw_file.specs.TableReading.{Found, IsReadAfter, body, found_as, group_sizes, header}
use Rattle.bw_file.proofs.FileSpelling.{body_found}
use Rattle.bw_file.proofs.ReaderLemmas.{head_at, header_refused}
use Rattle.bw_file.proofs.ReaderSpelling.{no_fault}
use Rattle.bw_file.proofs.SpelledFile.{of_one_table, spelled_is_read}
use Rattle.bw_query.specs.MemoryAnswer.{RowsText}
use Rattle.bw_query.specs.Scan.{IsScanFault, IsUsable}
use Rattle.bw_query.specs.TableAnswer.{AnswersFile, HasRejectedQuery, IsHeaderOf}
use Rattle.bw_query.specs.TableAnswer.{HasFailedAtSegment}
use Rattle.bw_query.specs.TableAnswer.{IsTableResult, by_statement, is_no_verdict}
use Rattle.bw_laws.specs.OneAnswer.{query_asked_in}
use Rattle.bw_laws.proofs.OneAnswerLemmas.{one_reading}
use Rattle.bw_laws.proofs.OneMeaningLemmas.{one_meaning}
use Rattle.bw_laws.proofs.OneTableLemmas.{took_meaning}

pub one_text : (bytes sql text : List ℕ) (layout : Layout) (schema : Schema) (rows : List (List Value)) (program second old new : Option (List ℕ)) → IsFileBytes bytes layout schema rows
    → RowsText (by_statement program sql) schema rows text → AnswersFile (by_statement second sql) bytes old new → Appends old new text
one_text bytes sql text layout schema rows program second old new is told file =
    let took = took_meaning layout schema rows bytes sql second old new is file in
    let names = names_of schema.columns.items in
    let same = one_meaning names took.query told.query rows (text_query schema sql (query_shape took.query) (query_shape told.query) took.spelled told.asked.0) in
    subst (λ (those : List ℕ). Appends old new those) (ap csv_text same ∙ sym told.is) took.took

-- one file is checked in one way, for conditions of one tree
pub record OneVerdict : Type 0 where
  pub accepted : (columns : List Column) (cond same : Cond) (file : List ℕ) (program : ProgramShape) (certificate : CertificateShape) (fault : Fault)
      → tree_of cond ≡ tree_of same → Certifies columns cond file program certificate → IsFileFault columns same file fault → ⊥
  pub refused : (columns : List Column) (cond same : Cond) (file : List ℕ) (fault other : Fault) → tree_of cond ≡ tree_of same → IsFileFault columns cond file fault → IsFileFault columns same file other
      → fault ≡ other

module _ (verdict : OneVerdict) (schema other : Schema) (shape : schema_shape schema ≡ schema_shape other) (sql : List ℕ) where
  trees : (query another : Query) → query_asked_in (Ok query) ≡ query_asked_in (Ok another) → tree_of query.cond ≡ tree_of another.cond
  trees query another same =
      let one : query_shape query ≡ query_shape another = cc same in
      ap (λ (a : QueryShape). a.cond) one

  not_both : (file : Option (List ℕ)) (query another : Query) (fault : Fault) → tree_of query.cond ≡ tree_of another.cond → IsUsable file schema.columns.items query.cond
      → IsScanFault file schema.columns.items another.cond fault → ⊥
  not_both (Some file) query another fault same usable refused = verdict.accepted schema.columns.items query.cond another.cond file usable.0 usable.1 fault same usable.2 refused
  not_both None query another fault same usable refused = refused

  one_fault : (file : Option (List ℕ)) (query another : Query) (fault second : Fault) → tree_of query.cond ≡ tree_of another.cond → IsScanFault file schema.columns.items query.cond fault
      → IsScanFault file schema.columns.items another.cond second → fault ≡ second
  one_fault (Some file) query another fault second same one two = verdict.refused schema.columns.items query.cond another.cond file fault second same one two
  one_fault None query another fault second same one two = absurd one

  columns : other.columns.items ≡ schema.columns.items
  columns = sym (columns_too schema other shape)

  usable_here : (file : Option (List ℕ)) (cond : Cond) → IsUsable file other.columns.items cond → IsUsable file schema.columns.items cond
  usable_here file cond usable = subst (λ (cs : List Column). IsUsable file cs cond) columns usable

  fault_here : (file : Option (List ℕ)) (cond : Cond) (fault : Fault) → IsScanFault file other.columns.items cond fault → IsScanFault file schema.columns.items cond fault
  fault_here file cond fault refused = subst (λ (cs : List Column). IsScanFault file cs cond fault) columns refused

  read_alike : (reading second : Result Query Fault) → IsReadAs schema sql reading → IsReadAs other sql second → query_asked_in reading ≡ query_asked_in second
  read_alike reading second a b = one_reading schema other sql reading second shape a b

  pub one_question : (file : Option (List ℕ)) (given second : Result Query Fault) → by_statement file sql schema given → by_statement file sql other second → query_asked_in given ≡ query_asked_in second
  one_question file (Ok query) (Ok another) a b = read_alike (Ok query) (Ok another) a.0 b.0
  one_question file (Ok query) (Err fault) a (inl b) = absurd (cc (read_alike (Ok query) (Err fault) a.0 b))
  one_question file (Ok query) (Err fault) a (inr b) =
      absurd (not_both file query b.query fault (trees query b.query (read_alike (Ok query) (Ok b.query) a.0 b.asked)) a.1 (fault_here file b.query.cond fault b.refused))
  one_question file (Err fault) (Ok query) (inl a) b = absurd (cc (read_alike (Err fault) (Ok query) a b.0))
  one_question file (Err fault) (Ok query) (inr a) b =
      absurd (not_both file query a.query fault (sym (trees a.query query (read_alike (Ok a.query) (Ok query) a.asked b.0))) (usable_here file query.cond b.1) a.refused)
  one_question file (Err fault) (Err second) (inl a) (inl b) = read_alike (Err fault) (Err second) a b
  one_question file (Err fault) (Err second) (inl a) (inr b) = absurd (cc (read_alike (Err fault) (Ok b.query) a b.asked))
  one_question file (Err fault) (Err second) (inr a) (inl b) = absurd (cc (read_alike (Ok a.query) (Err second) a.asked b))
  one_question file (Err fault) (Err second) (inr a) (inr b) =
      ap Err (one_fault file a.query b.query fault second (trees a.query b.query (read_alike (Ok a.query) (Ok b.query) a.asked b.asked)) a.refused (fault_here file b.query.cond second b.refused))

pub one_shape : (bytes : List ℕ) (layout another : Layout) (schema other : Schema) (rows others : List (List Value)) → IsFileBytes bytes layout schema rows → IsFileBytes bytes another other others
    → schema_shape schema ≡ schema_shape other
one_shape bytes layout another schema other rows others one two = ap (λ (found : Found). found.schema) (of_one_table bytes layout another schema other rows others one two)

-- what is left of known bytes
some_is : (xs ys : List ℕ) → ◌≡◌ {A = Option (List ℕ)} (Some xs) (Some ys) → xs ≡ ys
some_is xs ys e = cc

known_rest : (known new : Option (List ℕ)) (bytes taken : List ℕ) → known ≡ Some bytes → Consumes known new taken → (rest : List ℕ) × (bytes ≡ taken ++ rest)
known_rest None new bytes taken e consumed = absurd cc
known_rest (Some xs) None bytes taken e consumed = absurd consumed
known_rest (Some xs) (Some ys) bytes taken e consumed = (ys, sym (some_is xs bytes e) ∙ consumed)

-- a header that was read of a table's bytes tells of the table's schema
header_of_table : (bytes : List ℕ) (layout : Layout) (schema other : Schema) (rows : List (List Value)) (start after : State) → IsFileBytes bytes layout schema rows → start.known ≡ Some bytes
    → start.offset ≡ 0 → IsHeaderOf start after other → schema_shape schema ≡ schema_shape other
header_of_table bytes layout schema other rows start after file known first head =
    let read = head.read in
    let left = known_rest start.known after.known bytes read.bytes known read.took.consumed in
    let stated = head.stated in
    let e : header (tail 0 bytes) ≡ Ok (stated, tail after.offset left.0) = ap (λ (l : List ℕ). header (tail 0 l)) left.1 ∙ head_at start after stated left.0 first read in
    let whole = subst (λ r. IsReadAfter r (Ok (found_as layout (schema_shape schema) rows))) e (spelled_is_read bytes layout schema rows file) in
    let found = body_found stated.layout stated.schema (body stated.layout whole.0.columns.items (group_sizes stated.rows) [] (tail after.offset left.0)) (found_as layout (schema_shape schema) rows) (sym whole.2) in
    sym (head.shape ∙ ap (λ (f : Found). f.schema) found.2)

input_is_none : (fault : Fault) → is_input_fault fault ≡ true → is_no_verdict fault ≡ false → ⊥
input_is_none fault is none = cc (rw is at none)

memory_is_none : (fault : Fault) → is_no_verdict fault ≡ false → is_memory fault ≡ false
memory_is_none fault none = by_memory (is_memory fault) refl
  where
    by_memory : (b : Bool) → is_memory fault ≡ b → is_memory fault ≡ false
    by_memory true e = absurd (cc (rw e at none))
    by_memory false e = e

err_is : (fault second : Fault) → query_asked_in (Err fault) ≡ query_asked_in (Err second) → fault ≡ second
err_is fault second e = cc

pub one_refusal : (verdict : OneVerdict) (bytes sql : List ℕ) (layout : Layout) (schema : Schema) (rows : List (List Value)) (program : Option (List ℕ)) (failures : ℕ) (now : State) (fault second : Fault)
    → IsFileBytes bytes layout schema rows → by_statement program sql schema (Err fault) → IsTableResult (by_statement program sql) (state_at (source_state (Some bytes) failures) 0) now (Err second)
    → is_no_verdict second ≡ false → fault ≡ second
one_refusal verdict bytes sql layout schema rows program failures now fault second file asks gave none = by_place gave.answer
  where
    start : State
    start = state_at (source_state (Some bytes) failures) 0

    by_place : Fails header (state_at (source_state (Some bytes) failures) 0) now second ⊎ HasRejectedQuery (by_statement program sql) (state_at (source_state (Some bytes) failures) 0) now second
        ⊎ HasFailedAtSegment (by_statement program sql) (state_at (source_state (Some bytes) failures) 0) now second → fault ≡ second
    by_place (inl fails) = absurd (input_is_none second (no_fault bytes layout schema rows file _ _ now second refl (header_refused _ now second refl fails)) none)
    by_place (inr (inl refused)) =
        let shape = header_of_table bytes layout schema refused.schema rows _ now file refl refl refused.head in
        err_is fault second (one_question verdict schema refused.schema shape sql program (Err fault) (Err second) asks (refused.asked (memory_is_none second none)))
    by_place (inr (inr refused)) =
        let shape = header_of_table bytes layout schema refused.schema rows _ refused.after file refl refl refused.head in
        absurd (cc (one_question verdict schema refused.schema shape sql program (Err fault) (Ok refused.query) asks refused.asked))
