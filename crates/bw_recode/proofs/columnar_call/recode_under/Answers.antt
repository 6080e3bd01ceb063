-- Each exit, by the contracts of its calls.
use Rattle.std.proofs.Common.{◌≡◌, ◌∙◌, ℕ, Bool, true, false, ◌||◌, List, Option, Some, Result, Ok, inl, inr, refl, sym, ap, subst, arith}
use Rattle.std.proofs.lemmas.Result.{IfOk-weaker}
use Rattle.bw_text.specs.Lines.{cut_lines}
use Rattle.bw_model.specs.declared.column.Column.{Column}
use Rattle.bw_model.specs.declared.fault.Fault.{Fault}
use Rattle.bw_model.specs.declared.schema.Schema.{Schema}
use Rattle.bw_model.specs.Fault.{is_memory}
use Rattle.bw_model.proofs.ErrLemmas.{err_passed_on}
use Rattle.bw_io.specs.RandomAccess.{AccessState, access_state}
use Rattle.bw_io.specs.Source.{is_read_fault}
use Rattle.bw_file.proofs.TableLemmas.{no_read_failed}
use Rattle.bw_memory.specs.Columnar.{HasColumns, HasDamage, HasOpenFault, IsOpened, IsOpenFault, column_count, table_in}
use Rattle.bw_memory.specs.MemoryTable.{layout_of, rows_of, schema_of}
use Rattle.bw_memory.proofs.ReadColumnsLemmas.{opened_same}
use Rattle.bw_memory.proofs.WrittenColumnar.{file_is}
use Rattle.bw_recode.specs.Numbers.{Replacement}
use Rattle.bw_recode.specs.Recode.{replacements_in, replacements_of}
use Rattle.bw_recode.proofs.ReplacingLemmas.{replacing}
use Rattle.bw_recode.proofs.columnar_call.recode_under.Goals as goal

-- an error of opening that is of neither memory nor a read is the file's
of_file : (table : List ℕ) (fault : Fault) → is_memory fault ≡ false → is_read_fault fault ≡ false → IsOpenFault (Some table) fault → HasOpenFault table fault
of_file table fault kept own (inl input) = absurd (neither (is_memory fault) (is_read_fault fault) kept own input)
  where
    neither : (a b : Bool) → a ≡ false → b ≡ false → (a || b) ≡ true → ⊥
    neither a b x y e = let f : false ≡ true = sym (rw (x, y) refl) ∙ e in cc f
of_file table fault kept own (inr found) = found

-- the device has the bytes that it was made of
device_is : (bytes table : List ℕ) (confirmed : Bool) → access_state (Some bytes) 0 confirmed ≡ access_state (Some table) 0 false → bytes ≡ table
device_is bytes table confirmed same = let e : ◌≡◌ {A = Option (List ℕ)} (Some bytes) (Some table) = ap (λ (state : AccessState). state.known) same in cc e

-- what numbers become, by an equal schema
by_schema : (old new : Schema) (news : List Column) (numbers : List ℕ) (read : Result (List Replacement) Fault) → new ≡ old
    → replacements_of old.columns.items news numbers ≡ read → replacements_of new.columns.items news numbers ≡ read
by_schema old new news numbers read same is = rw same is

pub returns-in_err-columnar-clause-refused : goal.returns-in_err-columnar-clause-refused
returns-in_err-columnar-clause-refused c =
    let fault = c.in_err-columnar.field-0.0 in
    rw (err_passed_on _ c.from_residual.ensures.1) (λ kept. inl (of_file c.args.table.now fault kept (no_read_failed (is_read_fault fault) c.in_err-columnar.ensures.count)
    (subst (λ (l : List ℕ). IsOpenFault (Some l) fault) (device_is c.new-device.result.bytes.now c.args.table.now c.new-device.result.is_confirmed c.new-device.ensures) c.in_err-columnar.ensures.refused)))

pub returns-in_err-replacements-clause-refused : goal.returns-in_err-replacements-clause-refused
returns-in_err-replacements-clause-refused c =
    let columnar = c.in_ok-columnar.columnar in
    let device = device_is c.new-device.result.bytes.now c.args.table.now c.new-device.result.is_confirmed c.new-device.ensures in
    rw (err_passed_on _ c.from_residual-in_err-replacements.ensures.1) (λ kept. inr (inl (record {
      columnar = columnar;
      opened = subst (λ (l : List ℕ). IsOpened (Some l) columnar) device c.in_ok-columnar.ensures.opened;
      refused = rw (c.deref.ensures.value, c.schema.ensures, c.table.ensures, c.deref-2.ensures.value) at (c.in_err-replacements.ensures kept);
    })))

pub returns-in_err-read_all-clause-refused : goal.returns-in_err-read_all-clause-refused
returns-in_err-read_all-clause-refused c =
    let old = c.in_ok-columnar.columnar in
    let new = c.read_all.new.self in
    let table = c.args.table.now in
    let fault = c.in_err-read_all.field-0.0 in
    let device = device_is c.new-device.result.bytes.now table c.new-device.result.is_confirmed c.new-device.ensures in
    let spelled = rw (c.deref.ensures.value, c.schema.ensures, c.table.ensures, c.deref-2.ensures.value) at c.in_ok-replacements.ensures in
    rw (err_passed_on _ c.from_residual-in_err-read_all.ensures.1) (λ kept. inr (inr (record {
      columnar = new;
      opened = opened_same (Some table) old new c.in_err-read_all.ensures.header (subst (λ (l : List ℕ). IsOpened (Some l) old) device c.in_ok-columnar.ensures.opened);
      replacements = replacements_in c.in_ok-replacements.replacements.items;
      spelled = by_schema (schema_of (table_in old)) (schema_of (table_in new)) c.args.schema.now.columns.items c.args.numbers.now _ c.in_err-read_all.ensures.header.schema spelled;
      damage = subst (λ (known : Option (List ℕ)). HasDamage known (λ _. true) new fault) (c.in_ok-columnar.ensures.same ∙ ap Some device) c.in_err-read_all.ensures.refused;
    })))

pub encode_table-requires : goal.encode_table-requires
encode_table-requires c =
    let old = c.in_ok-columnar.columnar in
    let new = c.read_all.new.self in
    let replacements = replacements_in c.in_ok-replacements.replacements.items in
    let spelled = rw (c.deref.ensures.value, c.schema.ensures, c.table.ensures, c.deref-2.ensures.value) at c.in_ok-replacements.ensures in
    rw (c.table-2.ensures, c.deref-3.ensures.value)
    (replacing (schema_of (table_in new)).columns.items c.args.schema.now.columns.items 1 (cut_lines c.args.numbers.now) replacements
    (by_schema (schema_of (table_in old)) (schema_of (table_in new)) c.args.schema.now.columns.items c.args.numbers.now (Ok replacements) c.in_ok-read_all.ensures.header.schema spelled))

pub returns-clause-recoded : goal.returns-clause-recoded
returns-clause-recoded c =
    let old = c.in_ok-columnar.columnar in
    let new = c.read_all.new.self in
    let table = c.args.table.now in
    let replacements = replacements_in c.in_ok-replacements.replacements.items in
    let device = device_is c.new-device.result.bytes.now table c.new-device.result.is_confirmed c.new-device.ensures in
    let spelled = rw (c.deref.ensures.value, c.schema.ensures, c.table.ensures, c.deref-2.ensures.value) at c.in_ok-replacements.ensures in
    let opened = opened_same (Some table) old new c.in_ok-read_all.ensures.header (subst (λ (l : List ℕ). IsOpened (Some l) old) device c.in_ok-columnar.ensures.opened) in
    let has = subst (λ (known : Option (List ℕ)). HasColumns known new (λ _. true) (column_count new)) (c.in_ok-columnar.ensures.same ∙ ap Some device) c.in_ok-read_all.ensures.read in
    IfOk-weaker c.encode_table.result _ _ (λ file is. record {
      layout = layout_of (table_in new);
      old = schema_of (table_in new);
      rows = rows_of (table_in new);
      file = file_is table (λ i. omega (arith, c.type_inv.table i)) new opened has;
      replacements = replacements;
      spelled = by_schema (schema_of (table_in old)) (schema_of (table_in new)) c.args.schema.now.columns.items c.args.numbers.now (Ok replacements) c.in_ok-read_all.ensures.header.schema spelled;
      is = rw (c.table-2.ensures, c.deref-3.ensures.value) at is;
    }) c.encode_table.ensures.file
