-- A file by columns that was cut has one error, and the whole file none, before its columns are read.
use Rattle.std.proofs.Common.{◌≡◌, ◌∙◌, refl, sym, ap, subst, ℕ, ◌+◌, ◌-◌, ◌*◌, ◌<◌, ◌≤◌, true, All, List, [], ◌∷◌, ◌++◌, flat_map}
use Rattle.std.proofs.Common.{length, map, take, Some, Err, inl, inr, length-append, length-take, take_all, arith}
use Rattle.std.proofs.lemmas.Bool.{and_parts, cases_lt, leb-true}
use Rattle.std.proofs.Math.Seq.{take-append-add}
use Rattle.std.proofs.lemmas.List.{length-map, take-append-le}
use Rattle.std.proofs.lemmas.List.Elements.{All-head, All-tail}
use Rattle.bw_model.specs.declared.column.Column.{Column}
use Rattle.bw_model.specs.declared.fault.Fault.{Fault}
use Rattle.bw_model.specs.declared.schema.Schema.{Schema}
use Rattle.bw_model.specs.Fault.{at_byte}
use Rattle.bw_model.specs.Groups.{groups_of}
use Rattle.bw_model.specs.Name.{is_name}
use Rattle.bw_model.specs.Row.{Value}
use Rattle.bw_model.specs.Schema.{IsColumn}
use Rattle.bw_model.specs.SchemaText.{ColumnShape, column_shape}
use Rattle.bw_file.specs.declared.layout.Layout.{Layout}
use Rattle.bw_file.specs.declared.order.FileOrder.TheVariants.{ByColumns}
use Rattle.bw_file.specs.Blocks.{segment_size}
use Rattle.bw_file.specs.Columnar.{IsColumnarFile, columnar_length}
use Rattle.bw_file.specs.FileBytes.{bound_bytes, column_bytes, flag_byte, front_bytes, magic, name_bytes}
use Rattle.bw_file.specs.Reading.{tail}
use Rattle.bw_file.specs.TableReading.{header_in}
use Rattle.bw_file.proofs.SpelledHeader.{header_reads}
use Rattle.bw_file.proofs.SpellingLemmas.{head_bytes, schema_bytes}
use Rattle.bw_memory.specs.declared.columnar.ColumnarTable.{ColumnarTable}
use Rattle.bw_memory.specs.Columnar.{HasOpenFault, IsOpened, StatesHeader, columnar_size, head_size, table_in}
use Rattle.bw_memory.specs.MemoryTable.{layout_of, schema_of, segments_in}
use Rattle.bw_memory.proofs.WholeColumnar.{body, columns_are, count_same, head_same, header_reads_on, layout_same, length_body, parts, stated, whole}

-- a column takes at most 100 bytes of a header
short_name : (name : List ℕ) → is_name name ≡ true → length name ≤ 63
unfolding is_name
short_name name is =
    leb-true (length name) 63 (and_parts _ _ (and_parts _ _ is).0).1

short_texts : (columns : List ColumnShape) → All IsColumn columns → length (flat_map schema_bytes columns) ≤ length columns * 100
unfolding column_bytes
short_texts [] all = omega arith
short_texts (c ∷ columns) all =
    let bounds = bound_bytes c.lo ++ bound_bytes c.hi in
    let name = short_name c.name (All-head IsColumn c columns all).name in
    let text = length-append c.name bounds in
    let more = length-append (c.name ++ bounds) (flag_byte c.nullable ∷ []) in
    let sixteen : length bounds ≡ 16 = refl in
    omega (arith, length-append (schema_bytes c) (flat_map schema_bytes columns), name, text, more, sixteen, short_texts columns (All-tail IsColumn c columns all))

module _ (bytes : List ℕ) (layout : Layout) (schema : Schema) (rows : List (List Value)) (file : IsColumnarFile bytes layout schema rows) where
  abbrev head : List ℕ
  head = head_bytes ByColumns (stated bytes layout schema rows file)

  abbrev rest : List ℕ
  rest = body bytes layout schema rows file

  pub short : length head ≤ 20000
  unfolding front_bytes magic
  short =
      let shapes = map column_shape schema.columns.items in
      let front = front_bytes ByColumns 2 layout (length shapes) (length rows) in
      let sixteen : length front ≡ 16 = refl in
      let name = short_name schema.name file.under.name in
      let texts = short_texts shapes file.under.columns in
      omega (
        arith,
        sixteen,
        name,
        texts,
        length-map schema.columns.items column_shape,
        schema.limited,
        length-append (front ++ name_bytes schema.name) (flat_map schema_bytes shapes),
        length-append front (name_bytes schema.name),
      )

  size : length bytes ≡ length head + length (groups_of rows) * segment_size layout schema.columns.items
  size = ap length (parts bytes layout schema rows file) ∙ length-append head rest ∙ ap (λ n. length head + n) (length_body layout schema rows file.admitted.admitted)

  -- a table whose header is this one demands all bytes
  demands : (columnar : ColumnarTable) (more : List ℕ) → StatesHeader columnar (head ++ more) → columnar_size columnar ≡ length bytes
  demands columnar more states =
      all (layout_of (table_in columnar)) (schema_of (table_in columnar)).columns.items (head_size columnar) (segments_in (table_in columnar))
      (layout_same bytes layout schema rows file columnar more states) (columns_are bytes layout schema rows file columnar more states)
      (head_same bytes layout schema rows file columnar more states) (count_same bytes layout schema rows file columnar more states)
      ∙ sym size
    where
      all : (L : Layout) (C : List Column) (h n : ℕ) → L ≡ layout → C ≡ schema.columns.items → h ≡ length head → n ≡ length (groups_of rows)
          → columnar_length L C h n ≡ length head + length (groups_of rows) * segment_size layout schema.columns.items
      all L C h n a b c d = rw (a, b, c, d) refl

  -- the first bytes, if they have the header
  beginning : (n : ℕ) → length head ≤ n → take n bytes ≡ head ++ take (n - length head) rest
  beginning n le =
      ap (take n) (parts bytes layout schema rows file) ∙ ap (λ k. take k (head ++ rest)) {x = n} {y = length head + (n - length head)} (omega (arith, le))
      ∙ take-append-add head rest (n - length head)

  -- and if they don't
  header_cut : (n : ℕ) → n < length head → header_in ByColumns (tail 0 (take n bytes)) ≡ Err (at_byte 305 n)
  header_cut n lt =
      ap (λ (l : List ℕ). header_in ByColumns (tail 0 l)) (ap (take n) (parts bytes layout schema rows file) ∙ take-append-le n head rest (omega (arith, lt)))
      ∙ (header_reads ByColumns (stated bytes layout schema rows file) (whole bytes layout schema rows file)).needs 0 n lt
      ∙ ap (λ k. Err (at_byte 305 k)) {x = 0 + n} {y = n} (omega arith)

  -- the first bytes state no table, or one that demands all bytes
  stated_demand : (n : ℕ) (columnar : ColumnarTable) → StatesHeader columnar (take n bytes) → columnar_size columnar ≡ length bytes
  stated_demand n columnar states = elim (cases_lt n (length head)) [
    | inl less ↦ absurd (let e = sym states.1 ∙ header_cut n less in cc e)
    | inr le ↦ demands columnar (take (n - length head) rest) (subst (StatesHeader columnar) (beginning n le) states)
  ]

  -- the header of the first bytes has this error alone
  header_alone : (n : ℕ) (fault : Fault) → header_in ByColumns (tail 0 (take 20000 (take n bytes))) ≡ Err fault → (n < length head) × (fault ≡ at_byte 305 n)
  header_alone n fault refused = elim (cases_lt n (length head)) [
    | inl less ↦
        let all : take 20000 (take n bytes) ≡ take n bytes = take_all 20000 (take n bytes) (omega (arith, short, less, length-take n bytes)) in
        let e = sym (ap (λ (l : List ℕ). header_in ByColumns (tail 0 l)) all ∙ header_cut n less) ∙ refused in
        (less, cc e)
    | inr le ↦
        let more = take (n - length head) rest in
        let first : take 20000 (head ++ more) ≡ head ++ take (20000 - length head) more =
        ap (λ k. take k (head ++ more)) {x = 20000} {y = length head + (20000 - length head)} (omega (arith, short)) ∙ take-append-add head more (20000 - length head) in
        let e = sym (ap (λ (l : List ℕ). header_in ByColumns (tail 0 l)) (ap (take 20000) (beginning n le) ∙ first) ∙ header_reads_on bytes layout schema rows file (take (20000 - length head) more)) ∙ refused in
        absurd (cc e)
  ]

  pub cut_refused : (n : ℕ) (fault : Fault) → n < length bytes → HasOpenFault (take n bytes) fault → fault ≡ at_byte 305 n
  cut_refused n fault less (HasOpenFault.header e) = (header_alone n fault e).1
  cut_refused n fault less (HasOpenFault.shorter columnar states few) = ap (at_byte 305) (omega (arith, length-take n bytes, less))
  cut_refused n fault less (HasOpenFault.longer columnar states many) = absurd (omega (arith, many, stated_demand n columnar states, length-take n bytes))

  pub cut_not_opened : (n : ℕ) (columnar : ColumnarTable) → n < length bytes → IsOpened (Some (take n bytes)) columnar → ⊥
  cut_not_opened n columnar less opened = omega (arith, opened.size, stated_demand n columnar opened.header, length-take n bytes, less)

  at_whole : (fault : Fault) → HasOpenFault (take (length bytes) bytes) fault → ⊥
  at_whole fault (HasOpenFault.header e) = omega (arith, (header_alone (length bytes) fault e).0, size)
  at_whole fault (HasOpenFault.shorter columnar states few) = omega (arith, few, stated_demand (length bytes) columnar states, length-take (length bytes) bytes)
  at_whole fault (HasOpenFault.longer columnar states many) = omega (arith, many, stated_demand (length bytes) columnar states, length-take (length bytes) bytes)

  pub whole_not_refused : (fault : Fault) → HasOpenFault bytes fault → ⊥
  whole_not_refused fault refused = at_whole fault (subst (λ (l : List ℕ). HasOpenFault l fault) (sym (take_all (length bytes) bytes (omega arith))) refused)
