-- The rows of a table of a file by columns, each column of which was read or is blank.
use Rattle.std.proofs.Common.{◌≡◌, ◌∙◌, ◌⊎◌, refl, sym, ap, ℕ, ◌<◌, ◌≤◌, Bool, true, false, List, length, Some, inl, inr, arith}
use Rattle.std.specs.Prelude.{◌||◌, IfSome}
use Rattle.std.proofs.lemmas.Bool.{cases_lt}
use Rattle.bw_model.specs.declared.schema.Schema.{Schema}
use Rattle.bw_model.specs.Row.{Value}
use Rattle.bw_model.specs.SchemaText.{schema_shape}
use Rattle.bw_file.specs.declared.layout.Layout.{Layout}
use Rattle.bw_file.specs.Columnar.{IsColumnarFile}
use Rattle.bw_memory.specs.Columnar.{HasBlock, HasColumns, IsOpened, SameHeader, table_in}
use Rattle.bw_memory.specs.Columns.{block_in}
use Rattle.bw_memory.specs.ColumnStore.{HasColumn, HasColumnsBefore, IsBlankColumn, header_of, in_file}
use Rattle.bw_memory.specs.MemoryTable.{rows_of, schema_of, segments_in}
use Rattle.bw_memory.specs.NamedRows.{AreReadRows}
use Rattle.bw_memory.specs.declared.columnar.ColumnarTable.{ColumnarTable}
use Rattle.bw_memory.specs.declared.table.MemoryTable.{MemoryTable}
use Rattle.bw_memory.proofs.ReadColumnsLemmas.{block_same, opened_same}
use Rattle.bw_memory.proofs.WholeColumnar.{rows_are, shape_same}

-- which of two cases it is
abbrev is_first : {A B : Type 0} → A ⊎ B → Bool
is_first (inl a) = true
is_first (inr b) = false

module _ (bytes : List ℕ) (layout : Layout) (schema : Schema) (rows : List (List Value)) (file : IsColumnarFile bytes layout schema rows) (columnar : ColumnarTable)
    (opened : IsOpened (Some bytes) columnar) (table : MemoryTable) (wanted : ℕ → Bool)
    (has : HasColumnsBefore (in_file (Some bytes) (header_of columnar)) wanted table (length (schema_of (table_in columnar)).columns.items)) where
  abbrev count : ℕ
  count = length (schema_of (table_in columnar)).columns.items

  -- the table under the file's header
  abbrev stored_table : ColumnarTable
  stored_table = record { table = table; head = columnar.head; short = columnar.short }

  same : SameHeader columnar stored_table
  same = record { layout = has.is.layout; schema = has.is.schema; rows = has.is.rows; segments = has.is.segments; head = refl }

  -- a column is wanted, or it was read
  abbrev read_at : (column : ℕ) → (column < count) ⊎ (count ≤ column) → Bool
  read_at column (inl lt) = is_first (has.is.each column lt)
  read_at column (inr le) = false

  abbrev read : ℕ → Bool
  read column = wanted column || read_at column (cases_lt column count)

  there : (number : ℕ) → number < segments_in table → number < segments_in (table_in columnar)
  there number lt = omega (arith, lt, has.is.segments)

  column_is : (column : ℕ) → HasColumn (in_file (Some bytes) (header_of columnar)) table column → (number : ℕ) → number < segments_in table
      → IfSome (Some bytes) (HasBlock stored_table column number (block_in table number column))
  column_is column is number lt = block_same (Some bytes) (λ _. true) columnar stored_table column number (block_in table number column) same (is number (there number lt))

  first_is : (column : ℕ) (which : HasColumn (in_file (Some bytes) (header_of columnar)) table column ⊎ IsBlankColumn table column) → is_first which ≡ true
      → HasColumn (in_file (Some bytes) (header_of columnar)) table column
  first_is column (inl is) e = is
  first_is column (inr blank) e = absurd (cc e)

  other_is : (column : ℕ) (which : HasColumn (in_file (Some bytes) (header_of columnar)) table column ⊎ IsBlankColumn table column) → is_first which ≡ false
      → IsBlankColumn table column
  other_is column (inl is) e = absurd (cc e)
  other_is column (inr blank) e = blank

  read_is : (column : ℕ) (place : (column < count) ⊎ (count ≤ column)) → read_at column place ≡ true → HasColumn (in_file (Some bytes) (header_of columnar)) table column
  read_is column (inl lt) e = first_is column (has.is.each column lt) e
  read_is column (inr le) e = absurd (cc e)

  unread_is : (column : ℕ) (place : (column < count) ⊎ (count ≤ column)) → column < count → read_at column place ≡ false → IsBlankColumn table column
  unread_is column (inl lt) within e = other_is column (has.is.each column lt) e
  unread_is column (inr le) within e = absurd (omega (arith, le, within))

  either : (x y : Bool) → (x || y) ≡ true → (x ≡ true) ⊎ (y ≡ true)
  either true y e = inl refl
  either false y e = inr e

  neither : (x y : Bool) → (x || y) ≡ false → y ≡ false
  neither true y e = absurd (cc e)
  neither false y e = e

  wide : (column : ℕ) → wanted column ≡ true → read column ≡ true
  wide column is = ap (λ (b : Bool). b || read_at column (cases_lt column count)) is

  within_count : (column : ℕ) → column < length (schema_of table).columns.items → column < count
  within_count column lt = omega (arith, lt, ap (λ (s : Schema). length s.columns.items) has.is.schema)

  stored : HasColumns (Some bytes) stored_table read (length (schema_of table).columns.items)
  stored = record {
    blocks = λ column lt is number at. elim (either (wanted column) (read_at column (cases_lt column count)) is) [
      | inl named ↦ column_is column (has.columns column (within_count column lt) named) number at
      | inr other ↦ column_is column (read_is column (cases_lt column count) other) number at
    ];
    blank = λ column lt is number at. elim is [
      | inl past ↦ absurd (omega (arith, past, lt))
      | inr un ↦ unread_is column (cases_lt column count) (within_count column lt) (neither (wanted column) (read_at column (cases_lt column count)) un) number at
    ];
  }

  reopened : IsOpened (Some bytes) stored_table
  reopened = opened_same (Some bytes) columnar stored_table same opened

  pub shape_stored : schema_shape (schema_of (table_in columnar)) ≡ schema_shape schema
  shape_stored = ap (λ (s : Schema). schema_shape s) (sym has.is.schema) ∙ shape_same bytes layout schema rows file stored_table read reopened stored

  pub rows_stored : (given : List (List Value)) → given ≡ rows_of table → AreReadRows schema.columns.items wanted rows given
  rows_stored given are = record { read = read; wide = wide; are = are ∙ rows_are bytes layout schema rows file stored_table read reopened stored }
