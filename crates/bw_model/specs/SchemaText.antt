-- Schema texts: the schema of a text, or its first error.
use Rattle.std.specs.Prelude.{◌≡◌, ◌≤◌, IsTrue, ℕ, ℤ, pos, ◌-ℤ◌, ◌^◌, Bool, true, false, List, []}
use Rattle.std.specs.Prelude.{◌∷◌, ◌++◌, map, drop, length, Option, Some, None, Result, Ok, Err}
use Rattle.std.specs.Prelude.{codes, not, ◌&&◌, ◌||◌, ◌==◌, if◌then◌else◌, int_le, int_lt, nat_le}
use Rattle.std.specs.Prelude.{nat_lt, slice_index}
use Rattle.std.specs.List.{list_any, AllZip}
use Rattle.bw_model.specs.FaultTable.{SCHEMA_FORM, SCHEMA_NAME, SCHEMA_RANGE, NAME_TWICE}
use Rattle.bw_model.specs.FaultTable.{COLUMN_COUNT, SCHEMA_TOO_LONG}
use Rattle.bw_model.specs.declared.fault.Fault.{Fault}
use Rattle.bw_model.specs.declared.column.Column.{Column}
use Rattle.bw_model.specs.declared.parse.Words.{Words}
use Rattle.bw_model.specs.declared.schema.Schema.{Schema}
use Rattle.bw_model.specs.Fault.{nowhere, at_line, is_memory, ◌>>=◌, refused_if}
use Rattle.bw_model.specs.Limits.{longest_schema, most_columns}
use Rattle.bw_text.specs.Lines.{NumberedWords, is_empty, lines_in, end_in, whole}
use Rattle.bw_model.specs.Name.{is_name, are_apart}
use Rattle.bw_text.specs.Number.{are_digits, number_of}
use Rattle.bw_text.specs.Text.{same_text}

-- a column and a schema, as lists and numbers
pub record ColumnShape : Type 0 where
  pub name : List ℕ
  pub lo : ℤ
  pub hi : ℤ
  pub nullable : Bool

pub record SchemaShape : Type 0 where
  pub name : List ℕ
  pub columns : List ColumnShape

abbrev pub shape : List ℕ → ℤ → ℤ → Bool → ColumnShape
shape name lo hi nullable = record { name = name; lo = lo; hi = hi; nullable = nullable }

abbrev pub column_shape : Column → ColumnShape
column_shape column = shape column.name column.lo column.hi column.nullable

abbrev pub schema_shape : Schema → SchemaShape
schema_shape schema = record { name = schema.name; columns = map column_shape schema.columns.items }

-- the column that the words of its line spell
abbrev pub words_shape : Words → ColumnShape
words_shape words = shape words.name.now words.lo words.hi words.nullable

-- a bound is an optional minus sign, which is byte 45, and digits, within 64 bits
abbrev pub signed_digits : Bool → List ℕ → Option ℤ
signed_digits is_negative digits = if are_digits digits then number_of is_negative digits else None

unfoldable pub bound_of : List ℕ → Option ℤ
bound_of text = if slice_index text 0 == 45 then signed_digits true (drop 1 text)
    else signed_digits false text

-- the bounds are in order, and less than 2^63 apart
unfoldable pub is_range : ℤ → ℤ → Bool
is_range lo hi = int_le lo hi && int_lt (hi -ℤ lo) (pos (2 ^ 63))

abbrev pub with_bounds : List ℕ → Option ℤ → Option ℤ → Bool → Option ColumnShape
with_bounds name None hi nullable = None
with_bounds name (Some lo) None nullable = None
with_bounds name (Some lo) (Some hi) nullable = Some (shape name lo hi nullable)

abbrev pub are_not_null : List ℕ → List ℕ → Bool
are_not_null negates null = same_text negates (codes "NOT") && same_text null (codes "NULL")

-- the words of COLUMN name lo hi, or of COLUMN name lo hi NOT NULL; none if the words have another
-- form
unfoldable pub column_words : List (List ℕ) → Option ColumnShape
column_words (keyword ∷ name ∷ lo ∷ hi ∷ []) =
    if not (same_text keyword (codes "COLUMN")) then None else with_bounds name (bound_of lo)
    (bound_of hi) true
column_words (keyword ∷ name ∷ lo ∷ hi ∷ negates ∷ null ∷ []) =
    if not (same_text keyword (codes "COLUMN")) || not (are_not_null negates null) then None
    else with_bounds name (bound_of lo) (bound_of hi) false
column_words [] = None
column_words (a ∷ []) = None
column_words (a ∷ b ∷ []) = None
column_words (a ∷ b ∷ c ∷ []) = None
column_words (a ∷ b ∷ c ∷ d ∷ e ∷ []) = None
column_words (a ∷ b ∷ c ∷ d ∷ e ∷ f ∷ g ∷ more) = None

-- the name in the words TABLE name; none if they have another form
unfoldable pub table_words : List (List ℕ) → Option (List ℕ)
table_words (keyword ∷ name ∷ []) = if same_text keyword (codes "TABLE") then Some name else None
table_words [] = None
table_words (a ∷ []) = None
table_words (a ∷ b ∷ c ∷ more) = None

-- the table's name on its line, or the line's first error: its form comes before its name
abbrev pub named_table : ℕ → Option (List ℕ) → Result (List ℕ) Fault
named_table line None = Err (at_line SCHEMA_FORM line)
named_table line (Some name) = refused_if (not (is_name name)) (at_line SCHEMA_NAME line) (Ok name)

abbrev pub table_on : NumberedWords → Result (List ℕ) Fault
table_on line = named_table line.number (table_words line.words)

-- a column within the limit, or its first error: an invalid name, a duplicate name, and then the
-- range
abbrev pub after_room : List (List ℕ) → ℕ → ColumnShape → Result ColumnShape Fault
after_room before line column =
    refused_if (not (is_name column.name)) (at_line SCHEMA_NAME line)
    (refused_if (list_any (λ name. same_text name column.name) before) (at_line NAME_TWICE line)
    (refused_if (not (is_range column.lo column.hi)) (at_line SCHEMA_RANGE line)
    (Ok column)))

-- the column on a line that follows columns of these names, or its first error: the form, the 65th
-- column, and then the column's own errors
abbrev pub next_column : List (List ℕ) → ℕ → Option ColumnShape → Result ColumnShape Fault
next_column before line None = Err (at_line SCHEMA_FORM line)
next_column before line (Some column) =
    refused_if (nat_le most_columns (length before)) (at_line COLUMN_COUNT line)
    (after_room before line column)

abbrev pub column_on : List (List ℕ) → NumberedWords → Result ColumnShape Fault
column_on before line = next_column before line.number (column_words line.words)

abbrev pub shape_names : List ColumnShape → List (List ℕ)
shape_names columns = map (λ column. column.name) columns

-- the columns so far and those on these lines, or the first error
unfoldable pub columns_on : List ColumnShape → List NumberedWords → Result (List ColumnShape) Fault
columns_on before [] = Ok before
columns_on before (line ∷ lines) = column_on (shape_names before) line
    >>= λ column. columns_on (before ++ column ∷ []) lines

-- the schema of a table name and columns, which are at least one; the number is that of the text's
-- end
abbrev pub with_columns : List ℕ → ℕ → List ColumnShape → Result SchemaShape Fault
with_columns name end columns = refused_if (is_empty columns) (at_line COLUMN_COUNT end)
    (Ok (record { name = name; columns = columns }))

unfoldable pub schema_on : List NumberedWords → ℕ → Result SchemaShape Fault
schema_on [] end = Err (at_line SCHEMA_FORM end)
schema_on (line ∷ lines) end = table_on line >>= λ name. columns_on [] lines
    >>= λ columns. with_columns name end columns

-- the schema of a text, or its first error: its length, and then its lines
unfoldable pub schema_of : List ℕ → Result SchemaShape Fault
schema_of text = refused_if (nat_lt longest_schema (length text)) (nowhere SCHEMA_TOO_LONG)
    (schema_on (lines_in (whole text)) (end_in (whole text)))

-- the words of a line spell a column
abbrev pub SpellsColumn : NumberedWords → ColumnShape → Type 0
SpellsColumn line column = (column_words line.words ≡ Some column) × IsTrue (is_name column.name)
    × IsTrue (is_range column.lo column.hi)

-- Lines spell a schema if the first is its table's and each other one its next column's. There are
-- 1 to 64 columns, and no two have the same name, ignoring case.
abbrev pub SpellsSchema : List NumberedWords → SchemaShape → Type 0
SpellsSchema [] schema = ⊥
SpellsSchema (line ∷ lines) schema =
    (table_words line.words ≡ Some schema.name)
    × IsTrue (is_name schema.name)
    × AllZip SpellsColumn lines schema.columns
    × (1 ≤ length schema.columns)
    × (length schema.columns ≤ most_columns)
    × IsTrue (are_apart (shape_names schema.columns))

-- a text of at most 65,536 bytes whose lines spell a schema
abbrev pub IsSchemaText : List ℕ → SchemaShape → Type 0
IsSchemaText text schema = (length text ≤ longest_schema)
    × SpellsSchema (lines_in (whole text)) schema

-- the error is one of 101 to 106, or out of memory
abbrev pub is_schema_fault : Fault → Bool
is_schema_fault fault = (nat_le SCHEMA_FORM fault.code && nat_le fault.code SCHEMA_TOO_LONG)
    || is_memory fault

abbrev pub IsSchemaFault : Fault → Type 0
IsSchemaFault fault = IsTrue (is_schema_fault fault)
