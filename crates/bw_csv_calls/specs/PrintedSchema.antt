-- The text of a schema: keywords in capitals, words one blank apart, names in the schema's
-- spelling, bounds in decimal without leading zeros, and one line feed after each line.
use Rattle.std.specs.Prelude.{◌≡◌, ℕ, Bool, true, false, List, [], ◌∷◌, ◌++◌, codes}
use Rattle.std.specs.Fmt.{signed_decimal}
use Rattle.bw_text.specs.Lines.{cut_lines, numbered_from}
use Rattle.bw_model.specs.SchemaText.{ColumnShape, SchemaShape}
use Rattle.bw_text.specs.Printing.{line_text}

-- the words of a table's line and of a column's
abbrev pub table_line : List ℕ → List (List ℕ)
table_line name = codes "TABLE" ∷ name ∷ []

abbrev pub not_null_words : Bool → List (List ℕ)
not_null_words true = []
not_null_words false = codes "NOT" ∷ codes "NULL" ∷ []

abbrev pub column_line : ColumnShape → List (List ℕ)
column_line column =
    codes "COLUMN" ∷ column.name ∷ signed_decimal column.lo ∷ signed_decimal column.hi
    ∷ not_null_words column.nullable

unfoldable pub columns_text : List ColumnShape → List ℕ
columns_text [] = []
columns_text (column ∷ columns) = line_text (column_line column) ++ columns_text columns

unfoldable pub schema_text : SchemaShape → List ℕ
schema_text schema = line_text (table_line schema.name) ++ columns_text schema.columns

-- all lines of the text are skipped, whatever the number of the first
abbrev pub AreComments : List ℕ → Type 0
AreComments text = (number : ℕ) → numbered_from number (cut_lines text) ≡ []

-- the most bytes of comments that are sure to fit after the text of any schema
abbrev pub most_comments : ℕ
most_comments = 4096
