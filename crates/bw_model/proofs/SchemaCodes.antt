-- What holds of each error of schema texts holds of the one by which a text is rejected, so that
-- its number is one of theirs.
use Rattle.std.proofs.Common.{◌≡◌, ◌∙◌, ap, ◌&&◌, ◌||◌, ℕ, List, [], ◌∷◌, ◌++◌, Bool, true, false}
use Rattle.std.proofs.Common.{not, Option, Some, None, Result, Ok, Err, refl, IfErr, nat_le}
use Rattle.std.proofs.Common.{nat_lt, length, IsTrue}
use Rattle.std.specs.List.{list_any}
use Rattle.std.proofs.Math.Bool.{or-true}
use Rattle.bw_model.specs.declared.fault.Fault.{Fault}
use Rattle.bw_model.specs.declared.schema.Schema.{Schema}
use Rattle.bw_model.specs.Fault.{MatchesUnlessOom, is_memory, ◌>>=◌, at_line, nowhere}
use Rattle.bw_text.specs.Lines.{NumberedWords, lines_in, end_in, whole, is_empty}
use Rattle.bw_model.specs.Name.{is_name}
use Rattle.bw_model.specs.SchemaText.{ColumnShape, schema_shape, shape_names, is_range}
use Rattle.bw_model.specs.SchemaText.{column_words, table_words, table_on, named_table, column_on}
use Rattle.bw_model.specs.SchemaText.{next_column, after_room, columns_on, with_columns, schema_on}
use Rattle.bw_model.specs.SchemaText.{schema_of, IsSchemaFault}
use Rattle.bw_model.specs.FaultTable.{SCHEMA_FORM, SCHEMA_NAME, SCHEMA_RANGE, NAME_TWICE}
use Rattle.bw_model.specs.FaultTable.{COLUMN_COUNT, SCHEMA_TOO_LONG}
use Rattle.bw_model.proofs.FaultLemmas.{then_so, refused_so, fault_so}
use Rattle.bw_text.specs.Text.{same_text}

-- what holds of each error of schema texts
pub record OfSchemaFaults (P : Fault → Type 0) : Type 0 where
  pub form : (line : ℕ) → P (at_line SCHEMA_FORM line)
  pub name : (line : ℕ) → P (at_line SCHEMA_NAME line)
  pub range : (line : ℕ) → P (at_line SCHEMA_RANGE line)
  pub twice : (line : ℕ) → P (at_line NAME_TWICE line)
  pub count : (line : ℕ) → P (at_line COLUMN_COUNT line)
  pub long : P (nowhere SCHEMA_TOO_LONG)

-- holds of the error by which a text is rejected
module _ (P : Fault → Type 0) (each : OfSchemaFaults P) where
  table_so : (line : ℕ) (words : Option (List ℕ)) → IfErr (named_table line words) P
  table_so line None = each.form line
  table_so line (Some name) = refused_so P (not (is_name name)) (at_line SCHEMA_NAME line) (Ok name) (each.name line) tt

  column_so : (before : List (List ℕ)) (line : ℕ) (words : Option ColumnShape) → IfErr (next_column before line words) P
  column_so before line None = each.form line
  column_so before line (Some column) =
      refused_so P (nat_le 64 (length before)) (at_line COLUMN_COUNT line) (after_room before line column) (each.count line)
      (refused_so P (not (is_name column.name)) (at_line SCHEMA_NAME line) _ (each.name line)
      (refused_so P (list_any (λ name. same_text name column.name) before) (at_line NAME_TWICE line) _ (each.twice line)
      (refused_so P (not (is_range column.lo column.hi)) (at_line SCHEMA_RANGE line) (Ok column) (each.range line) tt)))

  columns_so : (before : List ColumnShape) (lines : List NumberedWords) → IfErr (columns_on before lines) P
  unfolding columns_on
  columns_so before [] = tt
  columns_so before (line ∷ lines) =
      then_so P (column_on (shape_names before) line) (λ column. columns_on (before ++ column ∷ []) lines)
      (column_so (shape_names before) line.number (column_words line.words)) (λ column. columns_so (before ++ column ∷ []) lines)

  lines_so : (lines : List NumberedWords) (end : ℕ) → IfErr (schema_on lines end) P
  unfolding schema_on
  lines_so [] end = each.form end
  lines_so (line ∷ lines) end =
      then_so P (table_on line) (λ name. columns_on [] lines >>= λ columns. with_columns name end columns)
      (table_so line.number (table_words line.words))
      (λ name. then_so P (columns_on [] lines) (λ columns. with_columns name end columns) (columns_so [] lines)
      (λ columns. refused_so P (is_empty columns) (at_line COLUMN_COUNT end) (Ok (record { name = name; columns = columns })) (each.count end) tt))

  pub text_so : (text : List ℕ) → IfErr (schema_of text) P
  unfolding schema_of
  text_so text = refused_so P (nat_lt 65536 (length text)) (nowhere SCHEMA_TOO_LONG) (schema_on (lines_in (whole text)) (end_in (whole text))) each.long
      (lines_so (lines_in (whole text)) (end_in (whole text)))

-- the number of each is one of 101 to 106
abbrev pub IsNumbered : Fault → Type 0
IsNumbered fault = IsTrue (nat_le SCHEMA_FORM fault.code && nat_le fault.code SCHEMA_TOO_LONG)

pub numbered : (text : List ℕ) → IfErr (schema_of text) IsNumbered
numbered text = text_so IsNumbered (record { form = λ line. refl; name = λ line. refl; range = λ line. refl; twice = λ line. refl; count = λ line. refl; long = refl }) text

-- 801 is one of them
memory_so : (fault : Fault) → is_memory fault ≡ true → IsSchemaFault fault
memory_so fault e = ap (λ b. (nat_le 101 fault.code && nat_le fault.code 106) || b) e ∙ or-true (nat_le 101 fault.code && nat_le fault.code 106)

fault_by : (memory : Bool) (text : List ℕ) (fault : Fault) → is_memory fault ≡ memory → (is_memory fault ≡ false → schema_of text ≡ Err fault) → IsSchemaFault fault
fault_by true text fault m given = memory_so fault m
fault_by false text fault m given = rw (fault_so IsNumbered (schema_of text) fault (numbered text) (given m)) refl

-- so whatever reads a schema text rejects by one of them, out of memory included
pub codes_of_schema : (text : List ℕ) (result : Result Schema Fault) → MatchesUnlessOom schema_shape result (schema_of text) → IfErr result IsSchemaFault
codes_of_schema text (Ok schema) gives = tt
codes_of_schema text (Err fault) gives = fault_by (is_memory fault) text fault refl gives
