-- What a field may spell: null, and the numbers between two bounds.
use Rattle.std.specs.Prelude.{ℤ, pos, ◌^◌, ◌-ℤ◌, Bool, true, false, List, [], ◌∷◌, Some, None, ◌&&◌}
use Rattle.std.specs.Prelude.{int_le}
use Rattle.bw_model.specs.declared.column.Column.{Column}
use Rattle.bw_model.specs.Row.{Value}
use Rattle.bw_csv.specs.declared.rule.FieldRule.{FieldRule}

abbrev pub field_rule : ℤ → ℤ → Bool → FieldRule
field_rule lo hi nullable = record { lo = lo; hi = hi; nullable = nullable }

-- the rule of a column of a schema
abbrev pub rule_of : Column → FieldRule
rule_of column = field_rule column.lo column.hi column.nullable

-- the rule of a column without a schema: null, and every number of 64 bits
abbrev pub any_number : FieldRule
any_number = field_rule (pos 0 -ℤ pos (2 ^ 63)) (pos (2 ^ 63) -ℤ pos 1) true

-- a rule allows null if the column is nullable, and the numbers from lo to hi
abbrev pub allows : FieldRule → Value → Bool
allows rule None = rule.nullable
allows rule (Some n) = int_le rule.lo n && int_le n rule.hi

-- rules allow a row that has one value for each, which that rule allows
abbrev pub allow_values : List FieldRule → List Value → Bool
allow_values [] [] = true
allow_values [] (value ∷ values) = false
allow_values (rule ∷ rules) [] = false
allow_values (rule ∷ rules) (value ∷ values) = allows rule value && allow_values rules values
