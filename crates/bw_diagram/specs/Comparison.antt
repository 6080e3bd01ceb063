-- Comparisons of a condition's operands, as codes are compared.
use Rattle.std.specs.Prelude.{ℕ, ℤ, pos, ◌+ℤ◌, ◌^◌, true, false, Option, Some, None}
use Rattle.std.specs.Prelude.{if◌then◌else◌, ◌||◌, int_le, int_lt}
use Rattle.bw_model.specs.declared.cond.Op.{Op}
use Rattle.bw_model.specs.declared.cond.Op.TheVariants.{Eq, Ne, Lt, Gt, Le, Ge}
use Rattle.bw_diagram.specs.declared.chain.ChainKind.{ChainKind}
use Rattle.bw_diagram.specs.declared.chain.ChainKind.TheVariants.{Less, Equal}
use Rattle.bw_diagram.specs.declared.comparison.LiteralComparison.{LiteralComparison}
use Rattle.bw_diagram.specs.declared.comparison.ColumnComparison.{ColumnComparison}

-- A comparison of a column with a literal that is d above the column's minimum means that the
-- column's code is less than (equal to) a bound, or isn't.
abbrev pub literal_comparison : Op → ℤ → LiteralComparison
literal_comparison Lt d = record { kind = Less; limit = d; negated = false }
literal_comparison Ge d = record { kind = Less; limit = d; negated = true }
literal_comparison Le d = record { kind = Less; limit = d +ℤ pos 1; negated = false }
literal_comparison Gt d = record { kind = Less; limit = d +ℤ pos 1; negated = true }
literal_comparison Eq d = record { kind = Equal; limit = d; negated = false }
literal_comparison Ne d = record { kind = Equal; limit = d; negated = true }

-- The terminal whose value is whether a number of `width` bits is less than (equal to) a bound, if
-- it is the same for all such numbers.
abbrev pub terminal_of : ChainKind → ℤ → ℕ → Option ℕ
terminal_of Less limit width =
    if int_le limit (pos 0) then Some 0 else if int_le (pos (2 ^ width)) limit then Some 1 else None
terminal_of Equal limit width = if int_lt limit (pos 0) || int_le (pos (2 ^ width)) limit
    then Some 0 else None

-- A comparison of two columns of the same minimum means that the code of `left` is less than (equal
-- to) that of `right`, or isn't.
abbrev pub column_comparison : Op → ℕ → ℕ → ColumnComparison
column_comparison Lt c d = record { kind = Less; left = c; right = d; negated = false }
column_comparison Ge c d = record { kind = Less; left = c; right = d; negated = true }
column_comparison Gt c d = record { kind = Less; left = d; right = c; negated = false }
column_comparison Le c d = record { kind = Less; left = d; right = c; negated = true }
column_comparison Eq c d = record { kind = Equal; left = c; right = d; negated = false }
column_comparison Ne c d = record { kind = Equal; left = c; right = d; negated = true }
