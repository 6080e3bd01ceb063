-- What comparisons of operands mean for codes.
use Rattle.std.specs.Prelude.{ℕ, ℤ, ◌-ℤ◌, List, Option, Some, None, if◌then◌else◌, slice_get}
use Rattle.std.specs.Prelude.{option_map}
use Rattle.std.specs.Ordering.{int_eq}
use Rattle.bw_model.specs.declared.column.Column.{Column}
use Rattle.bw_model.specs.declared.cond.Op.{Op}
use Rattle.bw_model.specs.declared.cond.Operand.{Operand}
use Rattle.bw_model.specs.declared.cond.Operand.TheVariants.{Col, Lit}
use Rattle.bw_model.specs.declared.cond.Truth.TheVariants.{Unknown}
use Rattle.bw_model.specs.Truth.{truth_from, holds, swap_operands}
use Rattle.bw_diagram.specs.Comparison.{literal_comparison, column_comparison}
use Rattle.bw_prover.specs.declared.comparison.Comparison.{Comparison}
use Rattle.bw_prover.specs.declared.comparison.Comparison.TheVariants.{Fixed, Literal, Columns}

-- the minimum of the column of this number, if there is one
abbrev pub minimum_of : List Column → ℕ → Option ℤ
minimum_of columns number = option_map (λ column. column.lo) (slice_get columns number)

-- a column and a literal: the column's code and the literal's distance from the minimum
abbrev pub with_literal : Op → ℕ → ℤ → Option ℤ → Option Comparison
with_literal op column n (Some lo) = Some (Literal column (literal_comparison op (n -ℤ lo)))
with_literal op column n None = None

-- two columns: their codes, if both have the same minimum
abbrev pub with_column : Op → ℕ → ℕ → Option ℤ → Option ℤ → Option Comparison
with_column op c d (Some lo) (Some other) =
    if int_eq lo other then Some (Columns (column_comparison op c d)) else None
with_column op c d _ _ = None

-- A comparison with NULL is UNKNOWN on every row, and one of two literals has one truth.
unfoldable pub comparison_of : List Column → Op → Operand → Operand → Option Comparison
comparison_of columns op (Col c) (Lit n) = with_literal op c n (minimum_of columns c)
comparison_of columns op (Lit n) (Col c) = with_literal (swap_operands op) c n
    (minimum_of columns c)
comparison_of columns op (Col c) (Col d) = with_column op c d (minimum_of columns c)
    (minimum_of columns d)
comparison_of columns op (Lit m) (Lit n) = Some (Fixed (truth_from (holds op m n)))
comparison_of columns op _ _ = Some (Fixed Unknown)
