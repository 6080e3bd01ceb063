-- What a condition means: its truth on a row, after SQL-92.
use Rattle.std.specs.Prelude.{ℕ, Bool, true, List, map, Some, None, ◌&&◌, nat_lt, nat_le, length}
use Rattle.std.specs.List.{list_all}
use Rattle.bw_model.specs.declared.cond.Truth.{Truth}
use Rattle.bw_model.specs.declared.cond.Truth.TheVariants.{Yes}
use Rattle.bw_model.specs.declared.cond.Operand.{Operand}
use Rattle.bw_model.specs.declared.cond.Operand.TheVariants.{Col, Lit, Null}
use Rattle.bw_model.specs.declared.cond.Cond.{Cond, Cond-F, fold-Cond}
use Rattle.bw_model.specs.declared.cond.Cond.TheOpen.{Always, Cmp, Between, Among, IsNull, And, Or}
use Rattle.bw_model.specs.declared.cond.Cond.TheOpen.{Not, Test}
use Rattle.bw_model.specs.Row.{Value, value_in}
use Rattle.bw_model.specs.Truth.{truth_from, all_of, any_of, negation, is_truth, compare_values}
use Rattle.bw_model.specs.Truth.{between, in_list, is_null}

-- the value that an operand has in a row
abbrev pub operand_value : List Value → Operand → Value
operand_value row (Col column) = value_in row column
operand_value row (Lit n) = Some n
operand_value row Null = None

-- the truth of a condition on a row, from the truths of its parts
abbrev pub truth_step : List Value → Cond-F Truth → Truth
truth_step row Always = Yes
truth_step row (Cmp op x y) = compare_values op (operand_value row x) (operand_value row y)
truth_step row (Between x y z) = between (operand_value row x) (operand_value row y)
    (operand_value row z)
truth_step row (Among x items) = in_list (operand_value row x) (map (operand_value row) items.items)
truth_step row (IsNull x) = truth_from (is_null (operand_value row x))
truth_step row (And parts) = all_of parts.items
truth_step row (Or parts) = any_of parts.items
truth_step row (Not part) = negation part.value
truth_step row (Test part t) = truth_from (is_truth part.value t)

-- the truth of a condition on a row
unfoldable pub truth_of : List Value → Cond → Truth
truth_of row cond = fold-Cond Truth (truth_step row) cond

-- a row matches a condition if it is TRUE: neither FALSE nor UNKNOWN will do
abbrev pub is_match : Cond → List Value → Bool
is_match cond row = is_truth (truth_of row cond) Yes

-- the operand is a literal, NULL or one of the first `columns` columns
abbrev pub is_within : ℕ → Operand → Bool
is_within columns (Col column) = nat_lt column columns
is_within columns (Lit n) = true
is_within columns Null = true

-- each column of a condition is one of the first `columns`, given whether this is so of its parts
abbrev pub within_step : ℕ → Cond-F Bool → Bool
within_step columns Always = true
within_step columns (Cmp op x y) = is_within columns x && is_within columns y
within_step columns (Between x y z) = is_within columns x && is_within columns y
    && is_within columns z
within_step columns (Among x items) = is_within columns x
    && list_all (is_within columns) items.items
within_step columns (IsNull x) = is_within columns x
within_step columns (And parts) = list_all (λ part. part) parts.items
within_step columns (Or parts) = list_all (λ part. part) parts.items
within_step columns (Not part) = part.value
within_step columns (Test part t) = part.value

-- each column that the condition names is one of the first `columns`
unfoldable pub names_within : ℕ → Cond → Bool
names_within columns cond = fold-Cond Bool (within_step columns) cond

-- And and Or have two or more parts, and Among one or more items
abbrev pub whole_step : Cond-F Bool → Bool
whole_step Always = true
whole_step (Cmp op x y) = true
whole_step (Between x y z) = true
whole_step (Among x items) = nat_le 1 (length items.items)
whole_step (IsNull x) = true
whole_step (And parts) = nat_le 2 (length parts.items) && list_all (λ part. part) parts.items
whole_step (Or parts) = nat_le 2 (length parts.items) && list_all (λ part. part) parts.items
whole_step (Not part) = part.value
whole_step (Test part t) = part.value

unfoldable pub is_whole : Cond → Bool
is_whole cond = fold-Cond Bool whole_step cond
