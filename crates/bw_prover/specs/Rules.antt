-- The conditions for which certificates have rules.
use Rattle.std.specs.Prelude.{Bool, true, ◌&&◌, List, length, nat_le, is_some}
use Rattle.std.specs.List.{list_all}
use Rattle.bw_model.specs.declared.column.Column.{Column}
use Rattle.bw_model.specs.declared.cond.Cond.{Cond, Cond-F, fold-Cond}
use Rattle.bw_model.specs.declared.cond.Cond.TheOpen.{Always, Cmp, Between, Among, IsNull, And, Or}
use Rattle.bw_model.specs.declared.cond.Cond.TheOpen.{Not, Test}
use Rattle.bw_model.specs.declared.cond.Op.{Op}
use Rattle.bw_model.specs.declared.cond.Op.TheVariants.{Eq, Le, Ge}
use Rattle.bw_model.specs.declared.cond.Operand.{Operand}
use Rattle.bw_prover.specs.Comparison.{comparison_of}

-- the operands' columns are these, and two columns have the same minimum
abbrev pub is_comparable : List Column → Op → Operand → Operand → Bool
is_comparable columns op x y = is_some (comparison_of columns op x y)

-- whether a condition has rules, given whether each of its parts has
abbrev pub rules_step : List Column → Cond-F Bool → Bool
rules_step columns Always = true
rules_step columns (Cmp op x y) = is_comparable columns op x y
rules_step columns (Between x y z) = is_comparable columns Ge x y && is_comparable columns Le x z
rules_step columns (Among x items) = nat_le 1 (length items.items)
    && list_all (is_comparable columns Eq x) items.items
rules_step columns (IsNull x) = true
rules_step columns (And parts) = nat_le 1 (length parts.items) && list_all (λ part. part) parts.items
rules_step columns (Or parts) = nat_le 1 (length parts.items) && list_all (λ part. part) parts.items
rules_step columns (Not part) = part.value
rules_step columns (Test part t) = part.value

-- each comparison of a condition has a rule: it names columns among these, and compares only
-- columns of one minimum; lists, AND and OR aren't empty
unfoldable pub has_rules : List Column → Cond → Bool
has_rules columns cond = fold-Cond Bool (rules_step columns) cond
