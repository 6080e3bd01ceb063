use Rattle.std.proofs.Common.{◌≡◌, ◌≤◌, ◌++◌, ℕ, true, List, length, map, take, nat_lt}
use Rattle.std.specs.List.{list_all}
use Rattle.bw_model.specs.Cond.{operand_value}
use Rattle.bw_model.specs.Row.{Value, value_in}
use Rattle.bw_model.specs.Truth.{in_list, greatest}
use Rattle.bw_rowwise.specs.Columns.{Grows, numbers_of, values_in}
use Rattle.bw_rowwise.specs.Numbers.{among_numbers}
use Rattle.bw_rowwise.specs.Prepared.{null_truth}
use Rattle.bw_rowwise.proofs.prepared.items_of.Given as goal

-- the numbers and the columns so far, and whether there was a NULL
abbrev pub invariant-loop-item : goal.invariant-loop-item
invariant-loop-item l = record {
  grown : Grows (numbers_of l.fn.columns) (numbers_of l.columns);
  value : (row more : List Value) (x : Value)
      → greatest (among_numbers x l.numbers.items) (greatest (in_list x (map (value_in (values_in (numbers_of l.columns) row ++ more)) l.places.items)) (null_truth l.has_null))
      ≡ in_list x (map (operand_value row) (take l.item-index l.items));
  within : (places : ℕ) → length (numbers_of l.columns) ≤ places → list_all (λ place. nat_lt place places) l.places.items ≡ true;
}
