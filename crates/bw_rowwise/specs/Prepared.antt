-- Conditions whose lists are sorted and whose columns are named by their places among others, and
-- their meaning on the values in these places.
use Rattle.std.specs.Prelude.{◌≡◌, ◌≤◌, ◌++◌, ◌&&◌, ℕ, Bool, true, false, IsTrue, List, length}
use Rattle.std.specs.Prelude.{map, nat_lt}
use Rattle.std.specs.List.{list_all}
use Rattle.bw_model.specs.declared.cond.Cond.{Cond}
use Rattle.bw_model.specs.declared.cond.Operand.{Operand}
use Rattle.bw_model.specs.declared.cond.Truth.{Truth}
use Rattle.bw_model.specs.declared.cond.Truth.TheVariants.{No, Unknown, Yes}
use Rattle.bw_model.specs.Cond.{is_within, operand_value, truth_of}
use Rattle.bw_model.specs.Row.{Value, value_in}
use Rattle.bw_model.specs.Truth.{all_of, in_list, any_of, between, compare_values, greatest}
use Rattle.bw_model.specs.Truth.{is_null, is_truth, least, negation, truth_from}
use Rattle.bw_rowwise.specs.Columns.{values_in}
use Rattle.bw_rowwise.specs.Numbers.{among_numbers}
use Rattle.bw_rowwise.specs.declared.prepared.Items.{Items}
use Rattle.bw_rowwise.specs.declared.prepared.Prepared.{Prepared, Prepared-F, fold-Prepared}
use Rattle.bw_rowwise.specs.declared.prepared.Prepared.TheOpen.{Always, Cmp, Between, Among, IsNull}
use Rattle.bw_rowwise.specs.declared.prepared.Prepared.TheOpen.{And, Or, Not, Test}

-- what a NULL in a list decides, if nothing else in it does
abbrev pub null_truth : Bool → Truth
null_truth true = Unknown
null_truth false = No

-- the value is one of the columns' values, or NULL, as IN has it
abbrev pub among_others : List Value → Value → Items → Truth
among_others row x items = greatest (in_list x (map (value_in row) items.columns.items))
    (null_truth items.has_null)

-- the value is one of the items, as IN has it
abbrev pub among_items : List Value → Value → Items → Truth
among_items row x items = greatest (among_numbers x items.numbers.sorted.items)
    (among_others row x items)

-- the truth of a prepared condition on the values of its columns, from that of its parts
abbrev pub prepared_step : List Value → Prepared-F Truth → Truth
prepared_step row Always = Yes
prepared_step row (Cmp op x y) = compare_values op (operand_value row x) (operand_value row y)
prepared_step row (Between x y z) = between (operand_value row x) (operand_value row y)
    (operand_value row z)
prepared_step row (Among x items) = among_items row (operand_value row x) items
prepared_step row (IsNull x) = truth_from (is_null (operand_value row x))
prepared_step row (And parts) = all_of parts.items
prepared_step row (Or parts) = any_of parts.items
prepared_step row (Not part) = negation part.value
prepared_step row (Test part t) = truth_from (is_truth part.value t)

-- the truth of a prepared condition on the values of its columns
unfoldable pub prepared_truth : List Value → Prepared → Truth
prepared_truth row cond = fold-Prepared Truth (prepared_step row) cond

-- each column of a list is at one of the first `places` places
abbrev pub items_within : ℕ → Items → Bool
items_within places items = list_all (λ place. nat_lt place places) items.columns.items

-- each column of a condition is at one of the first `places` places, given whether this is so of
-- its parts
abbrev pub places_step : ℕ → Prepared-F Bool → Bool
places_step places Always = true
places_step places (Cmp op x y) = is_within places x && is_within places y
places_step places (Between x y z) = is_within places x && is_within places y
    && is_within places z
places_step places (Among x items) = is_within places x && items_within places items
places_step places (IsNull x) = is_within places x
places_step places (And parts) = list_all (λ part. part) parts.items
places_step places (Or parts) = list_all (λ part. part) parts.items
places_step places (Not part) = part.value
places_step places (Test part t) = part.value

-- each column of a condition is at one of the first `places` places
unfoldable pub places_within : ℕ → Prepared → Bool
places_within places cond = fold-Prepared Bool (places_step places) cond

-- An operand is prepared for columns of these numbers, and for any that are added after them.
pub record PreparesOperand (operand : Operand) (numbers : List ℕ) (placed : Operand) : Type 0 where
  pub value : (row more : List Value) → operand_value (values_in numbers row ++ more) placed
      ≡ operand_value row operand
  pub within : (places : ℕ) → length numbers ≤ places → IsTrue (is_within places placed)

-- So is a list of items,
pub record PreparesItems (items : List Operand) (numbers : List ℕ) (placed : Items) : Type 0 where
  pub value : (row more : List Value) (x : Value)
      → among_items (values_in numbers row ++ more) x placed
      ≡ in_list x (map (operand_value row) items)
  pub within : (places : ℕ) → length numbers ≤ places → IsTrue (items_within places placed)

-- a condition,
pub record Prepares (cond : Cond) (numbers : List ℕ) (prepared : Prepared) : Type 0 where
  pub value : (row more : List Value) → prepared_truth (values_in numbers row ++ more) prepared
      ≡ truth_of row cond
  pub within : (places : ℕ) → length numbers ≤ places → IsTrue (places_within places prepared)

-- AND of these truths is AND of those, and so is OR
pub record JoinAlike (these those : List Truth) : Type 0 where
  pub all : all_of these ≡ all_of those
  pub any : any_of these ≡ any_of those

-- and a list of conditions, as parts of AND and OR.
pub record PreparesParts (conds : List Cond) (numbers : List ℕ)
    (prepared : List Prepared) : Type 0 where
  pub value : (row more : List Value)
      → JoinAlike (map (prepared_truth (values_in numbers row ++ more)) prepared)
      (map (truth_of row) conds)
  pub within : (places : ℕ) → length numbers ≤ places
      → IsTrue (list_all (places_within places) prepared)

-- AND of some truths is the same with one more, and so is OR
pub record Absorbs (truths : List Truth) (t : Truth) : Type 0 where
  pub all : least (all_of truths) t ≡ all_of truths
  pub any : greatest (any_of truths) t ≡ any_of truths
