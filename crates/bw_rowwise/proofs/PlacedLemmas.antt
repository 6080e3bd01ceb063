-- Conditions that are prepared for columns, and for any that are added after them.
use Rattle.std.proofs.Common.{◌≡◌, ◌∙◌, ◌<◌, ◌≤◌, ◌+◌, ◌&&◌, ℕ, arith, Bool, true, List, [], ◌∷◌}
use Rattle.std.proofs.Common.{◌++◌, append_assoc, append-nil, get_or, length, length-append, map}
use Rattle.std.proofs.Common.{refl, sym, ap, ap₂, take, Vec, Box, Global, nat_lt, None}
use Rattle.std.specs.List.{list_all}
use Rattle.std.proofs.lemmas.Bool.{and_from, lt-ltb}
use Rattle.std.proofs.lemmas.List.{get_or-map, get_or_append_left, length-map, map-append}
use Rattle.std.proofs.lemmas.List.Folds.{list_all-append}
use Rattle.bw_model.specs.declared.cond.Cond.{Cond}
use Rattle.bw_model.specs.declared.cond.Op.{Op}
use Rattle.bw_model.specs.declared.cond.Operand.{Operand}
use Rattle.bw_model.specs.declared.cond.Operand.TheVariants.{Col}
use Rattle.bw_model.specs.declared.cond.Truth.{Truth}
use Rattle.bw_model.specs.Cond.{operand_value, truth_of}
use Rattle.bw_model.specs.Row.{Value, value_in}
use Rattle.bw_model.specs.Truth.{between, compare_values, greatest, in_list, is_null, is_truth}
use Rattle.bw_model.specs.Truth.{negation, truth_from}
use Rattle.bw_model.specs.declared.cond.Cond.TheVariants as asked
use Rattle.bw_model.specs.declared.cond.Op.TheVariants.{Eq}
use Rattle.bw_model.proofs.CondLemmas.{truth_of-Always, truth_of-And, truth_of-Among}
use Rattle.bw_model.proofs.CondLemmas.{truth_of-Between, truth_of-Cmp, truth_of-IsNull, truth_of-Not}
use Rattle.bw_model.proofs.CondLemmas.{truth_of-Or, truth_of-Test}
use Rattle.bw_rowwise.specs.Columns.{Grows, IsAt, values_in}
use Rattle.bw_rowwise.specs.Prepared.{null_truth, places_within, prepared_truth, Absorbs, Prepares}
use Rattle.bw_rowwise.specs.Prepared.{PreparesItems, PreparesOperand, PreparesParts}
use Rattle.bw_rowwise.proofs.NumberLemmas.{column_more}
use Rattle.bw_rowwise.proofs.PreparedLemmas.{alike_pushed, alike_repeated, places-Always, places-Among}
use Rattle.bw_rowwise.proofs.PreparedLemmas.{places-And, places-Between, places-Cmp, places-IsNull}
use Rattle.bw_rowwise.proofs.PreparedLemmas.{places-Not, places-Or, places-Test, truth-Always}
use Rattle.bw_rowwise.proofs.PreparedLemmas.{truth-Among, truth-And, truth-Between, truth-Cmp}
use Rattle.bw_rowwise.proofs.PreparedLemmas.{truth-IsNull, truth-Not, truth-Or, truth-Test}
use Rattle.bw_rowwise.specs.declared.prepared.Prepared.TheVariants as made
use Rattle.bw_rowwise.specs.declared.prepared.Items.{Items}
use Rattle.bw_rowwise.specs.declared.prepared.Prepared.{Prepared}

-- columns that are added, once and once more
pub grows_twice : (first second third : List ℕ) → Grows first second → Grows second third → Grows first third
grows_twice first second third one two =
    (one.0 ++ two.0, two.1 ∙ ap (λ l. l ++ two.0) one.1 ∙ append_assoc first one.0 two.0)

-- the values of columns that were added stand after those that were there
values_grown : (numbers later : List ℕ) (grown : Grows numbers later) (row more : List Value) → values_in later row ++ more ≡ values_in numbers row ++ (values_in grown.0 row ++ more)
values_grown numbers later grown row more =
    ap (λ l. values_in l row ++ more) grown.1 ∙ ap (λ l. l ++ more) (map-append (value_in row) numbers grown.0)
    ∙ append_assoc (values_in numbers row) (values_in grown.0 row) more

pub no_fewer : (numbers later : List ℕ) → Grows numbers later → length numbers ≤ length later
no_fewer numbers later grown = omega (arith, ap length grown.1, length-append numbers grown.0)

-- what is prepared for columns is so for more
pub operand_grown : (operand placed : Operand) (numbers later : List ℕ) → PreparesOperand operand numbers placed → Grows numbers later → PreparesOperand operand later placed
operand_grown operand placed numbers later made grown = record {
  value = λ row more. ap (λ l. operand_value l placed) (values_grown numbers later grown row more) ∙ made.value row (values_in grown.0 row ++ more);
  within = λ places enough. made.within places (omega (arith, enough, no_fewer numbers later grown));
}

pub parts_grown : (conds : List Cond) (prepared : List Prepared) (numbers later : List ℕ) → PreparesParts conds numbers prepared → Grows numbers later → PreparesParts conds later prepared
parts_grown conds prepared numbers later made grown = record {
  value = λ row more. rw (values_grown numbers later grown row more) (made.value row (values_in grown.0 row ++ more));
  within = λ places enough. made.within places (omega (arith, enough, no_fewer numbers later grown));
}

-- the value in the place of a column
pub value_placed : (numbers : List ℕ) (number place : ℕ) (row more : List Value) → IsAt numbers number place → value_in (values_in numbers row ++ more) place ≡ value_in row number
value_placed numbers number place row more at =
    get_or_append_left (values_in numbers row) more None place (omega (arith, length-map numbers (value_in row), at.0))
    ∙ get_or-map (value_in row) numbers place 0 None at.0 ∙ ap (value_in row) at.1

pub value_at_place : (numbers : List ℕ) (number place : ℕ) (row : List Value) → IsAt numbers number place → value_in (values_in numbers row) place ≡ value_in row number
value_at_place numbers number place row at = get_or-map (value_in row) numbers place 0 None at.0 ∙ ap (value_in row) at.1

-- conditions without parts
pub prepares_always : (numbers : List ℕ) → Prepares asked.Always numbers made.Always
prepares_always numbers = record {
  value = λ row more. truth-Always _ ∙ sym (truth_of-Always row);
  within = λ places enough. places-Always places;
}

pub prepares_cmp : (op : Op) (x y x' y' : Operand) (numbers : List ℕ) → PreparesOperand x numbers x' → PreparesOperand y numbers y' → Prepares (asked.Cmp op x y) numbers (made.Cmp op x' y')
prepares_cmp op x y x' y' numbers left right = record {
  value = λ row more. truth-Cmp _ op x' y' ∙ ap₂ (compare_values op) (left.value row more) (right.value row more) ∙ sym (truth_of-Cmp row op x y);
  within = λ places enough. places-Cmp places op x' y' ∙ and_from _ _ (left.within places enough) (right.within places enough);
}

pub prepares_between : (x y z x' y' z' : Operand) (numbers : List ℕ) → PreparesOperand x numbers x' → PreparesOperand y numbers y' → PreparesOperand z numbers z'
    → Prepares (asked.Between x y z) numbers (made.Between x' y' z')
prepares_between x y z x' y' z' numbers first second third = record {
  value = λ row more. truth-Between _ x' y' z' ∙ ap (λ v. between v (operand_value (values_in numbers row ++ more) y') (operand_value (values_in numbers row ++ more) z')) (first.value row more)
      ∙ ap₂ (between (operand_value row x)) (second.value row more) (third.value row more) ∙ sym (truth_of-Between row x y z);
  within = λ places enough. places-Between places x' y' z' ∙ and_from _ _ (and_from _ _ (first.within places enough) (second.within places enough)) (third.within places enough);
}

pub prepares_null : (x x' : Operand) (numbers : List ℕ) → PreparesOperand x numbers x' → Prepares (asked.IsNull x) numbers (made.IsNull x')
prepares_null x x' numbers part = record {
  value = λ row more. truth-IsNull _ x' ∙ ap (λ v. truth_from (is_null v)) (part.value row more) ∙ sym (truth_of-IsNull row x);
  within = λ places enough. places-IsNull places x' ∙ part.within places enough;
}

pub prepares_among : (x x' : Operand) (items : Vec Operand Global) (placed : Items) (numbers : List ℕ) → PreparesOperand x numbers x' → PreparesItems items.items numbers placed
    → Prepares (asked.Among x items) numbers (made.Among x' placed)
prepares_among x x' items placed numbers part list = record {
  value = λ row more. truth-Among _ x' placed ∙ list.value row more _ ∙ ap (λ v. in_list v (map (operand_value row) items.items)) (part.value row more) ∙ sym (truth_of-Among row x items);
  within = λ places enough. places-Among places x' placed ∙ and_from _ _ (part.within places enough) (list.within places enough);
}

-- and with parts
pub prepares_and : (parts : Vec Cond Global) (prepared : Vec Prepared Global) (numbers : List ℕ) → PreparesParts parts.items numbers prepared.items → Prepares (asked.And parts) numbers (made.And prepared)
prepares_and parts prepared numbers all = record {
  value = λ row more. truth-And _ prepared ∙ (all.value row more).all ∙ sym (truth_of-And row parts);
  within = λ places enough. places-And places prepared ∙ all.within places enough;
}

pub prepares_or : (parts : Vec Cond Global) (prepared : Vec Prepared Global) (numbers : List ℕ) → PreparesParts parts.items numbers prepared.items → Prepares (asked.Or parts) numbers (made.Or prepared)
prepares_or parts prepared numbers all = record {
  value = λ row more. truth-Or _ prepared ∙ (all.value row more).any ∙ sym (truth_of-Or row parts);
  within = λ places enough. places-Or places prepared ∙ all.within places enough;
}

pub prepares_not : (part : Box Cond Global) (prepared : Box Prepared Global) (numbers : List ℕ) → Prepares part.value numbers prepared.value → Prepares (asked.Not part) numbers (made.Not prepared)
prepares_not part prepared numbers one = record {
  value = λ row more. truth-Not _ prepared ∙ ap negation (one.value row more) ∙ sym (truth_of-Not row part);
  within = λ places enough. places-Not places prepared ∙ one.within places enough;
}

pub prepares_test : (part : Box Cond Global) (prepared : Box Prepared Global) (t : Truth) (numbers : List ℕ) → Prepares part.value numbers prepared.value → Prepares (asked.Test part t) numbers (made.Test prepared t)
prepares_test part prepared t numbers one = record {
  value = λ row more. truth-Test _ prepared t ∙ ap (λ u. truth_from (is_truth u t)) (one.value row more) ∙ sym (truth_of-Test row part t);
  within = λ places enough. places-Test places prepared t ∙ one.within places enough;
}

-- one part more of a list, or one that is there already
pub part_pushed : (conds : List Cond) (prepared : List Prepared) (i : ℕ) (cond : Cond) (part : Prepared) (numbers later : List ℕ) → i < length conds → cond ≡ get_or conds i cond
    → PreparesParts (take i conds) numbers prepared → Grows numbers later → Prepares cond later part → PreparesParts (take (i + 1) conds) later (prepared ++ part ∷ [])
part_pushed conds prepared i cond part numbers later within is before grown here =
    let so_far = parts_grown (take i conds) prepared numbers later before grown in
    record {
      value = λ row more. alike_pushed (prepared_truth (values_in later row ++ more)) (truth_of row) prepared conds i cond part within is (here.value row more) (so_far.value row more);
      within = λ places enough. list_all-append (places_within places) prepared (part ∷ []) ∙ and_from _ _ (so_far.within places enough) (and_from _ _ (here.within places enough) refl);
    }

pub part_repeated : (conds : List Cond) (prepared : List Prepared) (i : ℕ) (cond : Cond) (numbers : List ℕ) → i < length conds → cond ≡ get_or conds i cond
    → PreparesParts (take i conds) numbers prepared → ((row : List Value) → Absorbs (map (truth_of row) (take i conds)) (truth_of row cond)) → PreparesParts (take (i + 1) conds) numbers prepared
part_repeated conds prepared i cond numbers within is before absorbed = record {
  value = λ row more. alike_repeated (truth_of row) (map (prepared_truth (values_in numbers row ++ more)) prepared) conds i cond (truth_of row cond) within is refl (absorbed row) (before.value row more);
  within = before.within;
}

-- one column more in a list
pub column_step : (x : Value) (row more : List Value) (items : List Operand) (numbers : Truth) (now later : List ℕ) (places : List ℕ) (has_null : Bool) (i : ℕ) (d : Operand) (number place : ℕ)
    → i < length items → get_or items i d ≡ Col number → Grows now later → IsAt later number place
    → ((row more : List Value) → greatest numbers (greatest (in_list x (map (value_in (values_in now row ++ more)) places)) (null_truth has_null)) ≡ in_list x (map (operand_value row) (take i items)))
    → greatest numbers (greatest (greatest (in_list x (map (value_in (values_in later row ++ more)) places)) (compare_values Eq x (value_in (values_in later row ++ more) place))) (null_truth has_null))
    ≡ in_list x (map (operand_value row) (take (i + 1) items))
column_step x row more items numbers now later places has_null i d number place within is grown at before =
    let so_far : greatest numbers (greatest (in_list x (map (value_in (values_in later row ++ more)) places)) (null_truth has_null)) ≡ in_list x (map (operand_value row) (take i items)) =
    ap (λ (l : List Value). greatest numbers (greatest (in_list x (map (value_in l) places)) (null_truth has_null))) (values_grown now later grown row more) ∙ before row (values_in grown.0 row ++ more) in
    ap (λ (v : Value). greatest numbers (greatest (greatest (in_list x (map (value_in (values_in later row ++ more)) places)) (compare_values Eq x v)) (null_truth has_null))) (value_placed later number place row more at)
    ∙ column_more x row items numbers (in_list x (map (value_in (values_in later row ++ more)) places)) has_null i d within so_far number is
