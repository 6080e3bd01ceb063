-- The values of a column in the lanes of a group, by its nulls and its codes.
use Rattle.std.proofs.Common.{◌≡◌, ◌∙◌, refl, sym, ap, ap₂, ℕ, zero, suc, ℤ, ◌+◌, ◌-◌, ◌<◌, ◌≤◌}
use Rattle.std.proofs.Common.{pos, Bool, true, false, not, cond, ◌==◌, ◌||◌, List, [], ◌∷◌, ◌++◌}
use Rattle.std.proofs.Common.{map, length, replicate, get_or, Some, None, All, arith}
use Rattle.std.specs.List.{list_all}
use Rattle.std.proofs.lemmas.List.{get_or-map, get_or-replicate}
use lib.Lanes.{zip2}
use Rattle.bw_lanes.specs.Selected.{as_byte}
use Rattle.bw_model.specs.declared.column.Column.{Column}
use Rattle.bw_model.specs.Row.{Value, value_in}
use Rattle.bw_model.specs.Code.{span_of, value_of_code, value_at}
use Rattle.bw_model.specs.Column.{admits_values}
use Rattle.bw_model.specs.Groups.{group_size}
use Rattle.bw_model.specs.StoredCodes.{stored_at}
use Rattle.bw_model.specs.Truth.{is_null}
use Rattle.bw_model.proofs.BitsLemmas.{both}
use Rattle.bw_segment.specs.Packing.{value_held}
use Rattle.bw_segment.specs.Meaning.{Meaning, IsGroup, null_bits, stored_codes, code_lanes}
use Rattle.bw_segment.proofs.BytesLemmas.{stored_in_span}
use Rattle.bw_segment.proofs.FaultLemmas.{zero_everywhere}
use Rattle.bw_segment.proofs.ValueLemmas.{held_admitted}

-- the lanes past the last row, and those in which there is no value
abbrev pub past_lanes : ℕ → List Bool
past_lanes count = map not (replicate count true ++ replicate (512 - count) false)

abbrev pub empty_lanes : List (List Value) → ℕ → List Bool
empty_lanes rows col = map (λ row. is_null (value_in row col)) rows ++ replicate (512 - length rows) true

nulls_or_past : (null : List Value → Bool) (m : ℕ) (rows : List (List Value))
    → zip2 (λ x y. x || y) (map not (replicate (length rows) true ++ replicate m false)) (map null rows ++ replicate m false) ≡ map null rows ++ replicate m true
nulls_or_past null zero [] = refl
nulls_or_past null (suc m) [] = ap (λ l. true ∷ l) (nulls_or_past null m [])
nulls_or_past null m (row ∷ rows) = ap (λ l. null row ∷ l) (nulls_or_past null m rows)

pub empty_is : (meaning : Meaning) (col : ℕ) (past plane : List Bool) → past ≡ past_lanes (length meaning.rows) → plane ≡ null_bits meaning.rows col
    → zip2 (λ x y. x || y) past plane ≡ empty_lanes meaning.rows col
unfolding null_bits group_size
empty_is meaning col past plane is plane_is =
    ap₂ (zip2 (λ x y. x || y)) is plane_is ∙ nulls_or_past (λ row. is_null (value_in row col)) (512 - length meaning.rows) meaning.rows

-- each code is one of the column's
pub codes_within : (meaning : Meaning) (col : ℕ) (column : Column) → col < length meaning.columns → column ≡ get_or meaning.columns col column → All (λ code. code ≤ span_of column) (code_lanes meaning col)
codes_within meaning col column lt is = λ k d there.
    omega (arith, stored_in_span meaning.columns meaning.rows col lt k d there, get_or-map span_of meaning.columns col column 0 lt ∙ ap span_of (sym is))

-- the values that the nulls and the codes are
held_in_lanes : (columns : List Column) (col m : ℕ) (rows : List (List Value)) (lane : ℕ) → list_all (admits_values columns) rows ≡ true → col < length columns → lane < length rows + m
    → value_held columns col (get_or (map (λ row. is_null (value_in row col)) rows ++ replicate m true) lane false) (get_or (map (λ row. stored_at columns col (value_in row col)) rows ++ replicate m 0) lane 0)
    ≡ value_in (get_or rows lane []) col
held_in_lanes columns col m [] lane all lt there = ap (λ null. value_held columns col null (get_or (replicate m 0) lane 0)) (get_or-replicate m lane true false (omega arith))
held_in_lanes columns col m (row ∷ rows) zero all lt there = held_admitted columns row col (both (admits_values columns row) (list_all (admits_values columns) rows) all).0 lt
held_in_lanes columns col m (row ∷ rows) (suc lane) all lt there = held_in_lanes columns col m rows lane (both (admits_values columns row) (list_all (admits_values columns) rows) all).1 lt (omega arith)

chosen : (lanes : List Bool) (lane : ℕ) (n : ℤ) → cond (get_or (map as_byte lanes) lane 0 == 0) (Some n) None ≡ cond (get_or lanes lane false) None (Some n)
chosen [] lane n = refl
chosen (true ∷ lanes) zero n = refl
chosen (false ∷ lanes) zero n = refl
chosen (empty ∷ lanes) (suc lane) n = chosen lanes lane n

-- the value that is put into a lane
module _ (meaning : Meaning) (col lane : ℕ) (column : Column) (group : IsGroup meaning) (lt : col < length meaning.columns) (there : lane < 512) (is : column ≡ get_or meaning.columns col column) where
  abbrev empty : List Bool
  empty = empty_lanes meaning.rows col

  abbrev code : ℕ
  code = get_or (code_lanes meaning col) lane 0

  pub value_here : cond (get_or empty lane false) None (Some (value_of_code column code)) ≡ value_in (get_or meaning.rows lane []) col
  unfolding stored_codes group_size
  value_here =
      let value : value_of_code column code ≡ value_at meaning.columns col code = ap (λ c. value_of_code c code) is ∙ sym (get_or-map (λ c. value_of_code c code) meaning.columns col column (pos 0) lt) in
      ap (λ n. cond (get_or empty lane false) None (Some n)) value ∙ held_in_lanes meaning.columns col (512 - length meaning.rows) meaning.rows lane group.admitted lt (omega arith)

  pub put_in_lane : cond (get_or (map as_byte empty) lane 0 == 0) (Some (value_of_code column code)) None ≡ value_in (get_or meaning.rows lane []) col
  put_in_lane = chosen empty lane (value_of_code column code) ∙ value_here

  -- if no lane is without one
  pub put_in_full : list_all not empty ≡ true → Some (value_of_code column code) ≡ value_in (get_or meaning.rows lane []) col
  put_in_full none = ap {B = Value} (λ null. cond null None (Some (value_of_code column code))) (sym (zero_everywhere empty lane none)) ∙ value_here
