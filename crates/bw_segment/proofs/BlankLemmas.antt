-- The block of no rows, which is that of any rows that have a column's minimum.
use Rattle.std.proofs.Common.{◌≡◌, ◌∙◌, sym, ap, ap₂, ℕ, ◌+◌, ◌-◌, ◌<◌, ◌≤◌, Bool, true, false, cond}
use Rattle.std.proofs.Common.{List, [], ◌∷◌, ◌++◌, length, map, replicate, Some, None, refl, arith}
use Rattle.std.specs.List.{list_all, range_with_len}
use Rattle.std.proofs.lemmas.List.{length-map, length-replicate, replicate-append-replicate}
use Rattle.std.proofs.lemmas.List.FromFn.{get_or-map-range_with_len, length-map-range_with_len}
use Rattle.bw_lanes.specs.Lanes.{bytes_of_lanes}
use Rattle.bw_model.specs.declared.column.Column.{Column}
use Rattle.bw_model.specs.Code.{value_at, width_at}
use Rattle.bw_model.specs.Column.{admits_values}
use Rattle.bw_model.specs.Groups.{group_size}
use Rattle.bw_model.specs.Row.{Value, value_in}
use Rattle.bw_model.specs.StoredCodes.{stored_at}
use Rattle.bw_model.specs.Truth.{is_null}
use Rattle.bw_model.specs.Variable.{is_nullable}
use Rattle.bw_segment.specs.BlockFault.{block_fault}
use Rattle.bw_segment.specs.Meaning.{IsGroup, null_bits, stored_codes}
use Rattle.bw_segment.specs.Packing.{Packing, IsPacking, block_bytes, block_size}
use Rattle.bw_segment.proofs.BytesLemmas.{block_is_fine, length-block}
use Rattle.bw_segment.proofs.ValueLemmas.{admits_at, admitted_by_column, held_is_admitted, stored_held}

-- lanes that all have one value
all_same : {A : Type 0} (n : ℕ) (x : A) → n ≤ 512 → replicate n x ++ replicate (512 - n) x ≡ replicate 512 x
all_same n x few = replicate-append-replicate n (512 - n) x ∙ ap (λ k. replicate k x) {x = n + (512 - n)} {y = 512} (omega arith)

map_to : {A B : Type 0} (f : A → B) (xs : List A) (y : B) → ((x : A) → f x ≡ y) → map f xs ≡ replicate (length xs) y
map_to f [] y each = refl
map_to f (x ∷ xs) y each = ap₂ ◌∷◌ (each x) (map_to f xs y each)

map_alike : {A B : Type 0} (f : B → A) (g : List Value → B) (h : List Value → A) (rows : List (List Value)) → ((row : List Value) → f (g row) ≡ h row) → map f (map g rows) ≡ map h rows
map_alike f g h [] each = refl
map_alike f g h (row ∷ rows) each = ap₂ ◌∷◌ (each row) (map_alike f g h rows each)

-- the value of a column's least code
abbrev pub least_value : List Column → ℕ → Value
least_value columns col = Some (value_at columns col 0)

module _ (packing : Packing) (columns : List Column) (col : ℕ) where
  -- rows that are changed, but not in this column
  pub block_same : (g : List Value → List Value) (rows : List (List Value)) → ((row : List Value) → value_in (g row) col ≡ value_in row col)
      → block_bytes packing columns col (map g rows) ≡ block_bytes packing columns col rows
  unfolding block_bytes null_bits stored_codes
  block_same g rows each =
      let count = length-map rows g in
      let nulls = map_alike (λ (row : List Value). is_null (value_in row col)) g (λ (row : List Value). is_null (value_in row col)) rows (λ row. ap is_null (each row)) in
      let codes = map_alike (λ (row : List Value). stored_at columns col (value_in row col)) g (λ (row : List Value). stored_at columns col (value_in row col)) rows (λ row. ap (stored_at columns col) (each row)) in
      ap₂ (λ (n : List Bool) (l : List ℕ). cond (is_nullable columns col) (bytes_of_lanes n) [] ++ packing.bytes (width_at columns col) l)
      (ap₂ (λ (n : List Bool) (k : ℕ). n ++ replicate (group_size - k) false) nulls count) (ap₂ (λ (l : List ℕ) (k : ℕ). l ++ replicate (group_size - k) 0) codes count)

  -- rows that all have the column's least value
  pub block_blank : (g : List Value → List Value) (rows : List (List Value)) → col < length columns → length rows ≤ 512 → ((row : List Value) → value_in (g row) col ≡ least_value columns col)
      → block_bytes packing columns col (map g rows) ≡ block_bytes packing columns col []
  unfolding block_bytes null_bits stored_codes group_size
  block_blank g rows there few each =
      let count = length-map rows g in
      let zero : stored_at columns col (least_value columns col) ≡ 0 = stored_held columns col false 0 there (λ e. absurd cc) (omega arith) in
      let nulls = map_alike (λ (row : List Value). is_null (value_in row col)) g (λ (row : List Value). false) rows (λ row. ap is_null (each row)) ∙ map_to (λ (row : List Value). false) rows false (λ row. refl) in
      let codes = map_alike (λ (row : List Value). stored_at columns col (value_in row col)) g (λ (row : List Value). 0) rows (λ row. ap (stored_at columns col) (each row) ∙ zero) ∙ map_to (λ (row : List Value). 0) rows 0 (λ row. refl) in
      ap₂ (λ (n : List Bool) (l : List ℕ). cond (is_nullable columns col) (bytes_of_lanes n) [] ++ packing.bytes (width_at columns col) l)
      (ap₂ (λ (n : List Bool) (k : ℕ). n ++ replicate (512 - k) false) nulls count ∙ all_same (length rows) false few)
      (ap₂ (λ (l : List ℕ) (k : ℕ). l ++ replicate (512 - k) 0) codes count ∙ all_same (length rows) 0 few)

-- so many rows, of no values
abbrev pub no_values : ℕ → List (List Value)
no_values count = replicate count []

count_of : (count : ℕ) → length (no_values count) ≡ count
count_of count = length-replicate {A = List Value} count []

-- a row of least values
abbrev pub blank_row : List Column → List Value → List Value
blank_row columns row = map (least_value columns) (range_with_len 0 (length columns))

module _ (packing : Packing) (law : IsPacking packing) (columns : List Column) where
  blank_at : (col : ℕ) (row : List Value) → col < length columns → value_in (blank_row columns row) col ≡ least_value columns col
  blank_at col row there = get_or-map-range_with_len (least_value columns) 0 (length columns) col col None there (omega arith)

  blank_admitted : (row : List Value) → admits_values columns (blank_row columns row) ≡ true
  blank_admitted row =
      admitted_by_column columns (blank_row columns row) (length-map-range_with_len (least_value columns) 0 (length columns))
      (λ col there. ap (admits_at columns col) (blank_at col row there) ∙ held_is_admitted columns col false 0 there (λ e. absurd cc) (omega arith))

  all_admitted : (rows : List (List Value)) → list_all (admits_values columns) (map (blank_row columns) rows) ≡ true
  all_admitted [] = refl
  all_admitted (row ∷ rows) = rw (blank_admitted row, all_admitted rows) refl

  -- so many rows of least values
  blank_group : (count : ℕ) → 1 ≤ count → count ≤ 512 → IsGroup (record { name = []; columns = columns; rows = map (blank_row columns) (no_values count) })
  unfolding group_size
  blank_group count some few =
      let long = length-map (no_values count) (blank_row columns) in
      let size = count_of count in
      record { nonempty = omega (arith, long, size); within_limit = omega (arith, long, size); admitted = all_admitted (no_values count) }

  is_blank : (col count : ℕ) → col < length columns → count ≤ 512 → block_bytes packing columns col (map (blank_row columns) (no_values count)) ≡ block_bytes packing columns col []
  is_blank col count there few = block_blank packing columns col (blank_row columns) (no_values count) there (omega (arith, count_of count)) (λ row. blank_at col row there)

  pub blank_is_fine : (col count : ℕ) → col < length columns → 1 ≤ count → count ≤ 512 → block_fault packing columns col count (block_bytes packing columns col []) ≡ None
  blank_is_fine col count there some few =
      let rows = map (blank_row columns) (no_values count) in
      let size : length rows ≡ count = length-map (no_values count) (blank_row columns) ∙ count_of count in
      ap₂ (block_fault packing columns col) (sym size) (sym (is_blank col count there few)) ∙ block_is_fine packing law (record { name = []; columns = columns; rows = rows }) (blank_group count some few) col there

  pub length-blank : (col : ℕ) → col < length columns → length (block_bytes packing columns col []) ≡ block_size packing columns col
  length-blank col there =
      ap length (sym (is_blank col 1 there (omega arith))) ∙ length-block packing law (record { name = []; columns = columns; rows = map (blank_row columns) (no_values 1) }) (blank_group 1 (omega arith) (omega arith)) col
