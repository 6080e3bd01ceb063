-- Bytes whose blocks are without error are the bytes of the rows that they spell.
use Rattle.std.proofs.Common.{◌≡◌, ◌∙◌, refl, sym, ap, ap₂, ℕ, zero, suc, ◌+◌, ◌<◌, ◌≤◌, ◌^◌, Bool}
use Rattle.std.proofs.Common.{true, false, cond, List, [], ◌∷◌, ◌++◌, map, flat_map, length, take}
use Rattle.std.proofs.Common.{drop, get_or, replicate, None, inl, inr, arith}
use Rattle.std.specs.List.{range_with_len, All}
use Rattle.std.proofs.lemmas.List.{take-append-drop, length-take, length-drop, length-replicate}
use Rattle.std.proofs.lemmas.List.Elements.{All-take, All-drop}
use Rattle.std.proofs.lemmas.List.Sums.{list_all-from_AllPass}
use Rattle.std.proofs.lemmas.Bool.{cases_Bool}
use Rattle.std.proofs.lemmas.List.FromFn.{length-map-range_with_len, get_or-map-range_with_len}
use lib.Lanes.{Each1}
use Rattle.bw_lanes.specs.Lanes.{bytes_of_lanes, lanes_of_bytes}
use Rattle.bw_lanes.proofs.StoredLemmas.{bytes_of_lanes_of_bytes}
use Rattle.bw_lanes.proofs.WordLemmas.{length-lanes_of_bytes}
use Rattle.bw_model.specs.declared.column.Column.{Column}
use Rattle.bw_model.specs.Row.{Value, value_in}
use Rattle.bw_model.specs.Code.{width_at, span_at}
use Rattle.bw_model.specs.Column.{admits_values}
use Rattle.bw_model.specs.Groups.{group_size}
use Rattle.bw_model.specs.StoredCodes.{stored_at}
use Rattle.bw_model.specs.Truth.{is_null}
use Rattle.bw_model.specs.Variable.{is_nullable}
use Rattle.bw_segment.specs.Packing.{Packing, IsPacking, null_size, block_size, bytes_before}
use Rattle.bw_segment.specs.Packing.{block_bytes, segment_bytes, block_at, block_nulls, block_codes}
use Rattle.bw_segment.specs.Packing.{value_held, value_in_block, rows_spelled}
use Rattle.bw_segment.specs.BlockFault.{padding_fault, block_fault, IsSound}
use Rattle.bw_segment.specs.Meaning.{IsGroup, stored_codes, null_bits}
use Rattle.bw_segment.proofs.FaultLemmas.{padding_none, row_none, lanes_none_at, of_rows}
use Rattle.bw_segment.proofs.ValueLemmas.{admits_at, is_null_held, stored_held, held_is_admitted}
use Rattle.bw_segment.proofs.ValueLemmas.{admitted_by_column}
use Rattle.bw_segment.proofs.LayoutLemmas.{before_in_order, cuts_are_all}
use Rattle.bw_segment.proofs.BytesLemmas.{get_or-same, padded_is}

pub same_in_range : (f g : ℕ → List ℕ) (a k : ℕ) → ((at : ℕ) → a ≤ at → at < a + k → f at ≡ g at) → flat_map f (range_with_len a k) ≡ flat_map g (range_with_len a k)
same_in_range f g a zero each = refl
same_in_range f g a (suc k) each = ap₂ ◌++◌ (each a (omega arith) (omega arith)) (same_in_range f g (a + 1) k (λ at from to. each at (omega arith) (omega arith)))

pub each_below : (bytes : List ℕ) → All (λ byte. byte < 2 ^ 8) bytes → Each1 (λ byte. byte < 2 ^ 8) bytes
each_below [] all = tt
each_below (byte ∷ bytes) all = (all 0 byte (omega arith), each_below bytes (λ k d lt. all (suc k) d (omega arith)))

pub length-rows_spelled : (packing : Packing) (columns : List Column) (count : ℕ) (bytes : List ℕ) → length (rows_spelled packing columns count bytes) ≡ count
unfolding rows_spelled
length-rows_spelled packing columns count bytes =
    length-map-range_with_len (λ row. map (λ column. value_in_block packing columns column (block_at packing columns column bytes) row) (range_with_len 0 (length columns))) 0 count

module _ (packing : Packing) (law : IsPacking packing) (columns : List Column) (count : ℕ) (bytes : List ℕ) (few : count ≤ group_size) (sound : IsSound packing columns count bytes) where
  abbrev pub block : ℕ → List ℕ
  block col = block_at packing columns col bytes

  abbrev pub null : ℕ → ℕ → Bool
  null col row = get_or (block_nulls columns col (block col)) row false

  abbrev pub code : ℕ → ℕ → ℕ
  code col row = get_or (block_codes packing columns col (block col)) row 0

  abbrev pub values : ℕ → List Value
  values row = map (λ column. value_in_block packing columns column (block column) row) (range_with_len 0 (length columns))

  at_most_512 : count ≤ 512
  unfolding group_size
  at_most_512 = few

  pub length-cut : (col : ℕ) → col < length columns → length (block col) ≡ block_size packing columns col
  length-cut col there =
      let room = before_in_order packing columns (suc col) (length columns) (omega arith) in
      omega (arith, length-take (block_size packing columns col) (drop (bytes_before packing columns col) bytes), length-drop (bytes_before packing columns col) bytes, sound.size, room)

  lanes : (col : ℕ) → col < length columns
      → ((row : ℕ) → count ≤ row → row < 512 → padding_fault (null col row) (code col row) ≡ None) × ((row : ℕ) → row < count → of_rows (span_at columns col) count (block_nulls columns col (block col)) (block_codes packing columns col (block col)) row ≡ None)
  unfolding block_fault
  lanes col there = lanes_none_at (span_at columns col) count (block_nulls columns col (block col)) (block_codes packing columns col (block col)) (sound.without col there)

  pub row_is_fine : (col row : ℕ) → col < length columns → row < count → (null col row ≡ true → code col row ≡ 0) × (code col row ≤ span_at columns col)
  row_is_fine col row there lt = row_none (span_at columns col) (null col row) (code col row) ((lanes col there).1 row lt)

  null_is_nullable : (col row : ℕ) → null col row ≡ true → is_nullable columns col ≡ true
  unfolding block_nulls
  null_is_nullable col row set = elim (cases_Bool (is_nullable columns col)) [
    | inl nullable ↦ nullable
    | inr never ↦ let unset = sym set ∙ ap (λ b. get_or (cond b (lanes_of_bytes (take 64 (block col))) (replicate group_size false)) row false) never ∙ get_or-same group_size row false in cc
  ]

  value_in_row : (col row : ℕ) → col < length columns → value_in (values row) col ≡ value_held columns col (null col row) (code col row)
  value_in_row col row there = get_or-map-range_with_len (λ column. value_in_block packing columns column (block column) row) 0 (length columns) col col None there (omega arith)

  row_is_admitted : (row : ℕ) → row < count → admits_values columns (values row) ≡ true
  row_is_admitted row lt =
      admitted_by_column columns (values row) (length-map-range_with_len (λ column. value_in_block packing columns column (block column) row) 0 (length columns))
      (λ col there. ap (admits_at columns col) (value_in_row col row there) ∙ held_is_admitted columns col (null col row) (code col row) there (null_is_nullable col row) (row_is_fine col row there lt).1)

  pub spelled_group : (name : List ℕ) → 1 ≤ count → IsGroup (record { name = name; columns = columns; rows = rows_spelled packing columns count bytes })
  unfolding rows_spelled
  spelled_group name some =
      let long = length-rows_spelled packing columns count bytes in
      record {
        nonempty = omega (arith, some, long);
        within_limit = omega (arith, few, long);
        admitted = list_all-from_AllPass (admits_values columns) (map values (range_with_len 0 count)) (λ row d lt.
            let there : row < count = omega (arith, lt, length-map-range_with_len values 0 count) in
            ap (admits_values columns) (get_or-map-range_with_len values 0 count row row d there (omega arith)) ∙ row_is_admitted row there);
      }

  length-nulls : (col : ℕ) → col < length columns → length (block_nulls columns col (block col)) ≡ 512
  unfolding block_nulls group_size
  length-nulls col there = go (is_nullable columns col) refl
    where
      go : (b : Bool) → is_nullable columns col ≡ b → length (cond b (lanes_of_bytes (take 64 (block col))) (replicate 512 false)) ≡ 512
      go true nullable =
          let one : ◌≡◌ {A = ℕ} (null_size columns col) 64 = ap (λ b. cond b 64 0) nullable in
          omega (arith, length-lanes_of_bytes (take 64 (block col)), length-take 64 (block col), length-cut col there, one)
      go false never = length-replicate 512 false

  pub nulls_again : (col : ℕ) → col < length columns → null_bits (rows_spelled packing columns count bytes) col ≡ block_nulls columns col (block col)
  unfolding null_bits rows_spelled group_size
  nulls_again col there =
      padded_is values (λ row. is_null (value_in row col)) (block_nulls columns col (block col)) count false (length-nulls col there) at_most_512
      (λ row lt. sym (ap is_null (value_in_row col row there) ∙ is_null_held columns col (null col row) (code col row)))
      (λ row from to. (padding_none (null col row) (code col row) ((lanes col there).0 row from to)).0)

  length-codes : (col : ℕ) → col < length columns → length (drop (null_size columns col) (block col)) ≡ packing.size (width_at columns col)
  length-codes col there = omega (arith, length-drop (null_size columns col) (block col), length-cut col there)

  pub codes_again : (col : ℕ) → col < length columns → stored_codes columns (rows_spelled packing columns count bytes) col ≡ block_codes packing columns col (block col)
  unfolding stored_codes rows_spelled group_size block_codes
  codes_again col there =
      padded_is values (λ row. stored_at columns col (value_in row col)) (block_codes packing columns col (block col)) count 0 (law.codes_length (width_at columns col) (drop (null_size columns col) (block col)) (length-codes col there)) at_most_512
      (λ row lt.
      let fine = row_is_fine col row there lt in
      sym (ap (stored_at columns col) (value_in_row col row there) ∙ stored_held columns col (null col row) (code col row) there fine.0 fine.1))
      (λ row from to. (padding_none (null col row) (code col row) ((lanes col there).0 row from to)).1)

  module _ (small : All (λ byte. byte < 2 ^ 8) bytes) where
    block_again : (col : ℕ) → col < length columns → block_bytes packing columns col (rows_spelled packing columns count bytes) ≡ block col
    unfolding block_bytes block_nulls block_codes
    block_again col there =
        ap₂ (λ nulls codes. cond (is_nullable columns col) (bytes_of_lanes nulls) [] ++ packing.bytes (width_at columns col) codes) (nulls_again col there) (codes_again col there)
        ∙ ap₂ ◌++◌ front back ∙ take-append-drop (null_size columns col) (block col)
      where
        below : All (λ byte. byte < 2 ^ 8) (block col)
        below = All-take (λ byte. byte < 2 ^ 8) (block_size packing columns col) (drop (bytes_before packing columns col) bytes) (All-drop (λ byte. byte < 2 ^ 8) (bytes_before packing columns col) bytes small)

        front : cond (is_nullable columns col) (bytes_of_lanes (block_nulls columns col (block col))) [] ≡ take (null_size columns col) (block col)
        front = go (is_nullable columns col) refl
          where
            go : (b : Bool) → is_nullable columns col ≡ b → cond b (bytes_of_lanes (cond b (lanes_of_bytes (take 64 (block col))) (replicate group_size false))) [] ≡ take (cond b 64 0) (block col)
            go true nullable =
                let one : ◌≡◌ {A = ℕ} (null_size columns col) 64 = ap (λ b. cond b 64 0) nullable in
                bytes_of_lanes_of_bytes (take 64 (block col)) (omega (arith, length-take 64 (block col), length-cut col there, one)) (each_below (take 64 (block col)) (All-take (λ byte. byte < 2 ^ 8) 64 (block col) below))
            go false never = refl

        back : packing.bytes (width_at columns col) (block_codes packing columns col (block col)) ≡ drop (null_size columns col) (block col)
        back = law.codes_spelled (width_at columns col) (drop (null_size columns col) (block col)) (length-codes col there) (All-drop (λ byte. byte < 2 ^ 8) (null_size columns col) (block col) below)

    pub bytes_again : segment_bytes packing columns (rows_spelled packing columns count bytes) ≡ bytes
    unfolding segment_bytes
    bytes_again =
        same_in_range (λ col. block_bytes packing columns col (rows_spelled packing columns count bytes)) block 0 (length columns) (λ col from to. block_again col (omega (arith, to)))
        ∙ cuts_are_all packing columns bytes sound.size
