-- The bytes of a group: its blocks, which are without error, and the rows that they spell.
use Rattle.std.proofs.Common.{◌≡◌, ◌∙◌, refl, sym, ap, ap₂, ℕ, zero, suc, ◌+◌, ◌-◌, ◌<◌, ◌≤◌, ◌^◌}
use Rattle.std.proofs.Common.{Bool, true, false, cond, List, [], ◌∷◌, ◌++◌, map, length, take, drop}
use Rattle.std.proofs.Common.{get_or, replicate, length-append, None, inl, inr, arith, ext_get_or}
use Rattle.std.specs.List.{range_with_len, list_all, All}
use Rattle.std.proofs.Math.Seq.{drop-append_seam, take-append_seam}
use Rattle.std.proofs.Math.ListN.{get_or-append}
use Rattle.std.proofs.lemmas.Bool.{cases_lt}
use Rattle.std.proofs.lemmas.List.{length-map, length-replicate, get_or-map}
use Rattle.std.proofs.lemmas.List.{replicate-append-replicate}
use Rattle.std.proofs.lemmas.List.Elements.{All-append, All-get_or, All-map, All-replicate}
use Rattle.std.proofs.lemmas.List.Sums.{AllPass-from_list_all}
use Rattle.std.proofs.lemmas.List.FromFn.{fill_by_all, length-map-range_with_len}
use Rattle.std.proofs.lemmas.List.FromFn.{get_or-map-range_with_len}
use Rattle.bw_lanes.specs.Lanes.{bytes_of_lanes, lanes_of_bytes}
use Rattle.bw_lanes.proofs.StoredLemmas.{lanes_of_bytes_of_lanes, length-bytes_of_lanes}
use Rattle.bw_model.specs.declared.column.Column.{Column}
use Rattle.bw_model.specs.Row.{Value, value_in}
use Rattle.bw_model.specs.Code.{width_at, span_at}
use Rattle.bw_model.specs.Column.{admits_values}
use Rattle.bw_model.specs.Groups.{group_size}
use Rattle.bw_model.specs.StoredCodes.{stored_at}
use Rattle.bw_model.specs.Truth.{is_null}
use Rattle.bw_model.specs.Variable.{is_nullable}
use Rattle.bw_model.proofs.BitsLemmas.{both}
use Rattle.bw_segment.specs.Packing.{Packing, IsPacking, null_size, block_size, segment_size}
use Rattle.bw_segment.specs.Packing.{block_bytes, segment_bytes, block_at, block_nulls, block_codes}
use Rattle.bw_segment.specs.Packing.{value_held, value_in_block, rows_spelled}
use Rattle.bw_segment.specs.BlockFault.{padding_fault, row_fault, lanes_fault, block_fault, IsSound}
use Rattle.bw_segment.specs.Meaning.{Meaning, IsGroup, stored_codes, null_bits}
use Rattle.bw_segment.proofs.FaultLemmas.{first_none, row_clear, lanes_none, of_rows}
use Rattle.bw_segment.proofs.CodeLemmas.{length_admitted}
use Rattle.bw_segment.proofs.PlacementLemmas.{span_fits}
use Rattle.bw_segment.proofs.ValueLemmas.{null_admitted, stored_within, stored_null, held_admitted}
use Rattle.bw_segment.proofs.LayoutLemmas.{length-blocks, block_of_joined}

-- lanes of rows, and then the same in the padding
lane_of_row : {A : Type 0} (of_row : List Value → A) (rows : List (List Value)) (padding : List A) (row : ℕ) (d : A) → row < length rows → get_or (map of_row rows ++ padding) row d ≡ of_row (get_or rows row [])
lane_of_row of_row rows padding row d lt = get_or-append (map of_row rows) padding d row (omega (arith, length-map rows of_row)) ∙ get_or-map of_row rows row [] d lt

pub get_or-same : {A : Type 0} (count at : ℕ) (z : A) → get_or (replicate count z) at z ≡ z
get_or-same zero at z = refl
get_or-same (suc count) zero z = refl
get_or-same (suc count) (suc at) z = get_or-same count at z

lane_of_padding : {A : Type 0} (of_row : List Value → A) (rows : List (List Value)) (count row : ℕ) (z : A) → length rows ≤ row → get_or (map of_row rows ++ replicate count z) row z ≡ z
lane_of_padding of_row [] count row z le = get_or-same count row z
lane_of_padding of_row (values ∷ rows) count zero z le = absurd (omega arith)
lane_of_padding of_row (values ∷ rows) count (suc row) z le = lane_of_padding of_row rows count row z (omega arith)

length_padded : {A : Type 0} (of_row : List Value → A) (rows : List (List Value)) (z : A) → length rows ≤ 512 → length (map of_row rows ++ replicate (512 - length rows) z) ≡ 512
length_padded of_row rows z few =
    let padding = length-replicate (512 - length rows) z in
    omega (arith, length-append (map of_row rows) (replicate (512 - length rows) z), length-map rows of_row, padding)

-- lanes that are those of rows, and then the same in the padding
pub padded_is : {A : Type 0} (row_of : ℕ → List Value) (of_row : List Value → A) (xs : List A) (count : ℕ) (z : A) → length xs ≡ 512 → count ≤ 512
    → ((row : ℕ) → row < count → get_or xs row z ≡ of_row (row_of row)) → ((row : ℕ) → count ≤ row → row < 512 → get_or xs row z ≡ z)
    → map of_row (map row_of (range_with_len 0 count)) ++ replicate (512 - length (map row_of (range_with_len 0 count))) z ≡ xs
padded_is row_of of_row xs count z long few rows padding =
    let given = map row_of (range_with_len 0 count) in
    let all = length-map-range_with_len row_of 0 count in
    let size = length_padded of_row given z (omega (arith, all)) in
    ext_get_or z (map of_row given ++ replicate (512 - length given) z) xs (size ∙ sym long) (λ row lt. elim (cases_lt row count) [
      | inl before ↦
          lane_of_row of_row given (replicate (512 - length given) z) row z (omega (arith, all))
          ∙ ap of_row (get_or-map-range_with_len row_of 0 count row row [] before (omega arith)) ∙ sym (rows row before)
      | inr past ↦ lane_of_padding of_row given (512 - length given) row z (omega (arith, all)) ∙ sym (padding row past (omega (arith, lt, size)))
    ])

no_nulls : (columns : List Column) (rows : List (List Value)) (col : ℕ) → list_all (admits_values columns) rows ≡ true → col < length columns → is_nullable columns col ≡ false
    → map (λ row. is_null (value_in row col)) rows ≡ replicate (length rows) false
no_nulls columns [] col all lt never = refl
no_nulls columns (row ∷ rows) col all lt never =
    let each = both (admits_values columns row) (list_all (admits_values columns) rows) all in
    ap₂ ◌∷◌ (null_admitted columns row col each.0 lt never) (no_nulls columns rows col each.1 lt never)

-- each code of rows is one of the column's
pub stored_in_span : (columns : List Column) (rows : List (List Value)) (col : ℕ) → col < length columns → All (λ code. code ≤ span_at columns col) (stored_codes columns rows col)
unfolding stored_codes
stored_in_span columns rows col there =
    let within = λ (code : ℕ). code ≤ span_at columns col in
    let stored = λ (row : List Value). stored_at columns col (value_in row col) in
    All-append within (map stored rows) (replicate (group_size - length rows) 0)
    (All-map within stored rows (λ k d lt. stored_within columns col (value_in (get_or rows k d) col) there)) (All-replicate within (group_size - length rows) 0 (omega arith))

-- the bytes of a group
module _ (packing : Packing) (law : IsPacking packing) (meaning : Meaning) (group : IsGroup meaning) where
  abbrev pub columns : List Column
  columns = meaning.columns

  abbrev pub rows : List (List Value)
  rows = meaning.rows

  few_rows : length rows ≤ 512
  unfolding group_size
  few_rows = group.within_limit

  pub row_admitted : (row : ℕ) → row < length rows → admits_values columns (get_or rows row []) ≡ true
  row_admitted row lt = All-get_or (λ values. admits_values columns values ≡ true) rows row [] lt (AllPass-from_list_all (admits_values columns) rows group.admitted)

  length-null_bits : (col : ℕ) → length (null_bits rows col) ≡ 512
  unfolding null_bits group_size
  length-null_bits col = length_padded (λ row. is_null (value_in row col)) rows false few_rows

  length-stored_codes : (col : ℕ) → length (stored_codes columns rows col) ≡ group_size
  unfolding stored_codes group_size
  length-stored_codes col = length_padded (λ row. stored_at columns col (value_in row col)) rows 0 few_rows

  pub null_of_row : (col row : ℕ) → row < length rows → get_or (null_bits rows col) row false ≡ is_null (value_in (get_or rows row []) col)
  unfolding null_bits
  null_of_row col row lt = lane_of_row (λ row. is_null (value_in row col)) rows (replicate (group_size - length rows) false) row false lt

  pub code_of_row : (col row : ℕ) → row < length rows → get_or (stored_codes columns rows col) row 0 ≡ stored_at columns col (value_in (get_or rows row []) col)
  unfolding stored_codes
  code_of_row col row lt = lane_of_row (λ row. stored_at columns col (value_in row col)) rows (replicate (group_size - length rows) 0) row 0 lt

  pub small_codes : (col : ℕ) → col < length columns → All (λ code. code < 2 ^ width_at columns col) (stored_codes columns rows col)
  small_codes col there = λ row d lt. omega (arith, stored_in_span columns rows col there row d lt, span_fits columns col there)

  -- the block of a column
  abbrev pub block : ℕ → List ℕ
  block col = block_bytes packing columns col rows

  abbrev pub null_bytes : ℕ → List ℕ
  null_bytes col = cond (is_nullable columns col) (bytes_of_lanes (null_bits rows col)) []

  length-null_bytes : (col : ℕ) → length (null_bytes col) ≡ null_size columns col
  length-null_bytes col = grind (arith, length-bytes_of_lanes (null_bits rows col))

  pub length-block : (col : ℕ) → length (block col) ≡ block_size packing columns col
  unfolding block_bytes
  length-block col =
      let codes = law.bytes_length (width_at columns col) (stored_codes columns rows col) (length-stored_codes col) in
      omega (arith, length-append (null_bytes col) (packing.bytes (width_at columns col) (stored_codes columns rows col)), length-null_bytes col, codes)

  nulls_of_block : (col : ℕ) → col < length columns → block_nulls columns col (block col) ≡ null_bits rows col
  unfolding block_bytes block_nulls group_size null_bits
  nulls_of_block col there = go (is_nullable columns col) refl
    where
      go : (b : Bool) → is_nullable columns col ≡ b
          → cond b (lanes_of_bytes (take 64 (cond b (bytes_of_lanes (null_bits rows col)) [] ++ packing.bytes (width_at columns col) (stored_codes columns rows col)))) (replicate 512 false) ≡ null_bits rows col
      go true nullable =
          let nulls = bytes_of_lanes (null_bits rows col) in
          let codes = packing.bytes (width_at columns col) (stored_codes columns rows col) in
          ap (λ n. lanes_of_bytes (take n (nulls ++ codes))) (sym (length-bytes_of_lanes (null_bits rows col))) ∙ ap lanes_of_bytes (take-append_seam nulls codes)
          ∙ lanes_of_bytes_of_lanes (null_bits rows col) (length-null_bits col)
      go false never =
          let all : length rows + (512 - length rows) ≡ 512 = omega (arith, few_rows) in
          sym (ap (λ l. l ++ replicate (512 - length rows) false) (no_nulls columns rows col group.admitted there never) ∙ replicate-append-replicate (length rows) (512 - length rows) false ∙ ap (λ n. replicate n false) all)

  codes_of_block : (col : ℕ) → col < length columns → block_codes packing columns col (block col) ≡ stored_codes columns rows col
  unfolding block_bytes block_codes
  codes_of_block col there =
      let width = width_at columns col in
      let codes = packing.bytes width (stored_codes columns rows col) in
      ap (λ n. packing.codes width (drop n (null_bytes col ++ codes))) (sym (length-null_bytes col)) ∙ ap (packing.codes width) (drop-append_seam (null_bytes col) codes)
      ∙ law.text_spells width (stored_codes columns rows col) (length-stored_codes col) (small_codes col there)

  pub block_is_fine : (col : ℕ) → col < length columns → block_fault packing columns col (length rows) (block col) ≡ None
  unfolding block_fault null_bits stored_codes
  block_is_fine col there =
      let span = span_at columns col in
      let nulls = null_bits rows col in
      let codes = stored_codes columns rows col in
      ap₂ (lanes_fault span (length rows)) (nulls_of_block col there) (codes_of_block col there)
      ∙ lanes_none span (length rows) nulls codes (λ row from to.
      ap₂ padding_fault (lane_of_padding (λ row. is_null (value_in row col)) rows (group_size - length rows) row false from)
      (lane_of_padding (λ row. stored_at columns col (value_in row col)) rows (group_size - length rows) row 0 from))
      ∙ first_none (of_rows span (length rows) nulls codes) (length rows) (λ row lt.
      let value = value_in (get_or rows row []) col in
      ap₂ (row_fault span) (null_of_row col row lt) (code_of_row col row lt)
      ∙ row_clear span (is_null value) (stored_at columns col value) (λ null. stored_null columns col value null) (stored_within columns col value there))

  pub block_of_text : (col : ℕ) → col < length columns → block_at packing columns col (segment_bytes packing columns rows) ≡ block col
  unfolding segment_bytes
  block_of_text col there = block_of_joined packing columns block (λ col lt. length-block col) col there

  pub length-text : length (segment_bytes packing columns rows) ≡ segment_size packing columns
  unfolding segment_bytes
  length-text = length-blocks packing columns block (λ col lt. length-block col)

  pub text_is_sound : IsSound packing columns (length rows) (segment_bytes packing columns rows)
  text_is_sound = record {
    size = length-text;
    without = λ col there. ap (block_fault packing columns col (length rows)) (block_of_text col there) ∙ block_is_fine col there;
  }

  -- the value of a row in a block
  value_back : (row col : ℕ) → row < length rows → col < length columns
      → value_in_block packing columns col (block_at packing columns col (segment_bytes packing columns rows)) row ≡ value_in (get_or rows row []) col
  value_back row col lt there =
      let value = value_in (get_or rows row []) col in
      ap (λ b. value_in_block packing columns col b row) (block_of_text col there)
      ∙ ap₂ (value_held columns col) (ap (λ l. get_or l row false) (nulls_of_block col there) ∙ null_of_row col row lt) (ap (λ l. get_or l row 0) (codes_of_block col there) ∙ code_of_row col row lt)
      ∙ held_admitted columns (get_or rows row []) col (row_admitted row lt) there

  pub rows_of_bytes : rows_spelled packing columns (length rows) (segment_bytes packing columns rows) ≡ rows
  unfolding rows_spelled
  rows_of_bytes =
      let text = segment_bytes packing columns rows in
      sym (fill_by_all (λ row. map (λ column. value_in_block packing columns column (block_at packing columns column text) row) (range_with_len 0 (length columns))) rows (length rows) [] refl
      (λ row lt.
      let values = get_or rows row [] in
      fill_by_all (λ column. value_in_block packing columns column (block_at packing columns column text) row) values (length columns) None (length_admitted columns values (row_admitted row lt))
      (λ col there. sym (value_back row col lt there))))
