-- What the blocks of a segment hold.
use Rattle.std.proofs.Common.{◌≡◌, ◌∙◌, sym, ap, ap₂, subst, ℕ, ◌+◌, ◌-◌, ◌^◌, ◌<◌, ◌≤◌, Bool}
use Rattle.std.proofs.Common.{false, List, [], map, length, take, drop, slice_range, get_or, All}
use Rattle.std.proofs.Common.{add-one, leb, ◌&&◌, refl, arith}
use Rattle.std.proofs.lemmas.List.{take_all, length-drop, length-map}
use Rattle.std.proofs.lemmas.Bool.{le-leb}
use Rattle.std.proofs.lemmas.Simd.{map-map}
use Rattle.bw_model.specs.declared.column.Column.{Column}
use Rattle.bw_model.specs.declared.row.Row.{Row}
use Rattle.bw_model.specs.Code.{width_at, slices_at, span_at}
use Rattle.bw_model.specs.Groups.{group_size}
use Rattle.bw_model.specs.Row.{Value, value_in, values_of}
use Rattle.bw_model.specs.StoredCodes.{byte_of}
use Rattle.bw_segment.specs.declared.placement.Placement.{Placement}
use Rattle.bw_segment.specs.BlockFault.{IsSound}
use Rattle.bw_segment.specs.Meaning.{Meaning, IsGroup, byte_lanes, code_lanes, null_bits}
use Rattle.bw_segment.specs.Meaning.{meaning_of}
use Rattle.bw_segment.specs.Packed.{HoldBlocks, IsPacked}
use Rattle.bw_segment.specs.Packing.{Packing, IsPacking, bytes_before, block_at, block_codes}
use Rattle.bw_segment.specs.Packing.{block_nulls, block_size, meaning_spelled, null_size}
use Rattle.bw_segment.specs.Packing.{rows_spelled, segment_bytes, value_held}
use Rattle.bw_segment.proofs.LaneLemmas.{bytes_in_lanes}
use Rattle.bw_segment.proofs.LayoutLemmas.{before_in_order}
use Rattle.bw_segment.proofs.SoundLemmas.{length-rows_spelled, length-cut, nulls_again, codes_again}
use Rattle.bw_segment.proofs.BytesLemmas.{small_codes, null_of_row, code_of_row, row_admitted}
use Rattle.bw_segment.proofs.BytesLemmas.{text_is_sound, rows_of_bytes}
use Rattle.bw_segment.proofs.ValueLemmas.{held_admitted, stored_within}

-- a block that is cut out from its start to its end
pub slice_is_block : (packing : Packing) (columns : List Column) (bytes : List ℕ) (col : ℕ)
    → slice_range bytes (bytes_before packing columns col) (bytes_before packing columns (col + 1)) ≡ block_at packing columns col bytes
slice_is_block packing columns bytes col =
    ap (λ n. take n (drop (bytes_before packing columns col) bytes))
    {x = bytes_before packing columns (col + 1) - bytes_before packing columns col} {y = block_size packing columns col} (omega (arith, ap (bytes_before packing columns) (add-one col)))

module _ {packing : Packing} {placement : Placement} {count : ℕ} {bytes : List ℕ} (packed : IsPacked packing placement count bytes) where
  abbrev columns : List Column
  columns = placement.schema.columns.items

  abbrev meaning : Meaning
  meaning = meaning_spelled packing placement.schema count bytes

  abbrev block : ℕ → List ℕ
  block col = block_at packing columns col bytes

  pub few : count ≤ group_size
  few = omega (arith, packed.group.within_limit, length-rows_spelled packing columns count bytes)

  pub ruleset counted = (few, length-rows_spelled)

  pub length-block : (col : ℕ) → col < length columns → length (block col) ≡ block_size packing columns col
  length-block = length-cut packing packed.law columns count bytes few packed.sound

  pub nulls_held : (col : ℕ) → col < length columns → block_nulls columns col (block col) ≡ null_bits meaning.rows col
  nulls_held col there = sym (nulls_again packing packed.law columns count bytes few packed.sound col there)

  -- the bytes at a block's end that keep the codes
  module _ (col width size : ℕ) (cut : List ℕ) (there : col < length columns) (wide : width ≡ width_at columns col) (long : size ≡ packing.size width) (is : cut ≡ block col) where
    abbrev kept : List ℕ
    kept = take (length cut - (length cut - size)) (drop (length cut - size) cut)

    sized : length cut ≡ null_size columns col + size
    sized = omega (arith, ap length is, length-cut packing packed.law columns count bytes few packed.sound col there, long, ap packing.size wide)

    kept_is : kept ≡ drop (null_size columns col) (block col)
    kept_is =
        take_all (length cut - (length cut - size)) (drop (length cut - size) cut) (omega (arith, length-drop (length cut - size) cut))
        ∙ ap₂ (λ n l. drop n l) {x = length cut - size} {y = null_size columns col} (omega (arith, sized)) is

    pub length-kept : length kept ≡ packing.size width
    length-kept = omega (arith, ap length kept_is, length-drop (null_size columns col) (block col), ap length is, sized, long)

    pub codes_held : packing.codes width kept ≡ code_lanes meaning col
    unfolding block_codes
    codes_held = ap₂ packing.codes wide kept_is ∙ sym (codes_again packing packed.law columns count bytes few packed.sound col there)

    pub codes_small : All (λ code. code < 2 ^ width) (packing.codes width kept)
    codes_small =
        subst (λ w. All (λ code. code < 2 ^ w) (packing.codes width kept)) (sym wide)
        (subst (All (λ code. code < 2 ^ width_at columns col)) (sym codes_held) (small_codes packing packed.law meaning packed.group col there))

  -- a test of a byte of the codes
  pub byte_tested : (col slice : ℕ) (test : ℕ → Bool) (codes : List ℕ) → col < length columns → slice < slices_at columns col → codes ≡ code_lanes meaning col
      → map (λ code. test (byte_of slice code)) codes ≡ map test (byte_lanes meaning col slice)
  byte_tested col slice test codes there low is =
      sym (map-map test (byte_of slice) codes) ∙ ap (λ l. map test (map (byte_of slice) l)) is ∙ ap (map test) (bytes_in_lanes meaning col slice packed.group there low)

  -- the code and the value of a row
  module _ (col row : ℕ) (there : col < length columns) (lt : row < length meaning.rows) where
    pub row_below : row < 512
    unfolding group_size
    row_below = omega (arith, lt, packed.group.within_limit)

    pub code_within : get_or (code_lanes meaning col) row 0 ≤ span_at columns col
    code_within = omega (arith, code_of_row packing packed.law meaning packed.group col row lt, stored_within columns col (value_in (get_or meaning.rows row []) col) there)

    pub row_held : value_held columns col (get_or (null_bits meaning.rows col) row false) (get_or (code_lanes meaning col) row 0) ≡ value_in (get_or meaning.rows row []) col
    row_held =
        ap₂ (value_held columns col) (null_of_row packing packed.law meaning packed.group col row lt) (code_of_row packing packed.law meaning packed.group col row lt)
        ∙ held_admitted columns (get_or meaning.rows row []) col (row_admitted packing packed.law meaning packed.group row lt) there

-- blocks without error stand one after the other in one piece
pub held_in_one_piece : (packing : Packing) (columns : List Column) (count : ℕ) (bytes : List ℕ) → IsSound packing columns count bytes
    → HoldBlocks (λ column start end. leb start end && leb end (length bytes)) packing columns
held_in_one_piece packing columns count bytes sound = λ column lt.
    let ordered = le-leb _ _ (before_in_order packing columns column (column + 1) (omega arith)) in
    let within : bytes_before packing columns (column + 1) ≤ length bytes = omega (arith, before_in_order packing columns (column + 1) (length columns) (omega arith), sound.size) in
    let inside = le-leb _ _ within in
    rw (ordered, inside) refl

-- what is built of rows
module _ (packing : Packing) (law : IsPacking packing) (given kept : Placement) (rows : List Row) (bytes : List ℕ) (group : IsGroup (meaning_of given.schema rows)) (is_kept : kept ≡ given)
    (text : bytes ≡ segment_bytes packing given.schema.columns.items (map values_of rows)) where
  pub built_sound : IsSound packing kept.schema.columns.items (length rows) bytes
  built_sound =
      let these = text_is_sound packing law (meaning_of given.schema rows) group in
      subst (λ (placement : Placement). IsSound packing placement.schema.columns.items (length rows) bytes) (sym is_kept)
      (subst (λ n. IsSound packing given.schema.columns.items n bytes) (length-map rows values_of) (subst (λ (l : List ℕ). IsSound packing given.schema.columns.items (length (map values_of rows)) l) (sym text) these))

  pub built_means : meaning_spelled packing kept.schema (length rows) bytes ≡ meaning_of given.schema rows
  built_means =
      let spelled : rows_spelled packing given.schema.columns.items (length rows) bytes ≡ map values_of rows =
      ap₂ (rows_spelled packing given.schema.columns.items) (sym (length-map rows values_of)) text ∙ rows_of_bytes packing law (meaning_of given.schema rows) group in
      ap (λ (placement : Placement). meaning_spelled packing placement.schema (length rows) bytes) is_kept
      ∙ ap (λ (found : List (List Value)). (let m : Meaning = record { name = given.schema.name; columns = given.schema.columns.items; rows = found } in m)) spelled
