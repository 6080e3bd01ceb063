-- The lanes of a group: those of its rows and then those of zeros.
use Rattle.std.proofs.Common.{◌≡◌, ◌∙◌, refl, sym, ap, ap₂, ℕ, zero, suc, ◌+◌, ◌-◌, ◌*◌, ◌%◌, ◌^◌}
use Rattle.std.proofs.Common.{◌<◌, Bool, true, false, cond, ◌==◌, List, [], ◌∷◌, ◌++◌, map, length}
use Rattle.std.proofs.Common.{replicate, Some, ◌/◌, arith}
use Rattle.std.specs.List.{list_all}
use Rattle.std.proofs.Math.Nat.{zero-div}
use Rattle.std.specs.Int.{bit_at}
use Rattle.std.proofs.lemmas.List.{map-append}
use Rattle.std.proofs.lemmas.Simd.{map-map}
use Rattle.std.proofs.lemmas.Nat.Bits.{bit_at-zero}
use Rattle.std.proofs.lemmas.Nat.{shr-shr}
use Rattle.bw_lanes.proofs.BitLemmas.{bit_of_low}
use Rattle.bw_model.specs.declared.column.Column.{Column}
use Rattle.bw_model.specs.Row.{Value, value_in}
use Rattle.bw_model.specs.Column.{admits_values}
use Rattle.bw_model.specs.Code.{width_at, slices_at, has_bit}
use Rattle.bw_model.specs.Groups.{group_size, lanes_of}
use Rattle.bw_model.specs.StoredCodes.{stored_at, byte_of, byte_spelled, bits_in_slice, no_bits}
use Rattle.bw_model.specs.Truth.{is_null}
use Rattle.bw_model.specs.Variable.{Assignment, first_variable, null_variable, bit_variable}
use Rattle.bw_model.specs.Variable.{assignment_of, bits_of}
use Rattle.bw_model.proofs.BitsLemmas.{both}
use Rattle.bw_model.proofs.PlaceLemmas.{code_bit_at, null_bit_at_variable}
use Rattle.bw_model.proofs.StoredCodeLemmas.{byte_of_bits, spelled_zero}
use Rattle.bw_segment.specs.Meaning.{Meaning, IsGroup, variable_lanes, byte_lanes, stored_codes}
use Rattle.bw_segment.specs.Meaning.{code_lanes, null_bits}

map-replicate : {A B : Type 0} (f : A → B) (count : ℕ) (x : A) → map f (replicate count x) ≡ replicate count (f x)
map-replicate f zero x = refl
map-replicate f (suc count) x = ap (λ l. f x ∷ l) (map-replicate f count x)

-- what is read of each row is what is read of its assignment
rows_agree : {A : Type 0} (columns : List Column) (of_row : List Value → A) (of_bits : Assignment → A)
    → ((values : List Value) → admits_values columns values ≡ true → of_row values ≡ of_bits (assignment_of (bits_of columns values)))
    → (rows : List (List Value)) → list_all (admits_values columns) rows ≡ true
    → map of_row rows ≡ map of_bits (map (λ row. assignment_of (bits_of columns row)) rows)
rows_agree columns of_row of_bits same [] all = refl
rows_agree columns of_row of_bits same (row ∷ rows) all =
    let each = both (admits_values columns row) (list_all (admits_values columns) rows) all in
    ap₂ ◌∷◌ (same row each.0) (rows_agree columns of_row of_bits same rows each.1)

-- and what is read of no row is what is read of the assignment of zeros
lanes_agree : {A : Type 0} (meaning : Meaning) (of_row : List Value → A) (of_none : A) (of_bits : Assignment → A) → IsGroup meaning
    → ((values : List Value) → admits_values meaning.columns values ≡ true → of_row values ≡ of_bits (assignment_of (bits_of meaning.columns values)))
    → of_none ≡ of_bits no_bits
    → map of_row meaning.rows ++ replicate (group_size - length meaning.rows) of_none ≡ map of_bits (lanes_of meaning.columns meaning.rows)
unfolding lanes_of
lanes_agree meaning of_row of_none of_bits group same none =
    let count = group_size - length meaning.rows in
    let assigned : List Assignment = map (λ row. assignment_of (bits_of meaning.columns row)) meaning.rows in
    ap₂ ◌++◌ (rows_agree meaning.columns of_row of_bits same meaning.rows group.admitted) (ap (replicate count) none)
    ∙ sym (map-append of_bits assigned (replicate count no_bits) ∙ ap (λ l. map of_bits assigned ++ l) (map-replicate of_bits count no_bits))

-- what is read of the codes of rows, and of zeros
codes_read : {A : Type 0} (columns : List Column) (rows : List (List Value)) (col : ℕ) (of_code : ℕ → A)
    → map of_code (stored_codes columns rows col) ≡ map (λ row. of_code (stored_at columns col (value_in row col))) rows ++ replicate (group_size - length rows) (of_code 0)
unfolding stored_codes
codes_read columns rows col of_code =
    let code = λ (row : List Value). stored_at columns col (value_in row col) in
    let count = group_size - length rows in
    map-append of_code (map code rows) (replicate count 0) ∙ ap₂ ◌++◌ (map-map of_code code rows) (map-replicate of_code count 0)

pub nulls_in_lanes : (meaning : Meaning) (col variable : ℕ) → IsGroup meaning → col < length meaning.columns → null_variable meaning.columns col ≡ Some variable
    → null_bits meaning.rows col ≡ variable_lanes meaning variable
unfolding null_bits
nulls_in_lanes meaning col variable group lt is =
    lanes_agree meaning (λ row. is_null (value_in row col)) false (λ bits. bits variable) group
    (λ values admitted. sym (null_bit_at_variable meaning.columns values col variable admitted lt is)) refl

-- bits that were kept as numbers
pub bits_of_numbers : (bits : List Bool) → map (λ n. has_bit n 0) (map (λ bit. cond bit 1 0) bits) ≡ bits
bits_of_numbers [] = refl
bits_of_numbers (true ∷ bits) = ap (λ l. true ∷ l) (bits_of_numbers bits)
bits_of_numbers (false ∷ bits) = ap (λ l. false ∷ l) (bits_of_numbers bits)

pub bits_in_lanes : (meaning : Meaning) (col bit : ℕ) → IsGroup meaning → col < length meaning.columns → bit < width_at meaning.columns col
    → map (λ code. has_bit code bit) (code_lanes meaning col) ≡ variable_lanes meaning (bit_variable meaning.columns col bit)
bits_in_lanes meaning col bit group lt below =
    codes_read meaning.columns meaning.rows col (λ code. has_bit code bit)
    ∙ lanes_agree meaning (λ row. has_bit (stored_at meaning.columns col (value_in row col)) bit) (has_bit 0 bit) (λ bits. bits (bit_variable meaning.columns col bit)) group
    (λ values admitted. sym (code_bit_at meaning.columns values col bit admitted lt below)) (ap (λ k. k == 1) (bit_at-zero bit))

pub bytes_in_lanes : (meaning : Meaning) (col slice : ℕ) → IsGroup meaning → col < length meaning.columns → slice < slices_at meaning.columns col
    → map (byte_of slice) (code_lanes meaning col) ≡ byte_lanes meaning col slice
bytes_in_lanes meaning col slice group lt there =
    codes_read meaning.columns meaning.rows col (byte_of slice)
    ∙ lanes_agree meaning (λ row. byte_of slice (stored_at meaning.columns col (value_in row col))) (byte_of slice 0) (byte_spelled meaning.columns col slice) group
    (λ values admitted. sym (byte_of_bits meaning.columns values col slice admitted lt there)) none
  where
    none : byte_of slice 0 ≡ byte_spelled meaning.columns col slice no_bits
    none = ap (λ k. k % 256) (zero-div (2 ^ (8 * slice))) ∙ sym (spelled_zero (first_variable meaning.columns (suc col) - (8 * slice + bits_in_slice meaning.columns col slice)) (bits_in_slice meaning.columns col slice))

-- a bit of a code stands in one of its bytes
bit_of_byte : (code bit : ℕ) → (bit_at (byte_of (bit / 8) code) (bit % 8) == 1) ≡ has_bit code bit
bit_of_byte code bit =
    let part = code / 2 ^ (8 * (bit / 8)) in
    ap (λ k. k == 1) (bit_of_low 8 part (bit % 8) (omega arith) ∙ ap (λ k. k % 2) (shr-shr code (8 * (bit / 8)) (bit % 8) ∙ ap (λ k. code / 2 ^ k) {y = bit} (omega arith)))

-- a bit of codes, in the bytes that have it
pub bits_of_bytes : (codes : List ℕ) (bit : ℕ) → map (λ byte. bit_at byte (bit % 8) == 1) (map (byte_of (bit / 8)) codes) ≡ map (λ code. has_bit code bit) codes
bits_of_bytes codes bit = map-map (λ byte. bit_at byte (bit % 8) == 1) (byte_of (bit / 8)) codes ∙ (λ i. map (λ code. bit_of_byte code bit i) codes)
