-- The numbers that the bits of a row spell are parts of its stored codes.
use Rattle.std.proofs.Common.{◌≡◌, ◌∙◌, refl, sym, ap, ap₂, ℕ, zero, suc, ◌+◌, ◌-◌, ◌*◌, ◌/◌, ◌%◌}
use Rattle.std.proofs.Common.{◌^◌, ◌<◌, ◌≤◌, min, ⊎_elim, Bool, true, false, cond, ◌==◌, ◌&&◌, List}
use Rattle.std.proofs.Common.{[], ◌∷◌, length, Some, None, unwrap_or, unsigned_abs, ◌-ℤ◌, int_le}
use Rattle.std.proofs.Common.{arith}
use Rattle.std.specs.Int.{bit_at}
use Rattle.std.proofs.Math.Pow.{pow_mono, shr_mod}
use Rattle.std.proofs.Math.Nat.{div-div-eq-div-mul}
use Rattle.std.proofs.lemmas.Bool.{cases_lt}
use Rattle.std.proofs.lemmas.Nat.{pow-add, pow_pos, mod-pow-add}
use Rattle.std.proofs.lemmas.Nat.Bits.{bit_at-lt}
use Rattle.bw_model.specs.declared.column.Column.{Column}
use Rattle.bw_model.specs.Row.{Value, value_in}
use Rattle.bw_model.specs.Column.{admits_value, admits_values}
use Rattle.bw_model.specs.Code.{width_of, width_at, slices_at, stored_code, has_bit}
use Rattle.bw_model.specs.Variable.{Assignment, first_variable, assignment_of, bits_of, binary_number}
use Rattle.bw_model.specs.StoredCodes.{stored_at, number_spelled, byte_of, bits_in_slice}
use Rattle.bw_model.specs.StoredCodes.{byte_spelled, no_bits}
use Rattle.bw_model.proofs.BitsLemmas.{both, bit_denotes, code_in_span}
use Rattle.bw_model.proofs.DigitLemmas.{below_width}
use Rattle.bw_model.proofs.PlaceLemmas.{code_bit_at}
use Rattle.bw_model.proofs.VariableLemmas.{width_before_next}

code_below : (column : Column) (value : Value) → stored_code column value < 2 ^ width_of column
code_below column None = pow_pos (width_of column)
code_below column (Some n) = go (int_le column.lo n && int_le n column.hi) refl
  where
    distance : ℕ
    distance = unsigned_abs (n -ℤ column.lo)

    go : (b : Bool) → (int_le column.lo n && int_le n column.hi) ≡ b → unwrap_or (cond b (Some distance) None) 0 < 2 ^ width_of column
    go true is = below_width column distance (code_in_span column.lo column.hi n is)
    go false is = pow_pos (width_of column)

pub stored_below : (columns : List Column) (values : List Value) (column : ℕ) → admits_values columns values ≡ true → column < length columns →
    stored_at columns column (value_in values column) < 2 ^ width_at columns column
stored_below [] values column admitted lt = absurd (omega arith)
stored_below (c ∷ columns) [] column admitted lt = cc
stored_below (c ∷ columns) (value ∷ values) zero admitted lt = code_below c value
stored_below (c ∷ columns) (value ∷ values) (suc column) admitted lt =
    stored_below columns values column (both (admits_value c value) (admits_values columns values) admitted).1 (omega arith)

-- a bit of a number above its low bits
bit_above : (n start count : ℕ) → bit_at n (start + count) ≡ bit_at (n / 2 ^ start) count
bit_above n start count = ap (λ k. n / k % 2) (pow-add 2 start count) ∙ ap (λ k. k % 2) (sym (div-div-eq-div-mul n (2 ^ start) (2 ^ count)))

-- variables that have the bits of a number spell it, wherever they begin
spelled_bits : (bits : Assignment) (next width n start count : ℕ) → width ≤ next → ((bit : ℕ) → bit < width → bits (next - suc bit) ≡ has_bit n bit) →
    start + count ≤ width → binary_number bits (next - (start + count)) count ≡ n / 2 ^ start % 2 ^ count
spelled_bits bits next width n start zero low has le = omega arith
spelled_bits bits next width n start (suc count) low has le =
    let m = n / 2 ^ start in
    let first = next - (start + suc count) in
    let here : first ≡ next - suc (start + count) = omega arith in
    let after : suc first ≡ next - (start + count) = omega arith in
    let bit : bits first ≡ has_bit m count = ap bits here ∙ has (start + count) (omega arith) ∙ ap (λ b. b == 1) (bit_above n start count) in
    let high : cond (bits first) (2 ^ count) 0 ≡ bit_at m count * 2 ^ count = ap (λ b. cond b (2 ^ count) 0) bit ∙ bit_denotes (bit_at m count) (2 ^ count) (bit_at-lt m count) in
    let low_part : binary_number bits (suc first) count ≡ m % 2 ^ count = ap (λ k. binary_number bits k count) after ∙ spelled_bits bits next width n start count low has (omega arith) in
    let next_count : suc count ≡ 1 + count = omega arith in
    ap₂ ◌+◌ high low_part ∙ sym (ap (λ k. m % 2 ^ k) next_count ∙ mod-pow-add m 1 count)

pub number_of_bits : (columns : List Column) (values : List Value) (column start count : ℕ) → admits_values columns values ≡ true → column < length columns →
    start + count ≤ width_at columns column →
    number_spelled columns column start count (assignment_of (bits_of columns values)) ≡ stored_at columns column (value_in values column) / 2 ^ start % 2 ^ count
number_of_bits columns values column start count admitted lt le =
    spelled_bits (assignment_of (bits_of columns values)) (first_variable columns (suc column)) (width_at columns column) (stored_at columns column (value_in values column)) start count
    (width_before_next columns column lt) (λ bit. code_bit_at columns values column bit admitted lt) le

-- the top byte needs no more bits than the number has left
low_byte : (n width slice : ℕ) → n < 2 ^ width → 8 * slice ≤ width → n / 2 ^ (8 * slice) % 2 ^ min 8 (width - 8 * slice) ≡ byte_of slice n
low_byte n width slice lt le = ⊎_elim short long (cases_lt (width - 8 * slice) 8)
  where
    short : (width - 8 * slice) < 8 → n / 2 ^ (8 * slice) % 2 ^ min 8 (width - 8 * slice) ≡ byte_of slice n
    short few =
        let rest = width - 8 * slice in
        let same : min 8 rest ≡ rest = omega arith in
        let whole : width ≡ rest + 8 * slice = omega arith in
        let below : n < 2 ^ (rest + 8 * slice) = omega (arith, ap (λ k. 2 ^ k) whole) in
        let wider = pow_mono {i = rest + 8 * slice} {j = 8 + 8 * slice} (omega arith) in
        let bytes : n < 2 ^ (8 + 8 * slice) = omega arith in
        ap (λ k. n / 2 ^ (8 * slice) % 2 ^ k) same ∙ shr_mod rest (8 * slice) below ∙ sym (shr_mod 8 (8 * slice) bytes)

    long : 8 ≤ (width - 8 * slice) → n / 2 ^ (8 * slice) % 2 ^ min 8 (width - 8 * slice) ≡ byte_of slice n
    long many = let same : min 8 (width - 8 * slice) ≡ 8 = omega arith in ap (λ k. n / 2 ^ (8 * slice) % 2 ^ k) same

pub byte_of_bits : (columns : List Column) (values : List Value) (column slice : ℕ) → admits_values columns values ≡ true → column < length columns →
    slice < slices_at columns column →
    byte_spelled columns column slice (assignment_of (bits_of columns values)) ≡ byte_of slice (stored_at columns column (value_in values column))
byte_of_bits columns values column slice admitted lt there =
    let inside : 8 * slice ≤ width_at columns column = omega arith in
    number_of_bits columns values column (8 * slice) (bits_in_slice columns column slice) admitted lt (omega arith)
    ∙ low_byte (stored_at columns column (value_in values column)) (width_at columns column) slice (stored_below columns values column admitted lt) inside

-- zeros spell 0
pub spelled_zero : (first count : ℕ) → binary_number no_bits first count ≡ 0
spelled_zero first zero = refl
spelled_zero first (suc count) = omega (arith, spelled_zero (suc first) count)
