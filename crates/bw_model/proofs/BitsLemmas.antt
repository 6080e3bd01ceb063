-- Codes undo values, and the row of a row's bits is that row.
use Rattle.std.proofs.Common.{◌≡◌, ◌∙◌, refl, sym, ap, ap₂, ℕ, zero, suc, ℤ, pos, ◌+◌, ◌*◌, ◌%◌}
use Rattle.std.proofs.Common.{◌^◌, ◌<◌, ◌≤◌, ◌+ℤ◌, ◌-ℤ◌, ◌≤ℤ◌, Bool, true, false, cond, ◌==◌, ◌&&◌}
use Rattle.std.proofs.Common.{List, [], ◌∷◌, ◌++◌, length, length-append, append_assoc, get_or}
use Rattle.std.proofs.Common.{Some, None, unwrap_or, arith, add-one, add-zero, unsigned_abs, int_le}
use Rattle.std.specs.Int.{bit_at}
use Rattle.std.proofs.Math.Seq.{get_or-append_seam}
use Rattle.std.proofs.Math.Nat.{mod-eq_of_lt}
use Rattle.std.proofs.Math.Bool.{and-false}
use Rattle.std.proofs.lemmas.Int.{ints}
use Rattle.std.proofs.lemmas.Nat.{mod-pow-add}
use Rattle.std.proofs.lemmas.Nat.Bits.{bit_at-lt}
use Rattle.bw_model.specs.declared.column.Column.{Column}
use Rattle.bw_model.specs.Row.{Value}
use Rattle.bw_model.specs.Column.{admits_value, admits_values}
use Rattle.bw_model.specs.Truth.{is_null}
use Rattle.bw_model.specs.Code.{span_of, width_of, code_of, value_of_code}
use Rattle.bw_model.specs.Variable.{null_count, variable_count, assignment_of, low_bits, value_bits}
use Rattle.bw_model.specs.Variable.{bits_of, binary_number, value_spelled, row_from, row_of}
use Rattle.bw_model.proofs.DigitLemmas.{below_width}

pub code_in_span : (lo hi n : ℤ) → (int_le lo n && int_le n hi) ≡ true → unsigned_abs (n -ℤ lo) ≤ unsigned_abs (hi -ℤ lo)
code_in_span lo hi n within = grind (arith, ints)

pub value_of_distance : (lo hi n : ℤ) → (int_le lo n && int_le n hi) ≡ true → lo +ℤ pos (unsigned_abs (n -ℤ lo)) ≡ n
value_of_distance lo hi n within = grind (arith, ints)

pub bit_denotes : (bit k : ℕ) → bit < 2 → cond (bit == 1) k 0 ≡ bit * k
bit_denotes zero k lt = omega arith
bit_denotes (suc zero) k lt = omega arith
bit_denotes (suc (suc bit)) k lt = absurd (omega arith)

-- bits in a row of an assignment spell the number that they are of
pub spelled_low : (count n : ℕ) (before after : List Bool) → binary_number (assignment_of (before ++ (low_bits count n ++ after))) (length before) count ≡ n % 2 ^ count
spelled_low zero n before after = omega arith
spelled_low (suc count) n before after =
    let bit = bit_at n count == 1 in
    let rest = low_bits count n ++ after in
    let here : get_or (before ++ bit ∷ rest) (length before) false ≡ bit = get_or-append_seam before bit rest false in
    let same : before ++ bit ∷ rest ≡ (before ++ bit ∷ []) ++ rest = sym (append_assoc before (bit ∷ []) rest) in
    let longer : length (before ++ bit ∷ []) ≡ suc (length before) = length-append before (bit ∷ []) ∙ add-one (length before) in
    let later = spelled_low count n (before ++ bit ∷ []) after in
    let denoted = bit_denotes (bit_at n count) (2 ^ count) (bit_at-lt n count) in
    let split = mod-pow-add n 1 count in
    let high : cond (get_or (before ++ bit ∷ rest) (length before) false) (2 ^ count) 0 ≡ bit_at n count * 2 ^ count = ap (λ b. cond b (2 ^ count) 0) here ∙ denoted in
    let low : binary_number (assignment_of (before ++ bit ∷ rest)) (suc (length before)) count ≡ n % 2 ^ count =
    ap₂ (λ bits first. binary_number (assignment_of bits) first count) same (sym longer) ∙ later in
    let next : suc count ≡ 1 + count = omega arith in
    ap₂ ◌+◌ high low ∙ sym (ap (λ k. n % 2 ^ k) next ∙ split)

code_within : (lo hi : ℤ) (code : ℕ) → lo ≤ℤ hi → code ≤ unsigned_abs (hi -ℤ lo) → (int_le lo (lo +ℤ pos code) && int_le (lo +ℤ pos code) hi) ≡ true
code_within lo hi code ordered le = grind (arith, ints)

distance_of_value : (lo : ℤ) (code : ℕ) → unsigned_abs ((lo +ℤ pos code) -ℤ lo) ≡ code
distance_of_value lo code = grind (arith, ints)

pub code_of-value_of_code : (column : Column) (code : ℕ) → code ≤ span_of column → code_of column (Some (value_of_code column code)) ≡ Some code
code_of-value_of_code column code le =
    let within = code_within column.lo column.hi code column.ordered le in
    rw within (ap Some (distance_of_value column.lo code))

pub given : {A : Type 0} (test : Bool) (x y : A) → cond test (Some x) None ≡ Some y → (test ≡ true) × (x ≡ y)
given true x y is = (refl, cc)
given false x y is = absurd (cc)

pub value_of_code-code_of : (column : Column) (n : ℤ) (code : ℕ) → code_of column (Some n) ≡ Some code → value_of_code column code ≡ n
value_of_code-code_of column n code is =
    let both = given (int_le column.lo n && int_le n column.hi) (unsigned_abs (n -ℤ column.lo)) code is in
    ap (λ k. column.lo +ℤ pos k) (sym both.1) ∙ value_of_distance column.lo column.hi n both.0

pub both : (a b : Bool) → (a && b) ≡ true → (a ≡ true) × (b ≡ true)
both true b is = (refl, is)
both false b is = absurd (cc)

-- the null bit and the code, wherever the bits stand
null_bit : (nullable null : Bool) (width code : ℕ) (before after : List Bool) →
    (nullable && assignment_of (before ++ ((cond nullable (null ∷ []) [] ++ low_bits width code) ++ after)) (length before)) ≡ (nullable && null)
null_bit true null width code before after = get_or-append_seam before null (low_bits width code ++ after) false
null_bit false null width code before after = refl

code_bits : (nullable null : Bool) (width code : ℕ) (before after : List Bool) →
    binary_number (assignment_of (before ++ ((cond nullable (null ∷ []) [] ++ low_bits width code) ++ after))) (length before + cond nullable 1 0) width ≡ code % 2 ^ width
code_bits true null width code before after =
    let rest = low_bits width code ++ after in
    let same : before ++ null ∷ rest ≡ (before ++ null ∷ []) ++ rest = sym (append_assoc before (null ∷ []) rest) in
    let longer : length (before ++ null ∷ []) ≡ length before + 1 = length-append before (null ∷ []) in
    ap₂ (λ bits first. binary_number (assignment_of bits) first width) same (sym longer) ∙ spelled_low width code (before ++ null ∷ []) after
code_bits false null width code before after =
    ap (λ first. binary_number (assignment_of (before ++ (low_bits width code ++ after))) first width) (add-zero (length before)) ∙ spelled_low width code before after

-- the value that its bits spell, wherever they are
value_spelled-value_bits : (column : Column) (value : Value) (before after : List Bool) → admits_value column value ≡ true →
    value_spelled column (assignment_of (before ++ (value_bits column value ++ after))) (length before) ≡ value
value_spelled-value_bits column None before after nullable =
    ap (λ test. cond test None (Some (value_of_code column (binary_number (assignment_of (before ++ (value_bits column None ++ after))) (length before + null_count column) (width_of column)))))
    (null_bit column.nullable true (width_of column) 0 before after ∙ ap (λ b. b && true) nullable)
value_spelled-value_bits column (Some n) before after within =
    let distance = unsigned_abs (n -ℤ column.lo) in
    let code = unwrap_or (code_of column (Some n)) 0 in
    let same_code : code ≡ distance = ap (λ test. unwrap_or (cond test (Some distance) None) 0) within in
    let small = below_width column distance (code_in_span column.lo column.hi n within) in
    let spelled_code = code_bits column.nullable false (width_of column) code before after ∙ ap (λ k. k % 2 ^ width_of column) same_code ∙ mod-eq_of_lt small in
    let not_null = null_bit column.nullable false (width_of column) code before after ∙ and-false column.nullable in
    ap₂ (λ test k. cond test None (Some (value_of_code column k))) not_null spelled_code ∙ ap Some (value_of_distance column.lo column.hi n within)

length-low_bits : (count n : ℕ) → length (low_bits count n) ≡ count
length-low_bits zero n = refl
length-low_bits (suc count) n = ap suc (length-low_bits count n)

pub length_value_list : (nullable null : Bool) (width code : ℕ) → length (cond nullable (null ∷ []) [] ++ low_bits width code) ≡ cond nullable 1 0 + width
length_value_list true null width code = omega (arith, length-low_bits width code)
length_value_list false null width code = omega (arith, length-low_bits width code)

pub length-value_bits : (column : Column) (value : Value) → length (value_bits column value) ≡ variable_count column
length-value_bits column value = length_value_list column.nullable (is_null value) (width_of column) (unwrap_or (code_of column value) 0)

row_from-bits_of : (columns : List Column) (values : List Value) (before : List Bool) → admits_values columns values ≡ true →
    row_from columns (assignment_of (before ++ bits_of columns values)) (length before) ≡ values
row_from-bits_of [] [] before admitted = refl
row_from-bits_of (column ∷ columns) (value ∷ values) before admitted =
    let each = both (admits_value column value) (admits_values columns values) admitted in
    let here = value_spelled-value_bits column value before (bits_of columns values) each.0 in
    let later = row_from-bits_of columns values (before ++ value_bits column value) each.1 in
    let same = append_assoc before (value_bits column value) (bits_of columns values) in
    let longer = length-append before (value_bits column value) ∙ ap (λ k. length before + k) (length-value_bits column value) in
    ap₂ (λ v vs. v ∷ vs) here (ap₂ (λ bits k. row_from columns (assignment_of bits) k) (sym same) (sym longer) ∙ later)
row_from-bits_of _ _ before admitted = cc

pub row_of-bits_of : (columns : List Column) (values : List Value) → admits_values columns values ≡ true → row_of columns (assignment_of (bits_of columns values)) ≡ values
row_of-bits_of columns values admitted = row_from-bits_of columns values [] admitted
