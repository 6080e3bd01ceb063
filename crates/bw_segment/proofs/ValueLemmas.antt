-- Values of a column, and the null bits and codes that they are kept as.
use Rattle.std.proofs.Common.{◌≡◌, ◌∙◌, refl, sym, ap, ℕ, zero, suc, ◌<◌, ◌≤◌, ◌-ℤ◌, int_le}
use Rattle.std.proofs.Common.{unsigned_abs, Bool, true, false, cond, ◌&&◌, List, [], ◌∷◌, map}
use Rattle.std.proofs.Common.{length, get_or, unwrap_or, Some, None, arith}
use Rattle.bw_model.specs.declared.column.Column.{Column}
use Rattle.bw_model.specs.Row.{Value, value_in}
use Rattle.bw_model.specs.Code.{span_of, span_at, stored_code, value_of_code}
use Rattle.bw_model.specs.Column.{admits_value, admits_values}
use Rattle.bw_model.specs.StoredCodes.{stored_at}
use Rattle.bw_model.specs.Truth.{is_null}
use Rattle.bw_model.specs.Variable.{is_nullable}
use Rattle.bw_model.proofs.BitsLemmas.{both, given, code_in_span, value_of_distance}
use Rattle.bw_model.proofs.BitsLemmas.{code_of-value_of_code}
use Rattle.bw_segment.specs.Packing.{value_held}

-- a null is admitted by a nullable column alone
pub null_admitted : (columns : List Column) (values : List Value) (col : ℕ) → admits_values columns values ≡ true → col < length columns → is_nullable columns col ≡ false → is_null (value_in values col) ≡ false
null_admitted [] values col admitted lt never = absurd (omega arith)
null_admitted (c ∷ columns) [] col admitted lt never = cc
null_admitted (c ∷ columns) (None ∷ values) zero admitted lt never = sym (both c.nullable (admits_values columns values) admitted).0 ∙ never
null_admitted (c ∷ columns) (Some n ∷ values) zero admitted lt never = refl
null_admitted (c ∷ columns) (value ∷ values) (suc col) admitted lt never = null_admitted columns values col (both (admits_value c value) (admits_values columns values) admitted).1 (omega arith) never

code_within : (c : Column) (value : Value) → stored_code c value ≤ span_of c
code_within c None = omega arith
code_within c (Some n) = go (int_le c.lo n && int_le n c.hi) refl
  where
    go : (b : Bool) → (int_le c.lo n && int_le n c.hi) ≡ b → unwrap_or (cond b (Some (unsigned_abs (n -ℤ c.lo))) None) 0 ≤ span_of c
    go true is = code_in_span c.lo c.hi n is
    go false is = omega arith

-- a code as it is stored is one of the column's
pub stored_within : (columns : List Column) (col : ℕ) (value : Value) → col < length columns → stored_at columns col value ≤ span_at columns col
stored_within [] col value lt = absurd (omega arith)
stored_within (c ∷ columns) zero value lt = code_within c value
stored_within (c ∷ columns) (suc col) value lt = stored_within columns col value (omega arith)

-- null is stored as 0
pub stored_null : (columns : List Column) (col : ℕ) (value : Value) → is_null value ≡ true → stored_at columns col value ≡ 0
stored_null columns col (Some n) null = cc
stored_null [] col None null = refl
stored_null (c ∷ columns) zero None null = refl
stored_null (c ∷ columns) (suc col) None null = stored_null columns col None null

-- an admitted value is that of its null bit and its code
pub held_admitted : (columns : List Column) (values : List Value) (col : ℕ) → admits_values columns values ≡ true → col < length columns
    → value_held columns col (is_null (value_in values col)) (stored_at columns col (value_in values col)) ≡ value_in values col
held_admitted [] values col admitted lt = absurd (omega arith)
held_admitted (c ∷ columns) [] col admitted lt = cc
held_admitted (c ∷ columns) (None ∷ values) zero admitted lt = refl
held_admitted (c ∷ columns) (Some n ∷ values) zero admitted lt =
    let distance = unsigned_abs (n -ℤ c.lo) in
    let within = (both (int_le c.lo n && int_le n c.hi) (admits_values columns values) admitted).0 in
    let code : stored_code c (Some n) ≡ distance = ap (λ test. unwrap_or (cond test (Some distance) None) 0) within in
    ap Some (ap (value_of_code c) code ∙ value_of_distance c.lo c.hi n within)
held_admitted (c ∷ columns) (value ∷ values) (suc col) admitted lt = held_admitted columns values col (both (admits_value c value) (admits_values columns values) admitted).1 (omega arith)

pub is_null_held : (columns : List Column) (col : ℕ) (null : Bool) (code : ℕ) → is_null (value_held columns col null code) ≡ null
is_null_held columns col true code = refl
is_null_held columns col false code = refl

-- the code of the value of a null bit and a code
pub stored_held : (columns : List Column) (col : ℕ) (null : Bool) (code : ℕ) → col < length columns → (null ≡ true → code ≡ 0) → code ≤ span_at columns col
    → stored_at columns col (value_held columns col null code) ≡ code
stored_held columns col true code lt none within = stored_null columns col None refl ∙ sym (none refl)
stored_held [] col false code lt none within = absurd (omega arith)
stored_held (c ∷ columns) zero false code lt none within = ap (λ k. unwrap_or k 0) (code_of-value_of_code c code within)
stored_held (c ∷ columns) (suc col) false code lt none within = stored_held columns col false code (omega arith) (λ e. cc) within

-- the column of this number admits a value
abbrev pub admits_at : List Column → ℕ → Value → Bool
admits_at columns col value = get_or (map (λ c. admits_value c value) columns) col false

-- the value of a null bit and a code is admitted
pub held_is_admitted : (columns : List Column) (col : ℕ) (null : Bool) (code : ℕ) → col < length columns → (null ≡ true → is_nullable columns col ≡ true) → code ≤ span_at columns col
    → admits_at columns col (value_held columns col null code) ≡ true
held_is_admitted [] col null code lt nullable within = absurd (omega arith)
held_is_admitted (c ∷ columns) zero true code lt nullable within = nullable refl
held_is_admitted (c ∷ columns) zero false code lt nullable within =
    let n = value_of_code c code in
    (given (int_le c.lo n && int_le n c.hi) (unsigned_abs (n -ℤ c.lo)) code (code_of-value_of_code c code within)).0
held_is_admitted (c ∷ columns) (suc col) true code lt nullable within = held_is_admitted columns col true code (omega arith) nullable within
held_is_admitted (c ∷ columns) (suc col) false code lt nullable within = held_is_admitted columns col false code (omega arith) nullable within

-- values are admitted if each is by its column
pub admitted_by_column : (columns : List Column) (values : List Value) → length values ≡ length columns → ((col : ℕ) → col < length columns → admits_at columns col (value_in values col) ≡ true)
    → admits_values columns values ≡ true
admitted_by_column [] [] same each = refl
admitted_by_column [] (value ∷ values) same each = absurd (omega (arith, same))
admitted_by_column (c ∷ columns) [] same each = absurd (omega (arith, same))
admitted_by_column (c ∷ columns) (value ∷ values) same each =
    let later = admitted_by_column columns values (omega (arith, same)) (λ col lt. each (suc col) (omega arith)) in
    ap (λ b. b && admits_values columns values) (each 0 (omega arith)) ∙ later
