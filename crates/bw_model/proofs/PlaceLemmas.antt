-- Where the bits of a row are, and what a row of an assignment has in each column.
use Rattle.std.proofs.Common.{◌≡◌, ◌∙◌, refl, sym, ap, ap₂, ℕ, zero, suc, ◌+◌, ◌-◌, ◌<◌, ⊎_elim}
use Rattle.std.proofs.Common.{Bool, true, false, cond, ◌==◌, ◌&&◌, List, [], ◌∷◌, ◌++◌, length}
use Rattle.std.proofs.Common.{take, length-append, get_or, add-zero, zero-add, Some, None}
use Rattle.std.proofs.Common.{unwrap_or, arith}
use Rattle.std.specs.Int.{bit_at}
use Rattle.std.proofs.Math.ListN.{get_or-append}
use Rattle.std.proofs.lemmas.Bool.{cases_lt}
use Rattle.std.proofs.lemmas.List.{get_or-append-add}
use Rattle.std.proofs.lemmas.List.Sums.{sum_by-cons}
use Rattle.bw_model.specs.declared.column.Column.{Column}
use Rattle.bw_model.specs.Row.{Value, value_in}
use Rattle.bw_model.specs.Column.{admits_value, admits_values}
use Rattle.bw_model.specs.Truth.{is_null}
use Rattle.bw_model.specs.Code.{width_of, width_at, code_of, code_at, value_at, value_of_code}
use Rattle.bw_model.specs.Variable.{null_count, variable_count, variables_of, is_nullable}
use Rattle.bw_model.specs.Variable.{first_variable, null_variable, bit_variable, Assignment}
use Rattle.bw_model.specs.Variable.{assignment_of, low_bits, value_bits, bits_of, binary_number, row_from}
use Rattle.bw_model.specs.Variable.{row_of, value_assigned}
use Rattle.bw_model.proofs.BitsLemmas.{both, given, length-value_bits, length_value_list}
use Rattle.bw_model.proofs.VariableLemmas.{width_before_next, width_positive}

-- as many bits as variables
pub length-bits_of : (columns : List Column) (values : List Value) → admits_values columns values ≡ true → length (bits_of columns values) ≡ variables_of columns
length-bits_of [] [] admitted = refl
length-bits_of (column ∷ columns) (value ∷ values) admitted =
    let each = both (admits_value column value) (admits_values columns values) admitted in
    length-append (value_bits column value) (bits_of columns values) ∙ ap₂ ◌+◌ (length-value_bits column value) (length-bits_of columns values each.1) ∙ sym (sum_by-cons variable_count column columns)
length-bits_of _ _ admitted = cc

-- a row that columns admit has a value for each
pub length_admitted : (columns : List Column) (values : List Value) → admits_values columns values ≡ true → length values ≡ length columns
length_admitted [] [] admitted = refl
length_admitted (column ∷ columns) (value ∷ values) admitted =
    ap suc (length_admitted columns values (both (admits_value column value) (admits_values columns values) admitted).1)
length_admitted _ _ admitted = cc

-- past the bits of the first value come those of the others
past_first : (column : Column) (value : Value) (others : List Bool) (k : ℕ) → get_or (value_bits column value ++ others) (variable_count column + k) false ≡ get_or others k false
past_first column value others k =
    ap (λ n. get_or (value_bits column value ++ others) (n + k) false) (sym (length-value_bits column value)) ∙ get_or-append-add (value_bits column value) others k false

first_bit : (nullable null : Bool) (width code : ℕ) (others : List Bool) → nullable ≡ true → get_or ((cond nullable (null ∷ []) [] ++ low_bits width code) ++ others) 0 false ≡ null
first_bit true null width code others is = refl
first_bit false null width code others is = cc

-- the null bit stands at the column's null variable
pub null_bit_at : (columns : List Column) (values : List Value) (column : ℕ) → admits_values columns values ≡ true → column < length columns → is_nullable columns column ≡ true →
    assignment_of (bits_of columns values) (first_variable columns column) ≡ is_null (value_in values column)
null_bit_at [] values column admitted lt nullable = absurd (omega arith)
null_bit_at (c ∷ columns) [] column admitted lt nullable = cc
null_bit_at (c ∷ columns) (value ∷ values) zero admitted lt nullable =
    first_bit c.nullable (is_null value) (width_of c) (unwrap_or (code_of c value) 0) (bits_of columns values) nullable
null_bit_at (c ∷ columns) (value ∷ values) (suc column) admitted lt nullable =
    let each = both (admits_value c value) (admits_values columns values) admitted in
    ap (λ k. get_or (value_bits c value ++ bits_of columns values) k false) (sum_by-cons variable_count c (take column columns))
    ∙ past_first c value (bits_of columns values) (first_variable columns column)
    ∙ null_bit_at columns values column each.1 (omega arith) nullable

-- bit b of the low bits stands b from their end
get_or-low_bits : (width n bit : ℕ) → bit < width → get_or (low_bits width n) (width - suc bit) false ≡ (bit_at n bit == 1)
get_or-low_bits zero n bit lt = absurd (omega arith)
get_or-low_bits (suc width) n bit lt = ⊎_elim
    (λ below. let next : suc width - suc bit ≡ suc (width - suc bit) = omega arith in
    ap (λ k. get_or (low_bits (suc width) n) k false) next ∙ get_or-low_bits width n bit below)
    (λ above. let top : bit ≡ width = omega arith in let here : suc width - suc bit ≡ 0 = omega arith in
    ap (λ k. get_or (low_bits (suc width) n) k false) here ∙ ap (λ k. bit_at n k == 1) (sym top))
    (cases_lt bit width)

-- a bit of the first value
value_bit : (nullable null : Bool) (width code bit : ℕ) (others : List Bool) → bit < width →
    get_or ((cond nullable (null ∷ []) [] ++ low_bits width code) ++ others) ((cond nullable 1 0 + width) - suc bit) false ≡ (bit_at code bit == 1)
value_bit nullable null width code bit others lt =
    get_or-append (cond nullable (null ∷ []) [] ++ low_bits width code) others false ((cond nullable 1 0 + width) - suc bit) (omega (arith, length_value_list nullable null width code)) ∙ within nullable
  where
    within : (nullable : Bool) → get_or (cond nullable (null ∷ []) [] ++ low_bits width code) ((cond nullable 1 0 + width) - suc bit) false ≡ (bit_at code bit == 1)
    within true = let next : (1 + width) - suc bit ≡ suc (width - suc bit) = omega arith in
        ap (λ k. get_or (null ∷ low_bits width code) k false) next ∙ get_or-low_bits width code bit lt
    within false = let same : (0 + width) - suc bit ≡ width - suc bit = omega arith in
        ap (λ k. get_or (low_bits width code) k false) same ∙ get_or-low_bits width code bit lt

-- a code's bit stands at its variable; a null has code bits 0
pub code_bit_at : (columns : List Column) (values : List Value) (column bit : ℕ) → admits_values columns values ≡ true → column < length columns → bit < width_at columns column →
    assignment_of (bits_of columns values) (bit_variable columns column bit) ≡ (bit_at (unwrap_or (code_at columns column (value_in values column)) 0) bit == 1)
code_bit_at [] values column bit admitted lt low = absurd (omega arith)
code_bit_at (c ∷ columns) [] column bit admitted lt low = cc
code_bit_at (c ∷ columns) (value ∷ values) zero bit admitted lt low =
    let count : variables_of (c ∷ []) ≡ variable_count c = omega (arith, sum_by-cons variable_count c []) in
    ap (λ n. get_or (value_bits c value ++ bits_of columns values) (n - suc bit) false) count
    ∙ value_bit c.nullable (is_null value) (width_of c) (unwrap_or (code_of c value) 0) bit (bits_of columns values) low
code_bit_at (c ∷ columns) (value ∷ values) (suc column) bit admitted lt low =
    let each = both (admits_value c value) (admits_values columns values) admitted in
    let lt : column < length columns = omega arith in
    let count : variables_of (c ∷ take (suc column) columns) - suc bit ≡ variable_count c + (first_variable columns (suc column) - suc bit) =
    omega (arith, sum_by-cons variable_count c (take (suc column) columns), width_before_next columns column lt) in
    ap (λ k. get_or (value_bits c value ++ bits_of columns values) k false) count
    ∙ past_first c value (bits_of columns values) (bit_variable columns column bit)
    ∙ code_bit_at columns values column bit each.1 lt low

-- the value that an assignment gives to a column
pub value_in-row_from : (columns : List Column) (bits : Assignment) (first column : ℕ) → column < length columns →
    value_in (row_from columns bits first) column ≡ cond (is_nullable columns column && bits (first + first_variable columns column)) None
    (Some (value_at columns column (binary_number bits (first + (first_variable columns (suc column) - width_at columns column)) (width_at columns column))))
value_in-row_from [] bits first column lt = absurd (omega arith)
value_in-row_from (c ∷ columns) bits first zero lt =
    let count : first + (variables_of (c ∷ []) - width_of c) ≡ first + null_count c = omega (arith, sum_by-cons variable_count c []) in
    ap₂ (λ k j. cond (c.nullable && bits k) None (Some (value_of_code c (binary_number bits j (width_of c))))) (sym (add-zero first)) (sym count)
value_in-row_from (c ∷ columns) bits first (suc column) lt =
    let lt : column < length columns = omega arith in
    let here : (first + variable_count c) + first_variable columns column ≡ first + variables_of (c ∷ take column columns) = omega (arith, sum_by-cons variable_count c (take column columns)) in
    let bit : (first + variable_count c) + (first_variable columns (suc column) - width_at columns column) ≡ first + (variables_of (c ∷ take (suc column) columns) - width_at columns column) =
    omega (arith, sum_by-cons variable_count c (take (suc column) columns), width_before_next columns column lt) in
    value_in-row_from columns bits (first + variable_count c) column lt
    ∙ ap₂ (λ k j. cond (is_nullable columns column && bits k) None (Some (value_at columns column (binary_number bits j (width_at columns column))))) here bit

pub value_in-row_of : (columns : List Column) (bits : Assignment) (column : ℕ) → column < length columns → value_in (row_of columns bits) column ≡ value_assigned columns bits column
value_in-row_of columns bits column lt =
    let top : first_variable columns (suc column) - width_at columns column ≡ bit_variable columns column (width_at columns column - 1) = omega (arith, width_positive columns column lt) in
    value_in-row_from columns bits 0 column lt
    ∙ ap₂ (λ k j. cond (is_nullable columns column && bits k) None (Some (value_at columns column (binary_number bits j (width_at columns column))))) (zero-add (first_variable columns column)) (zero-add (first_variable columns (suc column) - width_at columns column) ∙ top)

pub null_bit_at_variable : (columns : List Column) (values : List Value) (column variable : ℕ) → admits_values columns values ≡ true → column < length columns → null_variable columns column ≡ Some variable →
    assignment_of (bits_of columns values) variable ≡ is_null (value_in values column)
null_bit_at_variable columns values column variable admitted lt is =
    let both = given (is_nullable columns column) (first_variable columns column) variable is in
    ap (assignment_of (bits_of columns values)) (sym both.1) ∙ null_bit_at columns values column admitted lt both.0
