-- Where the variables of each column begin.
use Rattle.std.proofs.Common.{◌≡◌, ◌∙◌, refl, sym, ap, ap₂, ℕ, zero, suc, ◌+◌, ◌*◌, ◌^◌, ◌<◌, ◌≤◌}
use Rattle.std.proofs.Common.{Bool, true, false, cond, List, [], ◌∷◌, map, length, get_or, take}
use Rattle.std.proofs.Common.{add-one, arith}
use mir.Val.{bool_byte}
use Rattle.std.specs.List.{range_with_len}
use Rattle.std.proofs.lemmas.List.{get_or-map}
use Rattle.std.proofs.lemmas.List.FromFn.{length-map-range_with_len, get_or-map-range_with_len}
use Rattle.std.proofs.lemmas.List.Sums.{sum_by-cons}
use Rattle.bw_model.specs.declared.column.Column.{Column}
use Rattle.bw_model.specs.Code.{span_of, span_at, width_at}
use Rattle.bw_model.specs.Variable.{variable_count, first_variable, is_nullable}
use Rattle.bw_model.proofs.DigitLemmas.{below_width}
use Rattle.bw_segment.specs.Packing.{Packing, bytes_before}

-- what is read of a column
pub nullable_read : (columns : List Column) (col : ℕ) (column : Column) → col < length columns → column ≡ get_or columns col column → is_nullable columns col ≡ column.nullable
nullable_read columns col column lt is = get_or-map (λ (c : Column). c.nullable) columns col column false lt ∙ ap (λ (c : Column). c.nullable) (sym is)

pub starts_count : (start : ℕ → ℕ) (columns : List Column) (starts : List ℕ) → starts ≡ map start (range_with_len 0 (length columns + 1)) → length starts ≡ length columns + 1
starts_count start columns starts found = ap length found ∙ length-map-range_with_len start 0 (length columns + 1)

pub start_at : (start : ℕ → ℕ) (columns : List Column) (starts : List ℕ) (col d : ℕ) → starts ≡ map start (range_with_len 0 (length columns + 1)) → col ≤ length columns → get_or starts col d ≡ start col
start_at start columns starts col d found le = ap (λ l. get_or l col d) found ∙ get_or-map-range_with_len start 0 (length columns + 1) col col d (omega arith) (omega arith)

-- the next column's block begins after the null plane, if there is one, and the codes
pub before_next : (packing : Packing) (columns : List Column) (col width size : ℕ) (nullable : Bool) → is_nullable columns col ≡ nullable → width ≡ width_at columns col → size ≡ packing.size width
    → bytes_before packing columns (col + 1) ≡ bytes_before packing columns col + (64 * bool_byte nullable + size)
before_next packing columns col width size nullable null wide long =
    ap (bytes_before packing columns) (add-one col) ∙ ap₂ (λ n s. bytes_before packing columns col + (n + s)) (ap (λ b. cond b 64 0) null ∙ plane nullable) (sym (long ∙ ap packing.size wide))
  where
    plane : (b : Bool) → ◌≡◌ {A = ℕ} (cond b 64 0) (64 * bool_byte b)
    plane true = refl
    plane false = refl

pub one_at_most : (b : Bool) → bool_byte b ≤ 1
one_at_most true = omega arith
one_at_most false = omega arith

-- a code has as many digits as the greatest one
pub span_fits : (columns : List Column) (col : ℕ) → col < length columns → span_at columns col < 2 ^ width_at columns col
span_fits [] col lt = absurd (omega arith)
span_fits (c ∷ columns) zero lt = below_width c (span_of c) (omega arith)
span_fits (c ∷ columns) (suc col) lt = span_fits columns col (omega arith)

-- the same, by the numbers of the columns
pub variable_next : (columns : List Column) (col : ℕ) → col < length columns → first_variable columns (suc col) ≡ first_variable columns col + (cond (is_nullable columns col) 1 0 + width_at columns col)
variable_next [] col lt = absurd (omega arith)
variable_next (c ∷ columns) zero lt = sum_by-cons variable_count c [] ∙ omega arith
variable_next (c ∷ columns) (suc col) lt =
    omega (arith, sum_by-cons variable_count c (take (suc col) columns), sum_by-cons variable_count c (take col columns), variable_next columns col (omega arith))
