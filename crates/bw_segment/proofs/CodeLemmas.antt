-- The codes of a column's rows, one after the other.
use Rattle.std.proofs.Common.{◌≡◌, ◌∙◌, refl, ap, ℕ, zero, suc, ◌<◌, ◌≤◌, true, List, [], ◌∷◌, map}
use Rattle.std.proofs.Common.{length, get_or, None, arith}
use Rattle.std.specs.List.{list_all}
use Rattle.std.proofs.lemmas.List.{length-map, get_or_read}
use Rattle.bw_model.specs.declared.column.Column.{Column}
use Rattle.bw_model.specs.declared.row.Row.{Row}
use Rattle.bw_model.specs.Row.{Value, value_in, values_of}
use Rattle.bw_model.specs.Column.{admits_value, admits_values}
use Rattle.bw_model.specs.declared.schema.Schema.{Schema}
use Rattle.bw_model.specs.Groups.{group_size}
use Rattle.bw_segment.specs.Meaning.{meaning_of, IsGroup}
use Rattle.bw_model.proofs.BitsLemmas.{both}

pub admitted_at : (columns : List Column) (rows : List Row) (i : ℕ) (row : Row) → list_all (admits_values columns) (map values_of rows) ≡ true → i < length rows
    → row ≡ get_or rows i row → admits_values columns (values_of row) ≡ true
admitted_at columns [] i row all lt is = absurd (omega arith)
admitted_at columns (r ∷ rows) zero row all lt is =
    ap (λ x. admits_values columns (values_of x)) is ∙ (both (admits_values columns (values_of r)) (list_all (admits_values columns) (map values_of rows)) all).0
admitted_at columns (r ∷ rows) (suc i) row all lt is =
    admitted_at columns rows i row (both (admits_values columns (values_of r)) (list_all (admits_values columns) (map values_of rows)) all).1 (omega arith) is

pub length_admitted : (columns : List Column) (values : List Value) → admits_values columns values ≡ true → length values ≡ length columns
length_admitted [] [] admitted = refl
length_admitted [] (value ∷ values) admitted = cc
length_admitted (column ∷ columns) [] admitted = cc
length_admitted (column ∷ columns) (value ∷ values) admitted =
    ap suc (length_admitted columns values (both (admits_value column value) (admits_values columns values) admitted).1)

pub few_rows : (schema : Schema) (rows : List Row) → IsGroup (meaning_of schema rows) → length rows ≤ 512
unfolding group_size
few_rows schema rows group = omega (arith, group.within_limit, length-map rows values_of)

-- the value that is read in a column
pub value_read : (values : List Value) (col : ℕ) (value : Value) → col < length values → value ≡ get_or values col value → value ≡ value_in values col
value_read values col value lt is = get_or_read values col value lt is None
