-- Truth values in lanes, worked out one after another.
use Rattle.std.proofs.Common.{◌≡◌, ◌∙◌, refl, sym, ap, ◌⊎◌, inl, inr, ℕ, zero, suc, ◌+◌, ◌-◌, ◌<◌}
use Rattle.std.proofs.Common.{◌≤◌, leb, Bool, true, false, List, [], ◌∷◌, ◌++◌, None, length}
use Rattle.std.proofs.Common.{length-append, map, replicate, get_or, arith}
use Rattle.std.proofs.lemmas.Bool.Decides.{leb_tells}
use Rattle.std.proofs.lemmas.Bool.{and_parts}
use Rattle.std.proofs.lemmas.List.{ext_get_or, get_or-append-add, get_or_past, get_or-map}
use Rattle.std.proofs.lemmas.List.{get_or_append_left, get_or-replicate, length-map}
use Rattle.std.proofs.lemmas.List.{length-replicate}
use Rattle.std.specs.List.{list_all}
use Rattle.bw_model.specs.Column.{admits_values}
use Rattle.bw_model.specs.declared.column.Column.{Column}
use Rattle.bw_model.specs.Row.{Value, value_in}
use Rattle.bw_rowwise.specs.Columns.{row_at}

-- in a list of the same each is that
pub same_at : {A : Type 0} (a : A) (count i : ℕ) → get_or (replicate count a) i a ≡ a
same_at a zero i = refl
same_at a (suc count) zero = refl
same_at a (suc count) (suc i) = same_at a count i

-- a lane is 1 if its row matches, and else 0
pub record Marks (lanes : List Bool) (rows : List (List Value)) (keeps : List Value → Bool) : Type 0 where
  pub all : length lanes ≡ 512
  pub within_limit : length rows ≤ 512
  pub kept : (lane : ℕ) → lane < length rows → get_or lanes lane false ≡ keeps (get_or rows lane [])
  pub past : (lane : ℕ) → length rows ≤ lane → lane < 512 → get_or lanes lane false ≡ false

lane_at : (lanes : List Bool) (rows : List (List Value)) (keeps : List Value → Bool) → Marks lanes rows keeps → (i : ℕ) → i < 512
    → ((leb (length rows) i ≡ true) × (length rows ≤ i)) ⊎ ((leb (length rows) i ≡ false) × (i < length rows))
    → get_or lanes i false ≡ get_or (map keeps rows ++ replicate (512 - length rows) false) i false
lane_at lanes rows keeps marks i within (inl above) =
    let there : length (map keeps rows) + (i - length rows) ≡ i = omega (arith, length-map rows keeps, above.1) in
    marks.past i above.1 within
    ∙ sym (ap (λ k. get_or (map keeps rows ++ replicate (512 - length rows) false) k false) (sym there)
    ∙ get_or-append-add (map keeps rows) (replicate (512 - length rows) false) (i - length rows) false ∙ same_at false (512 - length rows) (i - length rows))
lane_at lanes rows keeps marks i within (inr below) =
    marks.kept i below.1
    ∙ sym (get_or_append_left (map keeps rows) (replicate (512 - length rows) false) false i (omega (arith, length-map rows keeps, below.1))
    ∙ get_or-map keeps rows i [] false below.1)

-- so the lanes mark the rows that are kept
pub marked : (lanes : List Bool) (rows : List (List Value)) (keeps : List Value → Bool) → Marks lanes rows keeps → lanes ≡ map keeps rows ++ replicate (512 - length rows) false
marked lanes rows keeps marks =
    ext_get_or false lanes (map keeps rows ++ replicate (512 - length rows) false)
    (omega (arith, length-append (map keeps rows) (replicate (512 - length rows) false), length-map rows keeps, length-replicate (512 - length rows) false, marks.all, marks.within_limit))
    (λ i within. lane_at lanes rows keeps marks i (omega (arith, marks.all, within)) (leb_tells (length rows) i))

-- the lanes of the first rows, this many
pub first_lane : (count rest lane : ℕ) → lane < count → get_or (replicate count true ++ replicate rest false) lane false ≡ true
first_lane count rest lane within =
    get_or_append_left (replicate count true) (replicate rest false) false lane (omega (arith, length-replicate count true, within)) ∙ get_or-replicate count lane true false within

pub last_lane : (count rest lane : ℕ) → count ≤ lane → get_or (replicate count true ++ replicate rest false) lane false ≡ false
last_lane count rest lane past =
    let there : length (replicate count true) + (lane - count) ≡ lane = omega (arith, length-replicate count true, past) in
    ap (λ k. get_or (replicate count true ++ replicate rest false) k false) (sym there)
    ∙ get_or-append-add (replicate count true) (replicate rest false) (lane - count) false ∙ same_at false rest (lane - count)

-- a column past those that each row has is null in every lane
pub no_column : (columns : List Column) (rows : List (List Value)) (column lane : ℕ) → ((row : List Value) → admits_values columns row ≡ true → length row ≡ length columns)
    → list_all (admits_values columns) rows ≡ true → length columns ≤ column → value_in (row_at rows lane) column ≡ None
no_column columns [] column lane long all past = refl
no_column columns (row ∷ rows) column zero long all past =
    let here = and_parts (admits_values columns row) (list_all (admits_values columns) rows) all in
    get_or_past row column None (omega (arith, long row here.0))
no_column columns (row ∷ rows) column (suc lane) long all past =
    no_column columns rows column lane long (and_parts (admits_values columns row) (list_all (admits_values columns) rows) all).1 past
