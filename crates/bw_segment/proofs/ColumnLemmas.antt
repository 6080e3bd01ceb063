-- Rows that are kept column by column.
use Rattle.std.proofs.Common.{◌≡◌, ◌∙◌, sym, ap, ap₂, subst, ℕ, suc, ◌+◌, ◌-◌, ◌<◌, refl, cond}
use Rattle.std.proofs.Common.{Bool, true, false, not, None, Some, is_some, List, [], ◌∷◌, ◌++◌, map}
use Rattle.std.proofs.Common.{length, take, drop, set, replicate, append_assoc, length-append}
use Rattle.std.proofs.Common.{get_or, get_or-set_same, get_or-set_other, below_more, arith}
use Rattle.std.proofs.lemmas.List.{set-append_right, length-map, map-append, map-set}
use Rattle.std.proofs.lemmas.List.{take-append-le, take_all}
use Rattle.bw_model.specs.declared.column.Column.{Column}
use Rattle.bw_model.specs.Row.{Value, value_in}
use Rattle.bw_model.specs.Groups.{group_size}
use Rattle.bw_model.specs.StoredCodes.{stored_at}
use Rattle.bw_model.specs.Truth.{is_null}
use Rattle.bw_segment.specs.declared.columns.ColumnCodes.{ColumnCodes}
use Rattle.bw_segment.specs.Columns.{kept_at, KeepRows}
use Rattle.bw_segment.specs.Meaning.{null_bits, stored_codes}

-- a column keeps no rows
abbrev pub IsEmpty : ColumnCodes → Type 0
IsEmpty column = (column.codes ≡ replicate 512 0) × (column.nulls ≡ replicate 512 0)

pub empty_kept : (columns : List Column) (kept : List ColumnCodes) → length kept ≡ length columns → ((col : ℕ) → col < length columns → IsEmpty (kept_at kept col)) → KeepRows columns [] kept
unfolding stored_codes null_bits group_size
empty_kept columns kept all each = record { all = all; codes = λ col lt. (each col lt).0; nulls = λ col lt. (each col lt).1 }

-- what holds of the items so far, and of an item that is put after them, holds of one more
pub each_more : {A : Type 0} (P : ℕ → A → Type 0) (d : A) (xs : List A) (i : ℕ) (x : A) → i < length xs → ((k : ℕ) → k < i → P k (get_or xs k d)) → P i x → (k : ℕ) → k < i + 1 → P k (get_or (set xs i x) k d)
each_more P d xs i x lt before here =
    below_more (λ k. P k (get_or (set xs i x) k d)) i
    (λ k below. subst (P k) (sym (get_or-set_other xs i k x d (omega arith))) (before k below))
    (subst (P i) (sym (get_or-set_same xs i x d lt)) here)

-- a column keeps a row more, in a lane
abbrev pub HasPut : List Column → List Value → ℕ → ℕ → ColumnCodes → ColumnCodes → Type 0
HasPut columns row lane col old new =
    (new.codes ≡ set old.codes lane (stored_at columns col (value_in row col))) × (new.nulls ≡ set old.nulls lane (cond (is_null (value_in row col)) 1 0))

-- a code and a null bit that were put are those of a row's value
pub row_put : (columns : List Column) (row : List Value) (lane col code : ℕ) (null : Bool) (value : Value) (old new : ColumnCodes)
    → value ≡ value_in row col → code ≡ stored_at columns col value → is_some value ≡ not null
    → new.codes ≡ set old.codes lane code → new.nulls ≡ set old.nulls lane (cond null 1 0) → HasPut columns row lane col old new
row_put columns row lane col code null value old new is coded some codes nulls =
    (codes ∙ ap (set old.codes lane) (coded ∙ ap (stored_at columns col) is), nulls ∙ ap (λ b. set old.nulls lane (cond b 1 0)) (null_is null value some ∙ ap is_null is))
  where
    null_is : (null : Bool) (value : Value) → is_some value ≡ not null → null ≡ is_null value
    null_is true None some = refl
    null_is false (Some n) some = refl
    null_is true (Some n) some = cc
    null_is false None some = cc

-- what is put into the lane after those of some rows is the lane of one row more
lane_put : {A : Type 0} (f : List Value → A) (none : A) (rows : List (List Value)) (row : List Value) (lane : ℕ) → lane < 512 → length rows ≡ lane
    → set (map f rows ++ replicate (512 - length rows) none) lane (f row) ≡ map f (rows ++ row ∷ []) ++ replicate (512 - length (rows ++ row ∷ [])) none
lane_put {A} f none rows row lane lt long =
    let before = map f rows in
    let rest : List A = replicate (512 - (lane + 1)) none in
    let more : 512 - length rows ≡ suc (512 - (lane + 1)) = omega arith in
    let size : length before ≡ lane = length-map rows f ∙ long in
    let put : set (before ++ none ∷ rest) lane (f row) ≡ before ++ f row ∷ rest =
    set-append_right before (none ∷ rest) lane lane (f row) size (omega arith) ∙ ap (λ k. before ++ set (none ∷ rest) k (f row)) {x = lane - lane} {y = 0} (omega arith) in
    ap (λ n. set (before ++ replicate n none) lane (f row)) more ∙ put ∙ sym (append_assoc before (f row ∷ []) rest)
    ∙ ap₂ (λ l n. l ++ replicate n none) (sym (map-append f rows (row ∷ []))) (omega (arith, length-append rows (row ∷ [])))

pub row_kept : (columns : List Column) (rows : List (List Value)) (row : List Value) (lane : ℕ) (old new : List ColumnCodes) → lane < 512 → length rows ≡ lane → length new ≡ length old
    → ((col : ℕ) → col < length columns → HasPut columns row lane col (kept_at old col) (kept_at new col)) → KeepRows columns rows old → KeepRows columns (rows ++ row ∷ []) new
unfolding stored_codes null_bits group_size
row_kept columns rows row lane old new lt long same put keep = record {
  all = same ∙ keep.all;
  codes = λ col there. (put col there).0 ∙ ap (λ l. set l lane (stored_at columns col (value_in row col))) (keep.codes col there)
      ∙ lane_put (λ values. stored_at columns col (value_in values col)) 0 rows row lane lt long;
  nulls = λ col there. let null = λ (values : List Value). is_null (value_in values col) in
      (put col there).1 ∙ ap (λ l. set l lane (cond (null row) 1 0)) (keep.nulls col there)
      ∙ sym (map-set (λ bit. cond bit 1 0) (null_bits rows col) lane (null row)) ∙ ap (map (λ bit. cond bit 1 0)) (lane_put null false rows row lane lt long);
}

-- a vector whose elements were written, each in its place
pub written : (kept old : List ColumnCodes) (len : ℕ) → length kept ≡ len → take len (kept ++ drop (length kept) old) ≡ kept
written kept old len size = take-append-le len kept (drop (length kept) old) (omega arith) ∙ take_all len kept (omega arith)
