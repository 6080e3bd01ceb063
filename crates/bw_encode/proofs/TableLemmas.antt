-- Tables of coded columns.
use Rattle.std.proofs.Common.{◌≡◌, ◌∙◌, refl, sym, ap, subst, ℕ, zero, suc, ◌+◌, ◌<◌, ◌^◌, ℤ, pos, ◌≤ℤ◌, ◌<ℤ◌, ◌-ℤ◌, int_le, int_lt, Bool, true, false, List, [], ◌∷◌, ◌++◌, length, map, Some, Option, arith, get_or, length-append, nat_lt}
use borrow.Author.Tests.{ltb-true, ltb-false}
use Rattle.std.specs.List.{flat_map}
use Rattle.std.proofs.lemmas.Bool.{and_parts}
use Rattle.std.proofs.lemmas.Int.{ints}
use Rattle.std.proofs.lemmas.List.{get_or-map, length-map, map-append, get_or_append_left}
use Rattle.std.proofs.Math.Seq.{get_or-append_seam}
use Rattle.std.proofs.lemmas.Option.{slice_get-get_or}
use Rattle.bw_model.specs.declared.column.Column.{Column}
use Rattle.bw_model.specs.Column.{names_of}
use Rattle.bw_model.specs.SchemaText.{is_range}
use Rattle.bw_encode.specs.declared.coded.Coded.{Coded}
use Rattle.bw_encode.specs.Coded.{encoding_of}
use Rattle.bw_encode.specs.Column.{Encoding, Numbers, values_in}
use Rattle.bw_encode.specs.Table.{IsNarrowest, column_name, column_names, row_at, rows_upto}

pub flat_map-map : {A B C : Type 0} (f : B → List C) (g : A → B) (xs : List A) → flat_map f (map g xs) ≡ flat_map (λ x. f (g x)) xs
flat_map-map f g [] = refl
flat_map-map f g (x ∷ xs) = ap (λ rest. f (g x) ++ rest) (flat_map-map f g xs)

pub range_parts : (lo hi : ℤ) → is_range lo hi ≡ true → (lo ≤ℤ hi) × ((hi -ℤ lo) <ℤ pos (2 ^ 63))
unfolding is_range
range_parts lo hi e = let both = and_parts (int_le lo hi) (int_lt (hi -ℤ lo) (pos (2 ^ 63))) e in (order lo hi both.0, near (hi -ℤ lo) (pos (2 ^ 63)) both.1)
  where
    order : (m n : ℤ) → int_le m n ≡ true → m ≤ℤ n
    order m n e = grind (arith, ints)

    near : (m n : ℤ) → int_lt m n ≡ true → m <ℤ n
    near m n e = grind (arith, ints)

-- the columns of the places before one are made
pub record AreMade (coded : List Coded) (columns : List Column) (place : ℕ) : Type 0 where
  pub names : names_of columns ≡ column_names place
  pub narrow : (k : ℕ) (column : Column) (d : Coded) → k < place → IsNarrowest (values_in (encoding_of (get_or coded k d))) (get_or columns k column)

pub made_none : (coded : List Coded) → AreMade coded [] 0
unfolding column_names
made_none coded = record { names = refl; narrow = λ k column d lt. absurd (omega arith) }

pub names_size : (n : ℕ) → length (column_names n) ≡ n
unfolding column_names
names_size zero = refl
names_size (suc n) = length-append (column_names n) (column_name n ∷ []) ∙ let h = names_size n in omega arith

made_size : (coded : List Coded) (columns : List Column) (place : ℕ) → AreMade coded columns place → length columns ≡ place
made_size coded columns place made = sym (length-map columns (λ (column : Column). column.name)) ∙ ap length made.names ∙ names_size place

names_step : (n : ℕ) → column_names (n + 1) ≡ column_names n ++ column_name n ∷ []
unfolding column_names
names_step n = let e : n + 1 ≡ suc n = omega arith in ap column_names e

pub rows_step : (encodings : List Encoding) (n : ℕ) → rows_upto encodings (n + 1) ≡ rows_upto encodings n ++ row_at encodings n ∷ []
unfolding rows_upto
rows_step encodings n = let e : n + 1 ≡ suc n = omega arith in ap (rows_upto encodings) e

pub rows_none : (encodings : List Encoding) → rows_upto encodings 0 ≡ []
unfolding rows_upto
rows_none encodings = refl

last_one : (xs : List Column) (column : Column) (n : ℕ) → length xs ≡ n → (other : Column) → get_or (xs ++ column ∷ []) n other ≡ column
last_one xs column n e other = subst (λ i. get_or (xs ++ column ∷ []) i other ≡ column) e (get_or-append_seam xs column [] other)

pub made_more : (coded : List Coded) (columns : List Column) (place : ℕ) (column : Column) (here : Coded) → AreMade coded columns place
    → column.name ≡ column_name place → ((d : Coded) → get_or coded place d ≡ here) → IsNarrowest (values_in (encoding_of here)) column
    → AreMade coded (columns ++ column ∷ []) (place + 1)
made_more coded columns place column here made name at narrow = record {
  names = map-append (λ (column : Column). column.name) columns (column ∷ []) ∙ rw (made.names, name) (sym (names_step place));
  narrow = λ k other d lt. by k other d (nat_lt k place) refl lt;
}
  where
    size : length columns ≡ place
    size = made_size coded columns place made

    by : (k : ℕ) (other : Column) (d : Coded) (b : Bool) → nat_lt k place ≡ b → k < place + 1 → IsNarrowest (values_in (encoding_of (get_or coded k d))) (get_or (columns ++ column ∷ []) k other)
    by k other d true h lt =
        let low = ltb-true k place h in
        let in' : k < length columns = let s = size in omega arith in
        subst (IsNarrowest (values_in (encoding_of (get_or coded k d)))) (sym (get_or_append_left columns (column ∷ []) other k in')) (made.narrow k other d low)
    by k other d false h lt =
        let le = ltb-false k place h in
        let same : place ≡ k = omega arith in
        subst (λ n. IsNarrowest (values_in (encoding_of (get_or coded n d))) (get_or (columns ++ column ∷ []) n other)) same
        (rw (at d) (subst (IsNarrowest (values_in (encoding_of here))) (sym (last_one columns column place size other)) narrow))

pub are_schema : (coded : List Coded) (columns : List Column) → AreMade coded columns (length coded)
    → (place : ℕ) (column : Column) → place < length (map encoding_of coded) → IsNarrowest (values_in (get_or (map encoding_of coded) place (Numbers []))) (get_or columns place column)
are_schema [] columns made place column lt = absurd (omega arith)
are_schema (x ∷ xs) columns made place column lt =
    let in' : place < length (x ∷ xs) = omega (arith, length-map (x ∷ xs) encoding_of) in
    rw (get_or-map encoding_of (x ∷ xs) place x (Numbers []) in') (made.narrow place column x in')

pub size_made : (coded : List Coded) (columns : List Column) (place : ℕ) → AreMade coded columns place → length columns ≡ place
size_made = made_size

-- an element is the same whatever stands for what is past the end
pub any_default : {X : Type 0} (xs : List X) (i : ℕ) (d e : X) → i < length xs → get_or xs i d ≡ get_or xs i e
any_default {X} xs i d e lt =
    let a = slice_get-get_or xs i d lt in
    let b = slice_get-get_or xs i e lt in
    let c : ◌≡◌ {A = Option X} (Some (get_or xs i d)) (Some (get_or xs i e)) = sym a ∙ b in
    cc

pub map-map : {A B C : Type 0} (f : B → C) (g : A → B) (xs : List A) → map f (map g xs) ≡ map (λ x. f (g x)) xs
map-map f g [] = refl
map-map f g (x ∷ xs) = ap (λ rest. f (g x) ∷ rest) (map-map f g xs)
