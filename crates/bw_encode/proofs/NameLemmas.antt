-- The names of columns are valid, and apart.
use Rattle.std.proofs.Common.{◌≡◌, refl, subst, ℕ, zero, suc, ◌+◌, ◌<◌, ◌≤◌, Bool, true, false, not, ◌&&◌, List, [], ◌∷◌, ◌++◌, arith, add-zero, add-suc, nat_lt, ◌-◌, ◌||◌}
use borrow.Author.Tests.{ltb-true, ltb-false}
use Rattle.std.specs.Fmt.{digits}
use Rattle.std.specs.List.{list_any}
use Rattle.std.proofs.lemmas.Bool.{and_parts}
use Rattle.bw_model.specs.Name.{are_apart, is_name}
use Rattle.bw_text.specs.Text.{same_text}
use Rattle.bw_text.specs.Keyword as keyword
use Rattle.bw_encode.specs.Table.{column_name, column_names, table_name}

-- every name before a place is valid
all_valid : ℕ → Bool
all_valid zero = true
all_valid (suc n) = is_name (column_name n) && all_valid n

valid_64 : all_valid 64 ≡ true
unfolding all_valid is_name same_text digits keyword.keyword_of
valid_64 = refl

pub valid_table : is_name table_name ≡ true
unfolding is_name same_text keyword.keyword_of
valid_table = refl

apart_64 : are_apart (column_names 64) ≡ true
unfolding are_apart column_names same_text digits
apart_64 = refl

valid_below : (n : ℕ) → all_valid n ≡ true → (place : ℕ) → place < n → is_name (column_name place) ≡ true
unfolding all_valid
valid_below zero all place lt = absurd (omega arith)
valid_below (suc n) all place lt =
    let both = and_parts (is_name (column_name n)) (all_valid n) all in
    by (nat_lt place n) refl both.0 (valid_below n both.1 place)
  where
    by : (b : Bool) → nat_lt place n ≡ b → is_name (column_name n) ≡ true → (place < n → is_name (column_name place) ≡ true) → is_name (column_name place) ≡ true
    by true h here rest = rest (ltb-true place n h)
    by false h here rest = let le = ltb-false place n h in let same : n ≡ place = omega arith in subst (λ k. is_name (column_name k) ≡ true) same here

pub valid_name : (place : ℕ) → place < 64 → is_name (column_name place) ≡ true
valid_name place lt = valid_below 64 valid_64 place lt

fewer : (name : List ℕ) (xs : List (List ℕ)) (y : List ℕ) → not (list_any (same_text name) (xs ++ y ∷ [])) ≡ true → not (list_any (same_text name) xs) ≡ true
fewer name [] y h = refl
fewer name (x ∷ xs) y h = by (same_text name x) refl (fewer name xs y) h
  where
    by : (b : Bool) → same_text name x ≡ b → (not (list_any (same_text name) (xs ++ y ∷ [])) ≡ true → not (list_any (same_text name) xs) ≡ true)
        → not (b || list_any (same_text name) (xs ++ y ∷ [])) ≡ true → not (same_text name x || list_any (same_text name) xs) ≡ true
    by true e rest h = absurd (cc h)
    by false e rest h = rw e (rest h)

apart_before : (xs : List (List ℕ)) (y : List ℕ) → are_apart (xs ++ y ∷ []) ≡ true → are_apart xs ≡ true
unfolding are_apart
apart_before [] y h = refl
apart_before (x ∷ xs) y h =
    let both = and_parts (not (list_any (same_text x) (xs ++ y ∷ []))) (are_apart (xs ++ y ∷ [])) h in
    rw (fewer x xs y both.0, apart_before xs y both.1) refl

apart_less : (more n : ℕ) → are_apart (column_names (n + more)) ≡ true → are_apart (column_names n) ≡ true
unfolding column_names
apart_less zero n h = rw add-zero at h
apart_less (suc more) n h = apart_less more n (apart_before (column_names (n + more)) (column_name (n + more)) (rw add-suc at h))

-- the names of up to 64 columns are apart
pub apart_names : (n : ℕ) → n ≤ 64 → are_apart (column_names n) ≡ true
apart_names n le = apart_less (64 - n) n (let same : n + (64 - n) ≡ 64 = omega arith in rw same apart_64)
