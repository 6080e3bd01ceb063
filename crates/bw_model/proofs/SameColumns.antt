-- Columns of the same names and bounds are the same.
use Rattle.std.proofs.Common.{◌≡◌, ◌≤ℤ◌, ◌<ℤ◌, ◌-ℤ◌, ℤ, pos, ◌^◌, Bool, List, [], ◌∷◌, map, ℕ, refl}
use Rattle.std.proofs.Common.{ap, ap₂, subst}
use Rattle.std.proofs.Math.Dec.{T_prop}
use Rattle.bw_model.specs.declared.column.Column.{Column}
use Rattle.bw_model.specs.SchemaText.{ColumnShape, column_shape}

le_prop : (l h : ℤ) → IsProp (l ≤ℤ h)
le_prop l h = hlevel T_prop

lt_prop : (l h : ℤ) → IsProp (l <ℤ h)
lt_prop l h = hlevel T_prop

made : (n : List ℕ) (l h : ℤ) (f : Bool) → l ≤ℤ h → (h -ℤ l) <ℤ pos (2 ^ 63) → Column
made n l h f o w = record { name = n; lo = l; hi = h; nullable = f; ordered = o; narrow = w }

same_made : (n : List ℕ) (l h : ℤ) (f : Bool) (o o' : l ≤ℤ h) (w w' : (h -ℤ l) <ℤ pos (2 ^ 63)) → made n l h f o w ≡ made n l h f o' w'
same_made n l h f o o' w w' = ap₂ (made n l h f) (le_prop l h o o') (lt_prop (h -ℤ l) (pos (2 ^ 63)) w w')

abbrev Same : Column → List ℕ → ℤ → ℤ → Bool → Type 0
Same a n l h f = (o : l ≤ℤ h) (w : (h -ℤ l) <ℤ pos (2 ^ 63)) → a ≡ made n l h f o w

own : (a : Column) → Same a a.name a.lo a.hi a.nullable
unfolding made
own a o w = same_made a.name a.lo a.hi a.nullable a.ordered o a.narrow w

of_parts : (a : Column) (n : List ℕ) (l h : ℤ) (f : Bool) → a.name ≡ n → a.lo ≡ l → a.hi ≡ h → a.nullable ≡ f → Same a n l h f
of_parts a n l h f en el eh ef =
    subst (λ (x : Bool). Same a n l h x) ef
    (subst (λ (x : ℤ). Same a n l x a.nullable) eh
    (subst (λ (x : ℤ). Same a n x a.hi a.nullable) el
    (subst (λ (x : List ℕ). Same a x a.lo a.hi a.nullable) en (own a))))

column_same : (a b : Column) → column_shape a ≡ column_shape b → a ≡ b
unfolding made
column_same a b e =
    of_parts a b.name b.lo b.hi b.nullable (ap (λ (s : ColumnShape). s.name) e) (ap (λ (s : ColumnShape). s.lo) e) (ap (λ (s : ColumnShape). s.hi) e) (ap (λ (s : ColumnShape). s.nullable) e)
    b.ordered b.narrow

-- equal lists have equal heads and tails
pub heads : {A : Type 0} {x y : A} {xs ys : List A} → x ∷ xs ≡ y ∷ ys → x ≡ y
heads e = cc

pub tails : {A : Type 0} {x y : A} {xs ys : List A} → x ∷ xs ≡ y ∷ ys → xs ≡ ys
tails e = cc

-- so schemas of one shape have the same columns
pub columns_same : (cs ds : List Column) → map column_shape cs ≡ map column_shape ds → cs ≡ ds
columns_same [] [] e = refl
columns_same (a ∷ cs) (b ∷ ds) e =
    ap₂ (λ (c : Column) (l : List Column). c ∷ l) (column_same a b (heads e)) (columns_same cs ds (tails e))
columns_same _ _ e = absurd (cc e)
