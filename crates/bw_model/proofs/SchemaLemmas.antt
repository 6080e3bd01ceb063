-- What schema texts say, line by line.
use Rattle.std.proofs.Common.{sym, map, ℤ, ◌≤◌, nat_lt, Result, arith, ◌∙◌, ◌<◌, nat_le, Some, Ok}
use Rattle.std.proofs.Common.{Err, ◌≡◌, ◌≢◌, ℕ, List, [], ◌∷◌, ◌++◌, length, None, Bool, true}
use Rattle.std.proofs.Common.{false, refl, not, ◌||◌, ap, pos, ◌^◌, ◌≤ℤ◌, ◌<ℤ◌, ◌-ℤ◌, int_le}
use Rattle.std.proofs.Common.{int_lt, rules}
use Rattle.std.specs.List.{list_any}
use Rattle.std.proofs.lemmas.List.Folds.{list_any-append}
use Rattle.bw_model.specs.declared.fault.Fault.{Fault}
use Rattle.bw_model.specs.declared.column.Column.{Column}
use Rattle.bw_model.specs.Column.{names_of}
use Rattle.bw_model.specs.Fault.{at_line, nowhere, ◌>>=◌}
use Rattle.bw_text.specs.Lines.{NumberedWords, Unread, lines_in, end_in, whole}
use Rattle.bw_model.specs.Name.{are_apart, is_name}
use Rattle.std.proofs.lemmas.Bool.{lt-leb, le-ltb, lt-ltb, and_parts, or_parts, not-true}
use Rattle.std.proofs.lemmas.List.{length-map}
use Rattle.bw_text.specs.Text.{same_text}
use Rattle.bw_model.specs.SchemaText.{ColumnShape, shape, shape_names, column_shape, schema_of}
use Rattle.bw_model.specs.SchemaText.{schema_on, columns_on, table_on, with_columns, column_words}
use Rattle.bw_model.specs.SchemaText.{column_on, after_room, is_range}

-- lines of other numbers of words are no columns
pub column_words-other : (words : List (List ℕ)) → length words ≢ 4 → length words ≢ 6 → None ≡ column_words words
unfolding column_words
column_words-other (a ∷ b ∷ c ∷ d ∷ []) four six = absurd (four refl)
column_words-other (a ∷ b ∷ c ∷ d ∷ e ∷ f ∷ []) four six = absurd (six refl)
column_words-other _ four six = refl

-- a name among the columns' names is that of a column
pub list_any_names : (columns : List Column) (name : List ℕ) → list_any (λ other. same_text other name) (names_of columns) ≡ list_any (λ column. same_text column.name name) columns
list_any_names [] name = refl
list_any_names (column ∷ columns) name = ap (λ b. same_text column.name name || b) (list_any_names columns name)

-- a name that is no earlier one's stays apart from them
pub are_apart-push : (names : List (List ℕ)) (name : List ℕ) → are_apart names ≡ true → list_any (λ other. same_text other name) names ≡ false → are_apart (names ++ name ∷ []) ≡ true
unfolding are_apart
are_apart-push [] name apart new = refl
are_apart-push (other ∷ others) name apart new =
    let now = and_parts (not (list_any (same_text other) others)) (are_apart others) apart in
    let fresh = or_parts (same_text other name) (list_any (λ other. same_text other name) others) new in
    let rest = are_apart-push others name now.1 fresh.1 in
    let none : list_any (same_text other) others ≡ false = not-true _ now.0 in
    rw (list_any-append (same_text other) others (name ∷ []), none, fresh.0, rest) refl

-- the names of columns, and one more
pub names_of-push : (columns : List Column) (column : Column) → names_of (columns ++ column ∷ []) ≡ names_of columns ++ column.name ∷ []
names_of-push [] column = refl
names_of-push (c ∷ columns) column = ap (λ (names : List (List ℕ)). c.name ∷ names) (names_of-push columns column)

-- the tests of a column's line, once its words are a column's and there is room for it
next_column_at : (columns : List Column) (line : NumberedWords) (column : ColumnShape) → column_words line.words ≡ Some column → length columns < 64
    → column_on (names_of columns) line ≡ after_room (names_of columns) line.number column
next_column_at columns line column e room =
    let room' : nat_le 64 (length (names_of columns)) ≡ false = lt-leb 64 (length (names_of columns)) (omega (arith, length-map columns (λ (c : Column). c.name))) in
    rw (e, room') refl

pub column_on-twice : (columns : List Column) (line : NumberedWords) (column : ColumnShape) → column_words line.words ≡ Some column → length columns < 64
    → is_name column.name ≡ true → list_any (λ (c : Column). same_text c.name column.name) columns ≡ true → column_on (names_of columns) line ≡ Err (at_line 104 line.number)
column_on-twice columns line column e room named found =
    let found' : list_any (λ other. same_text other column.name) (names_of columns) ≡ true = list_any_names columns column.name ∙ found in
    next_column_at columns line column e room ∙ rw (named, found') refl

pub column_on-range : (columns : List Column) (line : NumberedWords) (column : ColumnShape) → column_words line.words ≡ Some column → length columns < 64
    → is_name column.name ≡ true → list_any (λ (c : Column). same_text c.name column.name) columns ≡ false → is_range column.lo column.hi ≡ false
    → column_on (names_of columns) line ≡ Err (at_line 103 line.number)
column_on-range columns line column e room named new range =
    let new' : list_any (λ other. same_text other column.name) (names_of columns) ≡ false = list_any_names columns column.name ∙ new in
    next_column_at columns line column e room ∙ rw (named, new', range) refl

pub column_on-taken : (columns : List Column) (line : NumberedWords) (column : ColumnShape) → column_words line.words ≡ Some column → length columns < 64
    → is_name column.name ≡ true → list_any (λ (c : Column). same_text c.name column.name) columns ≡ false → is_range column.lo column.hi ≡ true
    → column_on (names_of columns) line ≡ Ok column
column_on-taken columns line column e room named new range =
    let new' : list_any (λ other. same_text other column.name) (names_of columns) ≡ false = list_any_names columns column.name ∙ new in
    next_column_at columns line column e room ∙ rw (named, new', range) refl

pub ap2 : {A B C : Type 0} (f : A → B → C) {x y : A} {u v : B} → x ≡ y → u ≡ v → f x u ≡ f y v
ap2 f {x} {y} {u} {v} e h = ap (λ a. f a u) e ∙ ap (f y) h

pub same_shape : (name other : List ℕ) (lo low hi high : ℤ) (nullable : Bool) → name ≡ other → lo ≡ low → hi ≡ high
    → shape name lo hi nullable ≡ shape other low high nullable
same_shape name other lo low hi high nullable e f g = rw (e, f, g) refl

-- the names of columns, as a schema text sees them
pub shape_names-of : (columns : List Column) → shape_names (map column_shape columns) ≡ names_of columns
shape_names-of [] = refl
shape_names-of (column ∷ columns) = ap (λ (names : List (List ℕ)). column.name ∷ names) (shape_names-of columns)

pub shapes-push : (columns : List Column) (column : Column) → map column_shape (columns ++ column ∷ []) ≡ map column_shape columns ++ column_shape column ∷ []
shapes-push [] column = refl
shapes-push (c ∷ columns) column = ap (λ (shapes : List ColumnShape). column_shape c ∷ shapes) (shapes-push columns column)

-- a schema text that isn't too long says what its lines say
pub schema_of-lines : (text : List ℕ) → length text ≤ 65536 → schema_of text ≡ schema_on (lines_in (whole text)) (end_in (whole text))
unfolding schema_of
schema_of-lines text h = let short : nat_lt 65536 (length text) ≡ false = le-ltb _ _ h in rw short refl

pub schema_of-long : (text : List ℕ) → 65536 < length text → schema_of text ≡ Err (nowhere 106)
unfolding schema_of
schema_of-long text h = let long : nat_lt 65536 (length text) ≡ true = lt-ltb _ _ h in rw long refl

pub schema_on-nothing : (lines : List NumberedWords) (end : ℕ) → lines ≡ [] → schema_on lines end ≡ Err (at_line 101 end)
unfolding schema_on
schema_on-nothing lines end e = rw e refl

-- its first line is the table's
pub schema_on-first : (lines rest : List NumberedWords) (line : NumberedWords) (end : ℕ) (name : Result (List ℕ) Fault) → lines ≡ line ∷ rest → table_on line ≡ name
    → schema_on lines end ≡ (name >>= λ n. columns_on [] rest >>= λ columns. with_columns n end columns)
unfolding schema_on
schema_on-first lines rest line end name e t = rw (e, t) refl

-- the next line is a column's, or has the error
pub columns_on-next : (columns : List Column) (lines rest : List NumberedWords) (line : NumberedWords) (column : Result ColumnShape Fault)
    → lines ≡ line ∷ rest → column_on (names_of columns) line ≡ column
    → columns_on (map column_shape columns) lines ≡ (column >>= λ c. columns_on (map column_shape columns ++ c ∷ []) rest)
unfolding columns_on
columns_on-next columns lines rest line column e t = rw (e, shape_names-of columns, t) refl

pub columns_on-nothing : (columns : List Column) (lines : List NumberedWords) → lines ≡ [] → columns_on (map column_shape columns) lines ≡ Ok (map column_shape columns)
unfolding columns_on
columns_on-nothing columns lines e = rw e refl

-- the columns of a whole text: none at all, or the schema's
pub with_columns-none : (columns : List Column) (name : List ℕ) (end : ℕ) → length columns ≡ 0 → with_columns name end (map column_shape columns) ≡ Err (at_line 105 end)
with_columns-none [] name end e = refl
with_columns-none (c ∷ columns) name end e = absurd (omega arith)

pub with_columns-some : (columns : List Column) (name : List ℕ) (end : ℕ) → length columns ≢ 0
    → with_columns name end (map column_shape columns) ≡ Ok (record { name = name; columns = map column_shape columns })
with_columns-some [] name end e = absurd (e refl)
with_columns-some (c ∷ columns) name end e = refl

-- a text whose first line is the table's says what its other lines say
pub schema_of-first : (text : List ℕ) (lines : Unread) (rest : List NumberedWords) (line : NumberedWords) (name : Result (List ℕ) Fault)
    → length text ≤ 65536 → lines ≡ whole text → lines_in lines ≡ line ∷ rest → table_on line ≡ name
    → schema_of text ≡ (name >>= λ n. columns_on [] rest >>= λ columns. with_columns n (end_in lines) columns)
schema_of-first text lines rest line name short e first table =
    schema_of-lines text short ∙ ap (λ u. schema_on (lines_in u) (end_in u)) (sym e) ∙ schema_on-first (lines_in lines) rest line (end_in lines) name first table

-- a column's bounds are in order and less than 2^63 apart, by its type
pub ordered : (l h : ℤ) → l ≤ℤ h → int_le l h ≡ true
ordered l h o = search rules

pub narrow : (n m : ℤ) → n <ℤ m → int_lt n m ≡ true
narrow n m l = search rules

pub in_range : (column : Column) → is_range column.lo column.hi ≡ true
unfolding is_range
in_range column = rw (ordered column.lo column.hi column.ordered, narrow (column.hi -ℤ column.lo) (pos (2 ^ 63)) column.narrow) refl
