-- The columns that items name, and a row's fields in them.
use Rattle.std.proofs.Common.{◌≡◌, ◌≢◌, ◌∙◌, ℕ, suc, ◌+◌, ◌<◌, ◌≤◌, Bool, true, false, List}
use Rattle.std.proofs.Common.{[], ◌∷◌, ◌++◌, refl, sym, ap, map, length, take, get_or, subst, arith}
use Rattle.std.proofs.Common.{None, true≢false}
use Rattle.std.specs.List.{filter_map}
use Rattle.std.proofs.lemmas.List.{append-nil, get_or-map, length-map, take_more}
use Rattle.std.proofs.lemmas.List.Elements.{filter_map-append}
use Rattle.bw_model.specs.declared.query.Item.{Item}
use Rattle.bw_model.specs.declared.query.Item.TheVariants.{Plain, CountAll, Count, Sum, Min, Max}
use Rattle.bw_model.specs.Row.{Value, value_in}
use Rattle.bw_model.specs.Selection.{selected_items, positions_from, positions_of}
use Rattle.bw_answer.specs.Answer.{field_of, lists_rows, value_text}
use Rattle.bw_answer.specs.Columns.{column_of, columns_of, fields_of}
use Rattle.bw_answer.specs.LaneFields.{fields_in_lane}
use Rattle.bw_answer.specs.Places.{AreAt}
use Rattle.bw_rowwise.specs.Columns.{HaveRows, HaveSelected, IsAt, numbers_of, row_at, row_in}
use Rattle.bw_rowwise.specs.Columns.{value_at}
use Rattle.bw_rowwise.specs.declared.columns.Columns.{Columns}
use Rattle.bw_rowwise.specs.declared.columns.LaneColumn.{LaneColumn}

-- one more item
columns_more : (items : List Item) (i : ℕ) → i < length items → columns_of (take (i + 1) items) ≡ columns_of (take i items) ++ columns_of (get_or items i (Plain 0) ∷ [])
columns_more items i within = ap columns_of (take_more items i (Plain 0) within) ∙ filter_map-append column_of (take i items) (get_or items i (Plain 0) ∷ [])

-- names a column
pub column_named : (items : List Item) (i column : ℕ) → i < length items → get_or items i (Plain 0) ≡ Plain column → columns_of (take i items) ++ column ∷ [] ≡ columns_of (take (i + 1) items)
column_named items i column within here = rw (columns_more items i within, here) refl

-- or names none
no_column : (item : Item) → ((column : ℕ) → item ≢ Plain column) → columns_of (item ∷ []) ≡ []
no_column (Plain column) other = absurd (other column refl)
no_column _ other = refl

pub no_column_named : (items : List Item) (i : ℕ) → i < length items → ((column : ℕ) → get_or items i (Plain 0) ≢ Plain column) → columns_of (take i items) ≡ columns_of (take (i + 1) items)
no_column_named items i within other =
    sym (columns_more items i within ∙ ap (λ (l : List ℕ). columns_of (take i items) ++ l) (no_column (get_or items i (Plain 0)) other) ∙ append-nil (columns_of (take i items)))

-- a listing has a column
pub some_column : (items : List Item) → lists_rows items ≡ true → 1 ≤ length (columns_of items)
some_column (Plain column ∷ items) e = omega arith
some_column _ e = absurd (cc e)

-- a row's fields in the columns are its fields for the items
pub fields_listed : (items : List Item) (row : List Value) → fields_of (columns_of items) row ≡ filter_map (field_of row) items
fields_listed [] row = refl
fields_listed (Plain column ∷ items) row = ap (λ (l : List (List ℕ)). value_text (value_in row column) ∷ l) (fields_listed items row)
fields_listed (CountAll ∷ items) row = fields_listed items row
fields_listed (Count column ∷ items) row = fields_listed items row
fields_listed (Sum column ∷ items) row = fields_listed items row
fields_listed (Min column ∷ items) row = fields_listed items row
fields_listed (Max column ∷ items) row = fields_listed items row

-- the value in a lane of a column that is unpacked there
value_unpacked : (columns : Columns) (rows : List (List Value)) (bits : List Bool) (number place lane : ℕ) → IsAt (numbers_of columns) number place → HaveSelected rows bits columns
    → lane < length rows → get_or bits lane false ≡ true → value_in (row_in columns lane) place ≡ value_in (row_at rows lane) number
value_unpacked columns rows bits number place lane at have within one =
    let all = columns.columns.items in
    let none : LaneColumn = record { number = 0; lanes = record { none = []; keys = [] } } in
    let there : place < length all = omega (arith, at.0, length-map all (λ (column : LaneColumn). column.number)) in
    let named : (get_or all place none).number ≡ number = sym (get_or-map (λ (column : LaneColumn). column.number) all place none 0 there) ∙ at.1 in
    get_or-map (λ (column : LaneColumn). value_at column.lanes lane) all place none None there ∙ have place none there lane within one ∙ ap (value_in (row_at rows lane)) named

fields_same : (listed places : List ℕ) (here there : List Value) → length places ≡ length listed
    → ((i : ℕ) → i < length listed → value_in here (get_or places i 0) ≡ value_in there (get_or listed i 0)) → fields_of places here ≡ fields_of listed there
fields_same [] [] here there many e = refl
fields_same [] (place ∷ places) here there many e = absurd (omega (arith, many))
fields_same (number ∷ listed) [] here there many e = absurd (omega (arith, many))
fields_same (number ∷ listed) (place ∷ places) here there many e =
    λ i. value_text (e 0 (omega arith) i) ∷ fields_same listed places here there (omega (arith, many)) (λ k h. e (suc k) (omega (arith, h))) i

-- what is made of the positions of bits that are 1, and of the rows there
nothing_selected : (bits : List Bool) → selected_items {A = List Value} bits [] ≡ []
nothing_selected [] = refl
nothing_selected (bit ∷ bits) = refl

at_positions : {X : Type 0} (f : ℕ → X) (g : List Value → X) (n : ℕ) (bits : List Bool) (rows : List (List Value))
    → ((k : ℕ) → k < length rows → get_or bits k false ≡ true → f (n + k) ≡ g (get_or rows k [])) → ((k : ℕ) → length rows ≤ k → get_or bits k false ≡ false)
    → map f (positions_from n bits) ≡ map g (selected_items bits rows)
at_positions f g n [] rows here none = refl
at_positions f g n (true ∷ bits) [] here none = absurd (true≢false (none 0 (omega arith)))
at_positions f g n (false ∷ bits) [] here none =
    at_positions f g (suc n) bits [] (λ k h _. absurd (omega arith)) (λ k h. none (suc k) (omega arith)) ∙ ap (map g) (nothing_selected bits)
at_positions f g n (true ∷ bits) (row ∷ rows) here none =
    let first : n + 0 ≡ n = omega arith in
    let one : f n ≡ g row = subst (λ m. f m ≡ g row) first (here 0 (omega arith) refl) in
    λ i. one i ∷ at_positions f g (suc n) bits rows
    (λ k h bit. let next : n + suc k ≡ suc n + k = omega arith in subst (λ m. f m ≡ g (get_or rows k [])) next (here (suc k) (omega arith) bit)) (λ k h. none (suc k) (omega arith)) i
at_positions f g n (false ∷ bits) (row ∷ rows) here none =
    at_positions f g (suc n) bits rows
    (λ k h bit. let next : n + suc k ≡ suc n + k = omega arith in subst (λ m. f m ≡ g (get_or rows k [])) next (here (suc k) (omega arith) bit)) (λ k h. none (suc k) (omega arith))

pub records_same : (listed places : List ℕ) (lanes : Columns) (bits : List Bool) (rows : List (List Value))
    → AreAt (numbers_of lanes) listed places → HaveSelected rows bits lanes → ((k : ℕ) → length rows ≤ k → get_or bits k false ≡ false)
    → map (fields_in_lane lanes places) (positions_of bits) ≡ map (fields_of listed) (selected_items bits rows)
records_same listed places lanes bits rows at have none =
    at_positions (fields_in_lane lanes places) (fields_of listed) 0 bits rows (λ k h bit. let same : 0 + k ≡ k = omega arith in
    subst (λ m. fields_in_lane lanes places m ≡ fields_of listed (get_or rows k [])) (sym same)
    (fields_same listed places (row_in lanes k) (get_or rows k []) at.many (λ i within. value_unpacked lanes rows bits _ _ k (at.each i within) have h bit))) none

-- what is gathered is unpacked for each selection
pub all_selected : (rows : List (List Value)) (bits : List Bool) (columns : Columns) → length rows ≤ 512 → HaveRows rows columns → HaveSelected rows bits columns
all_selected rows bits columns few have = λ k d below lane within one. have k d below lane (omega (arith, within, few))

pub map_listed : (items : List Item) (rows : List (List Value)) → map (fields_of (columns_of items)) rows ≡ map (λ row. filter_map (field_of row) items) rows
map_listed items [] = refl
map_listed items (row ∷ rows) = λ i. fields_listed items row i ∷ map_listed items rows i
