-- Aggregates, each once.
use Rattle.std.proofs.Common.{◌≡◌, ◌≢◌, ◌∙◌, refl, sym, ap, ℕ, ◌+◌, ◌<◌, ◌≤◌, ◌||◌}
use Rattle.std.proofs.Common.{Bool, true, false, not, List, [], ◌∷◌, ◌++◌, map, filter, length}
use Rattle.std.proofs.Common.{get_or, drop, cond, append-nil, None, subst, true≢false}
use Rattle.std.specs.List.{list_all, list_any}
use Rattle.std.proofs.lemmas.Bool.{eqb-true, and_from, or_right}
use Rattle.std.proofs.lemmas.List.{drop_all, drop_more}
use Rattle.std.proofs.lemmas.List.Elements.{filter-append}
use Rattle.std.proofs.lemmas.Map.Views.{any-filter_same}
use Rattle.bw_model.specs.contracts.query.ItemEq.TheImpl.Laws.{laws-law}
use Rattle.bw_model.specs.declared.query.Item.{Item}
use Rattle.bw_model.specs.declared.query.Item.TheVariants.{Plain, CountAll, Count, Sum, Min, Max}
use Rattle.bw_model.specs.Row.{Value}
use Rattle.bw_model.specs.Total.{is_aggregate, item_within, total}
use Rattle.bw_rowwise.specs.Accumulator.{Tally, tally_of}
use Rattle.bw_answer.specs.Aggregates.{aggregates_of, answer_for, each_once, is_same}
use Rattle.bw_answer.specs.Answer.{value_text}
use Rattle.bw_answer.specs.Totals.{is_of}
use Rattle.bw_model.proofs.BitsLemmas.{both}

same_is : (a b : Item) → is_same a b ≡ true → a ≡ b
same_is (Plain a) (Plain b) e = ap Plain (eqb-true a b e)
same_is CountAll CountAll e = refl
same_is (Count a) (Count b) e = ap Count (eqb-true a b e)
same_is (Sum a) (Sum b) e = ap Sum (eqb-true a b e)
same_is (Min a) (Min b) e = ap Min (eqb-true a b e)
same_is (Max a) (Max b) e = ap Max (eqb-true a b e)
same_is _ _ e = absurd (true≢false (sym e))

is_itself : (a b : Item) → a ≡ b → is_same a b ≡ true
is_itself a b e = subst (λ other. is_same a other ≡ true) e (laws-law.refl a)

-- what is the same as an item isn't the same as another one
apart_by : (b : Bool) (x item other : Item) → is_same other x ≡ b → is_same x item ≡ false → is_same other item ≡ true → not (is_same other x) ≡ true
apart_by false x item other e differ same = ap not e
apart_by true x item other e differ same =
    absurd (true≢false (sym (is_itself x item (sym (same_is other x e) ∙ same_is other item same)) ∙ differ))

apart : (x item : Item) → is_same x item ≡ false → (other : Item) → is_same other item ≡ true → not (is_same other x) ≡ true
apart x item differ other same = apart_by (is_same other x) x item other refl differ same

-- items other than one
abbrev others : Item → List Item → List Item
others x items = filter (λ other. not (is_same other x)) items

-- one more item is there already, or comes last
one_more : (x item : Item) (items : List Item) (here found : Bool) → is_same x item ≡ here → list_any (λ other. is_same other item) items ≡ found
    → x ∷ others x (cond found items (items ++ item ∷ [])) ≡ cond (here || list_any (λ other. is_same other item) (others x items)) (x ∷ others x items) ((x ∷ others x items) ++ item ∷ [])
one_more x item items true true e f = refl
one_more x item items true false e f =
    let gone : not (is_same item x) ≡ false = ap not (is_itself item x (sym (same_is x item e))) in
    ap (λ (l : List Item). x ∷ l) (filter-append (λ other. not (is_same other x)) items (item ∷ []) ∙ rw gone (append-nil (others x items)))
one_more x item items false true e f =
    rw (any-filter_same (λ other. is_same other item) (λ other. not (is_same other x)) true (apart x item e) items, f) refl
one_more x item items false false e f =
    let stays : not (is_same item x) ≡ true = apart x item e item (is_itself item item refl) in
    rw (any-filter_same (λ other. is_same other item) (λ other. not (is_same other x)) true (apart x item e) items, f)
    (ap (λ (l : List Item). x ∷ l) (filter-append (λ other. not (is_same other x)) items (item ∷ []) ∙ rw stays refl))

once_more : (items : List Item) (item : Item) → each_once (items ++ item ∷ []) ≡ cond (list_any (λ other. is_same other item) (each_once items)) (each_once items) (each_once items ++ item ∷ [])
unfolding each_once
once_more [] item = refl
once_more (x ∷ items) item =
    ap (λ (l : List Item). x ∷ others x l) (once_more items item)
    ∙ one_more x item (each_once items) (is_same x item) (list_any (λ other. is_same other item) (each_once items)) refl refl

-- the tallies of items are of them
any_tally : (items : List Item) (item : Item) → list_any (λ (tally : Tally). is_same tally.item item) (map (λ item. tally_of item []) items) ≡ list_any (λ other. is_same other item) items
any_tally [] item = refl
any_tally (x ∷ items) item = ap (λ b. is_same x item || b) (any_tally items item)

-- so an aggregate that is there changes nothing, and another one comes last
with_one : (items : List Item) (item : Item) (found : Bool) → is_aggregate item ≡ true → list_any (λ (tally : Tally). is_same tally.item item) (map (λ item. tally_of item []) (aggregates_of items)) ≡ found
    → aggregates_of (items ++ item ∷ []) ≡ cond found (aggregates_of items) (aggregates_of items ++ item ∷ [])
with_one items item found is f =
    ap each_once (filter-append is_aggregate items (item ∷ []) ∙ rw is refl) ∙ once_more (filter is_aggregate items) item
    ∙ ap (λ b. cond b (aggregates_of items) (aggregates_of items ++ item ∷ [])) (sym (any_tally (aggregates_of items) item) ∙ f)

pub is_aggregate-unless_plain : (item : Item) → ((column : ℕ) → item ≢ Plain column) → is_aggregate item ≡ true
is_aggregate-unless_plain (Plain column) other = absurd (other column refl)
is_aggregate-unless_plain _ other = refl

pub known_left_out : (items : List Item) (item : Item) → is_aggregate item ≡ true → list_any (λ (tally : Tally). is_same tally.item item) (map (λ item. tally_of item []) (aggregates_of items)) ≡ true
    → aggregates_of (items ++ item ∷ []) ≡ aggregates_of items
known_left_out items item is f = with_one items item true is f

pub another_last : (items : List Item) (item : Item) → is_aggregate item ≡ true → list_any (λ (tally : Tally). is_same tally.item item) (map (λ item. tally_of item []) (aggregates_of items)) ≡ false
    → aggregates_of (items ++ item ∷ []) ≡ aggregates_of items ++ item ∷ []
another_last items item is f = with_one items item false is f

-- what holds of items holds of some of them, and of each once
all_kept : (p q : Item → Bool) (items : List Item) → list_all p items ≡ true → list_all p (filter q items) ≡ true
all_kept p q [] e = refl
all_kept p q (item ∷ items) e = let parts = both (p item) (list_all p items) e in by item (filter q items) (q item) parts.0 (all_kept p q items parts.1)
  where
    by : (y : Item) (ys : List Item) (b : Bool) → p y ≡ true → list_all p ys ≡ true → list_all p (cond b (y ∷ ys) ys) ≡ true
    by y ys true here rest = and_from _ _ here rest
    by y ys false here rest = rest

all_once : (p : Item → Bool) (items : List Item) → list_all p items ≡ true → list_all p (each_once items) ≡ true
unfolding each_once
all_once p [] e = refl
all_once p (item ∷ items) e =
    let parts = both (p item) (list_all p items) e in
    and_from _ _ parts.0 (all_kept p (λ other. not (is_same other item)) (each_once items) (all_once p items parts.1))

pub all_asked : (p : Item → Bool) (items : List Item) → list_all p items ≡ true → list_all p (aggregates_of items) ≡ true
all_asked p items e = all_once p (filter is_aggregate items) (all_kept p is_aggregate items e)

-- the totals over no rows
is_of-none : (width : ℕ) (items : List Item) → list_all (item_within width) items ≡ true → list_all (is_of width 0) (map (λ item. tally_of item []) items) ≡ true
is_of-none width [] e = refl
is_of-none width (item ∷ items) e =
    let parts = both (item_within width item) (list_all (item_within width) items) e in
    and_from _ _ (and_from _ _ parts.0 refl) (is_of-none width items parts.1)

pub is_of-new : (width : ℕ) (items : List Item) → list_all (item_within width) items ≡ true → list_all (is_of width 0) (map (λ item. tally_of item []) (aggregates_of items)) ≡ true
is_of-new width items e = is_of-none width (aggregates_of items) (all_asked (item_within width) items e)

-- each item is among them
among_by : (b : Bool) (x : Item) (items : List Item) (item : Item) → is_same x item ≡ b → list_any (λ other. is_same other item) (each_once items) ≡ list_any (λ other. is_same other item) items
    → (b || list_any (λ other. is_same other item) (others x (each_once items))) ≡ (b || list_any (λ other. is_same other item) items)
among_by true x items item e rest = refl
among_by false x items item e rest = any-filter_same (λ other. is_same other item) (λ other. not (is_same other x)) true (apart x item e) (each_once items) ∙ rest

among_once : (items : List Item) (item : Item) → list_any (λ other. is_same other item) (each_once items) ≡ list_any (λ other. is_same other item) items
unfolding each_once
among_once [] item = refl
among_once (x ∷ items) item = among_by (is_same x item) x items item refl (among_once items item)

-- the answer for an item that has a tally is its total
found_by : (b : Bool) (rows : List (List Value)) (x item : Item) (items : List Item) → is_same x item ≡ b
    → (list_any (λ other. is_same other item) items ≡ true → answer_for (map (λ item. tally_of item rows) items) item ≡ total item rows)
    → list_any (λ other. is_same other item) (x ∷ items) ≡ true → answer_for (map (λ item. tally_of item rows) (x ∷ items)) item ≡ total item rows
unfolding answer_for
found_by true rows x item items same rest e = rw same (ap (λ (i : Item). total i rows) (same_is x item same))
found_by false rows x item items other rest e = rw other (rest (sym (ap (λ b. b || list_any (λ other. is_same other item) items) other) ∙ e))

answer_found : (rows : List (List Value)) (items : List Item) (item : Item) → list_any (λ other. is_same other item) items ≡ true
    → answer_for (map (λ item. tally_of item rows) items) item ≡ total item rows
answer_found rows [] item e = absurd (true≢false (sym e))
answer_found rows (x ∷ items) item e = found_by (is_same x item) rows x item items refl (answer_found rows items item) e

-- a search over tallies: those so far aren't of the item
pub found_at : (tallies : List Tally) (item : Item) (i : ℕ) (d : Tally) → i < length tallies → answer_for tallies item ≡ answer_for (drop i tallies) item
    → is_same (get_or tallies i d).item item ≡ true → answer_for tallies item ≡ (get_or tallies i d).answer
unfolding answer_for
found_at tallies item i d h so_far same = so_far ∙ ap (λ (l : List Tally). answer_for l item) (drop_more tallies i d h) ∙ rw same refl

pub passed_at : (tallies : List Tally) (item : Item) (i : ℕ) (d : Tally) → i < length tallies → answer_for tallies item ≡ answer_for (drop i tallies) item
    → is_same (get_or tallies i d).item item ≡ false → answer_for tallies item ≡ answer_for (drop (i + 1) tallies) item
unfolding answer_for
passed_at tallies item i d h so_far other = so_far ∙ ap (λ (l : List Tally). answer_for l item) (drop_more tallies i d h) ∙ rw other refl

pub none_left : (tallies : List Tally) (item : Item) (i : ℕ) → length tallies ≤ i → answer_for tallies item ≡ answer_for (drop i tallies) item → answer_for tallies item ≡ None
unfolding answer_for
none_left tallies item i past so_far = so_far ∙ ap (λ (l : List Tally). answer_for l item) (drop_all i tallies past)

-- so the answers for items are their totals
among_more : (x : Item) (items those : List Item) → list_all (λ item. list_any (λ other. is_same other item) items) those ≡ true
    → list_all (λ item. list_any (λ other. is_same other item) (x ∷ items)) those ≡ true
among_more x items [] e = refl
among_more x items (item ∷ those) e =
    let parts = both (list_any (λ other. is_same other item) items) (list_all (λ item. list_any (λ other. is_same other item) items) those) e in
    and_from _ _ (or_right (is_same x item) _ parts.0) (among_more x items those parts.1)

among_all : (items : List Item) → list_all (λ item. list_any (λ other. is_same other item) items) items ≡ true
among_all [] = refl
among_all (x ∷ items) = and_from _ _ (ap (λ b. b || list_any (λ other. is_same other x) items) (is_itself x x refl)) (among_more x items items (among_all items))

found_all : (rows : List (List Value)) (items those : List Item) → list_all (λ item. list_any (λ other. is_same other item) items) those ≡ true
    → map (λ item. value_text (answer_for (map (λ item. tally_of item rows) (each_once items)) item)) those ≡ map (λ item. value_text (total item rows)) those
found_all rows items [] e = refl
found_all rows items (item ∷ those) e =
    let parts = both (list_any (λ other. is_same other item) items) (list_all (λ item. list_any (λ other. is_same other item) items) those) e in
    let here = answer_found rows (each_once items) item (among_once items item ∙ parts.0) in
    λ i. value_text (here i) ∷ found_all rows items those parts.1 i

pub answers_for : (rows : List (List Value)) (items : List Item)
    → map (λ item. value_text (answer_for (map (λ item. tally_of item rows) (each_once items)) item)) items ≡ map (λ item. value_text (total item rows)) items
answers_for rows items = found_all rows items items (among_all items)
