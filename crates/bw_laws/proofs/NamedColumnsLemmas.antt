-- A query's meaning over rows that keep their values in the columns that it names.
use Rattle.std.proofs.Common.{◌≡◌, ◌∙◌, refl, sym, ap, ap₂, subst, ℕ, Bool, true, false, cond, ◌||◌}
use Rattle.std.proofs.Common.{List, [], ◌∷◌, map, length, Some, ℤ, pos, ◌+ℤ◌}
use Rattle.std.specs.Int.{int_max, int_min}
use Rattle.std.specs.List.{filter_map, list_any, reduce}
use Rattle.std.proofs.Math.Bool.{or-true}
use Rattle.std.proofs.lemmas.Bool.{eq-eqb}
use Rattle.std.proofs.lemmas.List.{length-map}
use Rattle.bw_model.specs.declared.cond.Truth.{Truth}
use Rattle.bw_model.specs.declared.cond.Truth.TheVariants.{Yes}
use Rattle.bw_model.specs.declared.cond.Operand.{Operand}
use Rattle.bw_model.specs.declared.cond.Operand.TheVariants.{Col, Lit, Null}
use Rattle.bw_model.specs.declared.cond.Cond.{Cond, Cond-F, fold-roll-Cond, roll-Cond, ind-Cond}
use Rattle.bw_model.specs.declared.cond.Cond.TheFolds.{map-Cond}
use Rattle.bw_model.specs.declared.query.Item.{Item}
use Rattle.bw_model.specs.declared.query.Item.TheVariants.{Plain, CountAll, Count, Sum, Min, Max}
use Rattle.bw_model.specs.declared.query.Query.{Query}
use Rattle.bw_model.specs.Cond.{is_match, operand_value, truth_of, truth_step}
use Rattle.bw_model.specs.Row.{Value, value_in}
use Rattle.bw_model.specs.Selection.{matching_rows}
use Rattle.bw_model.specs.Total.{present, total}
use Rattle.bw_model.specs.Truth.{all_of, any_of, between, compare_values, in_list, is_null, is_truth}
use Rattle.bw_model.specs.Truth.{negation, truth_from}
use Rattle.bw_answer.specs.Answer.{field_of, heading_of, lists_rows, meaning}
use Rattle.bw_answer.specs.Answer.{value_text}
use Rattle.bw_query.specs.NamedColumns.{cond_names, item_names, names_step, operand_names, query_names}

-- the first or the second is true, if one is
pub or_first : (a b : Bool) → a ≡ true → (a || b) ≡ true
or_first a b is = ap (λ x. x || b) is

or_second : (a b : Bool) → b ≡ true → (a || b) ≡ true
or_second a b is = ap (λ x. a || x) is ∙ or-true a

module _ (change : List Value → List Value) where
  -- the values in these columns are kept
  abbrev Keeps : (ℕ → Bool) → Type 0
  Keeps named = (column : ℕ) → named column ≡ true → (row : List Value) → value_in (change row) column ≡ value_in row column

  first_of : (a b : ℕ → Bool) → Keeps (λ c. a c || b c) → Keeps a
  first_of a b keeps = λ column is. keeps column (or_first (a column) (b column) is)

  second_of : (a b : ℕ → Bool) → Keeps (λ c. a c || b c) → Keeps b
  second_of a b keeps = λ column is. keeps column (or_second (a column) (b column) is)

  -- the truth of a condition on a row
  module _ (row : List Value) where
    operand_same : (x : Operand) → Keeps (λ c. operand_names c x) → operand_value (change row) x ≡ operand_value row x
    operand_same (Col column) keeps = keeps column (eq-eqb column column refl) row
    operand_same (Lit n) keeps = refl
    operand_same Null keeps = refl

    items_same : (items : List Operand) → Keeps (λ c. list_any (operand_names c) items) → map (operand_value (change row)) items ≡ map (operand_value row) items
    items_same [] keeps = refl
    items_same (x ∷ items) keeps =
        ap₂ ◌∷◌ (operand_same x (first_of (λ c. operand_names c x) (λ c. list_any (operand_names c) items) keeps)) (items_same items (second_of (λ c. operand_names c x) (λ c. list_any (operand_names c) items) keeps))

    -- a condition whose truth is the same, if what it names is kept
    abbrev Known : Type 0
    Known = (cond : Cond) × (Keeps (λ c. cond_names c cond) → truth_of (change row) cond ≡ truth_of row cond)

    abbrev bare : Cond-F Known → Cond-F Cond
    bare layer = map-Cond Known Cond (λ e. e.0) layer

    parts_same : (parts : List Known) → Keeps (λ c. list_any (λ part. part) (map (cond_names c) (map (λ e. e.0) parts))) → map (truth_of (change row)) (map (λ e. e.0) parts) ≡ map (truth_of row) (map (λ e. e.0) parts)
    parts_same [] keeps = refl
    parts_same (e ∷ parts) keeps =
        ap₂ ◌∷◌ (e.1 (first_of (λ c. cond_names c e.0) (λ c. list_any (λ part. part) (map (cond_names c) (map (λ e. e.0) parts))) keeps))
        (parts_same parts (second_of (λ c. cond_names c e.0) (λ c. list_any (λ part. part) (map (cond_names c) (map (λ e. e.0) parts))) keeps))

    layer_same : (layer : Cond-F Known) → Keeps (λ c. names_step c (map-Cond Cond Bool (cond_names c) (bare layer)))
        → truth_step (change row) (map-Cond Cond Truth (truth_of (change row)) (bare layer)) ≡ truth_step row (map-Cond Cond Truth (truth_of row) (bare layer))
    layer_same Cond-F.Always keeps = refl
    layer_same (Cond-F.Cmp op x y) keeps =
        ap₂ (compare_values op) (operand_same x (first_of (λ c. operand_names c x) (λ c. operand_names c y) keeps)) (operand_same y (second_of (λ c. operand_names c x) (λ c. operand_names c y) keeps))
    layer_same (Cond-F.Between x y z) keeps =
        let both = first_of (λ c. operand_names c x || operand_names c y) (λ c. operand_names c z) keeps in
        let last = operand_same z (second_of (λ c. operand_names c x || operand_names c y) (λ c. operand_names c z) keeps) in
        ap₂ (λ a b. between a b (operand_value (change row) z)) (operand_same x (first_of (λ c. operand_names c x) (λ c. operand_names c y) both)) (operand_same y (second_of (λ c. operand_names c x) (λ c. operand_names c y) both))
        ∙ ap (between (operand_value row x) (operand_value row y)) last
    layer_same (Cond-F.Among x items) keeps =
        ap₂ in_list (operand_same x (first_of (λ c. operand_names c x) (λ c. list_any (operand_names c) items.items) keeps)) (items_same items.items (second_of (λ c. operand_names c x) (λ c. list_any (operand_names c) items.items) keeps))
    layer_same (Cond-F.IsNull x) keeps = ap (λ value. truth_from (is_null value)) (operand_same x keeps)
    layer_same (Cond-F.And parts) keeps = ap all_of (parts_same parts.items keeps)
    layer_same (Cond-F.Or parts) keeps = ap any_of (parts_same parts.items keeps)
    layer_same (Cond-F.Not part) keeps = ap negation (part.value.1 keeps)
    layer_same (Cond-F.Test part t) keeps = ap (λ truth. truth_from (is_truth truth t)) (part.value.1 keeps)

    abbrev Same : Cond → Type 0
    Same cond = Keeps (λ c. cond_names c cond) → truth_of (change row) cond ≡ truth_of row cond

    truth_same : (cond : Cond) → Keeps (λ c. cond_names c cond) → truth_of (change row) cond ≡ truth_of row cond
    unfolding truth_of cond_names
    truth_same = ind-Cond Same (λ x y is. subst (λ z. Same (roll-Cond z)) is (rolled y))
      where
        rolled : (y : Cond-F Known) → Same (roll-Cond (bare y))
        rolled y keeps =
            fold-roll-Cond Truth (truth_step (change row)) (bare y)
            ∙ layer_same y (λ column is. keeps column (fold-roll-Cond Bool (names_step column) (bare y) ∙ is))
            ∙ sym (fold-roll-Cond Truth (truth_step row) (bare y))

  -- the rows that a condition selects
  module _ (cond_of : Cond) (keeps : Keeps (λ c. cond_names c cond_of)) where
    matches_same : (row : List Value) → is_match cond_of (change row) ≡ is_match cond_of row
    matches_same row = ap (λ truth. is_truth truth Yes) (truth_same row cond_of keeps)

    matching_same : (rows : List (List Value)) → matching_rows cond_of (map change rows) ≡ map change (matching_rows cond_of rows)
    matching_same [] = refl
    matching_same (row ∷ rows) =
        ap₂ (λ (b : Bool) (l : List (List Value)). cond b (change row ∷ l) l) (matches_same row) (matching_same rows) ∙ chosen (is_match cond_of row)
      where
        chosen : (b : Bool) → cond b (change row ∷ map change (matching_rows cond_of rows)) (map change (matching_rows cond_of rows)) ≡ map change (cond b (row ∷ matching_rows cond_of rows) (matching_rows cond_of rows))
        chosen true = refl
        chosen false = refl

  -- the fields of a row, and the totals of rows
  field_same : (row : List Value) (item : Item) → Keeps (λ c. item_names c item) → field_of (change row) item ≡ field_of row item
  field_same row (Plain column) keeps = ap (λ value. Some (value_text value)) (keeps column (eq-eqb column column refl) row)
  field_same row CountAll keeps = refl
  field_same row (Count column) keeps = refl
  field_same row (Sum column) keeps = refl
  field_same row (Min column) keeps = refl
  field_same row (Max column) keeps = refl

  fields_same : (row : List Value) (items : List Item) → Keeps (λ c. list_any (item_names c) items) → filter_map (field_of (change row)) items ≡ filter_map (field_of row) items
  fields_same row [] keeps = refl
  fields_same row (item ∷ items) keeps =
      rw (field_same row item (first_of (λ c. item_names c item) (λ c. list_any (item_names c) items) keeps), fields_same row items (second_of (λ c. item_names c item) (λ c. list_any (item_names c) items) keeps)) refl

  records_same : (items : List Item) → Keeps (λ c. list_any (item_names c) items) → (rows : List (List Value)) → map (λ row. filter_map (field_of row) items) (map change rows) ≡ map (λ row. filter_map (field_of row) items) rows
  records_same items keeps [] = refl
  records_same items keeps (row ∷ rows) = ap₂ ◌∷◌ (fields_same row items keeps) (records_same items keeps rows)

  present_same : (column : ℕ) → ((row : List Value) → value_in (change row) column ≡ value_in row column) → (rows : List (List Value)) → present column (map change rows) ≡ present column rows
  present_same column keeps [] = refl
  present_same column keeps (row ∷ rows) = rw (keeps row, present_same column keeps rows) refl

  total_same : (item : Item) → Keeps (λ c. item_names c item) → (rows : List (List Value)) → total item (map change rows) ≡ total item rows
  total_same (Plain column) keeps rows = refl
  total_same CountAll keeps rows = ap (λ n. Some (pos n)) (length-map rows change)
  total_same (Count column) keeps rows = ap (λ (l : List ℤ). Some (pos (length l))) (present_same column (keeps column (eq-eqb column column refl)) rows)
  total_same (Sum column) keeps rows = ap (reduce (λ a b. a +ℤ b)) (present_same column (keeps column (eq-eqb column column refl)) rows)
  total_same (Min column) keeps rows = ap (reduce int_min) (present_same column (keeps column (eq-eqb column column refl)) rows)
  total_same (Max column) keeps rows = ap (reduce int_max) (present_same column (keeps column (eq-eqb column column refl)) rows)

  totals_same : (items : List Item) → Keeps (λ c. list_any (item_names c) items) → (rows : List (List Value)) → map (λ item. value_text (total item (map change rows))) items ≡ map (λ item. value_text (total item rows)) items
  totals_same [] keeps rows = refl
  totals_same (item ∷ items) keeps rows =
      ap₂ ◌∷◌ (ap value_text (total_same item (first_of (λ c. item_names c item) (λ c. list_any (item_names c) items) keeps) rows)) (totals_same items (second_of (λ c. item_names c item) (λ c. list_any (item_names c) items) keeps) rows)

pub meaning_same : (names : List (List ℕ)) (query : Query) (change : List Value → List Value) (rows : List (List Value)) → Keeps change (λ c. query_names c query)
    → meaning names query (map change rows) ≡ meaning names query rows
unfolding meaning
meaning_same names query change rows keeps =
    let items = query.items.items in
    let listed = first_of change (λ c. list_any (item_names c) items) (λ c. cond_names c query.cond) keeps in
    let asked = second_of change (λ c. list_any (item_names c) items) (λ c. cond_names c query.cond) keeps in
    let selected = matching_same change query.cond asked rows in
    ap (λ (records : List (List (List ℕ))). map (heading_of names) items ∷ records)
    (ap₂ (λ (a : List (List (List ℕ))) (b : List (List ℕ)). cond (lists_rows items) a (b ∷ []))
    (ap (map (λ row. filter_map (field_of row) items)) selected ∙ records_same change items listed (matching_rows query.cond rows))
    (ap (λ (l : List (List Value)). map (λ item. value_text (total item l)) items) selected ∙ totals_same change items listed (matching_rows query.cond rows)))
