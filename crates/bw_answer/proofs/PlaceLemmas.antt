-- The places of columns, one more at a time.
use Rattle.std.proofs.Common.{◌≡◌, ◌∙◌, ◌<◌, ◌+◌, ℕ, List, [], ◌∷◌, ◌++◌, All, arith, get_or}
use Rattle.std.proofs.Common.{length, length-append, subst, sym, ap, inl, inr}
use Rattle.std.proofs.lemmas.Bool.{cases_lt}
use Rattle.std.proofs.lemmas.List.{get_or-append-add, get_or_append_left, get_or_default, length-map}
use Rattle.bw_aggregate.specs.Gathered.{Reads}
use Rattle.bw_model.specs.declared.query.Item.{Item}
use Rattle.bw_model.specs.declared.query.Item.TheVariants.{CountAll}
use Rattle.bw_rowwise.specs.Columns.{Grows, IsAt, numbers_of}
use Rattle.bw_rowwise.specs.declared.columns.Columns.{Columns}
use Rattle.bw_rowwise.specs.declared.columns.LaneColumn.{LaneColumn}
use Rattle.bw_rowwise.proofs.PlacedLemmas.{no_fewer}
use Rattle.bw_answer.specs.Places.{AreRead}
use Rattle.bw_answer.specs.Places.{AreAt}

-- what holds of each of two lists holds with one more of each
at_end : {A : Type 0} (xs : List A) (x d : A) (i : ℕ) → i ≡ length xs → get_or (xs ++ x ∷ []) i d ≡ x
at_end xs x d i is = let there : length xs + 0 ≡ i = omega (arith, is) in ap (λ k. get_or (xs ++ x ∷ []) k d) (sym there) ∙ get_or-append-add xs (x ∷ []) 0 d

each_more : {A : Type 0} (R : A → ℕ → Type 0) (xs : List A) (places : List ℕ) (x d : A) (place : ℕ) → length places ≡ length xs
    → ((i : ℕ) → i < length xs → R (get_or xs i d) (get_or places i 0)) → R x place
    → (i : ℕ) → i < length (xs ++ x ∷ []) → R (get_or (xs ++ x ∷ []) i d) (get_or (places ++ place ∷ []) i 0)
each_more R xs places x d place many each here = λ i within. elim (cases_lt i (length xs)) [
  | inl before ↦
      subst (λ p. R (get_or (xs ++ x ∷ []) i d) p) (sym (get_or_append_left places (place ∷ []) 0 i (omega (arith, before, many))))
      (subst (λ y. R y (get_or places i 0)) (sym (get_or_append_left xs (x ∷ []) d i before)) (each i before))
  | inr last ↦
      let end : i ≡ length xs = omega (arith, last, within, length-append xs (x ∷ [])) in
      subst (λ p. R (get_or (xs ++ x ∷ []) i d) p) (sym (at_end places place 0 i (end ∙ sym many))) (subst (λ y. R y place) (sym (at_end xs x d i end)) here)
]

many_more : {A : Type 0} (xs : List A) (places : List ℕ) (x : A) (place : ℕ) → length places ≡ length xs → length (places ++ place ∷ []) ≡ length (xs ++ x ∷ [])
many_more xs places x place many = omega (arith, many, length-append xs (x ∷ []), length-append places (place ∷ []))

-- columns that are added leave the places of the others
is_at_grown : (numbers later : List ℕ) (number place : ℕ) → Grows numbers later → IsAt numbers number place → IsAt later number place
is_at_grown numbers later number place grown at = (
  omega (arith, at.0, no_fewer numbers later grown),
  ap (λ (l : List ℕ). get_or l place 0) grown.1 ∙ get_or_append_left numbers grown.0 0 place at.0 ∙ at.1,
)

reads_grown : (numbers later : List ℕ) (item : Item) (place : ℕ) → Grows numbers later → Reads numbers item place → Reads later item place
reads_grown numbers later item place grown at = λ column is. is_at_grown numbers later column place grown (at column is)

-- one field more
pub field_placed : (numbers later listed places : List ℕ) (number place : ℕ) → Grows numbers later → AreAt numbers listed places → IsAt later number place
    → AreAt later (listed ++ number ∷ []) (places ++ place ∷ [])
field_placed numbers later listed places number place grown so_far here = record {
  many = many_more listed places number place so_far.many;
  each = each_more (λ number place. IsAt later number place) listed places number 0 place so_far.many (λ i within. is_at_grown numbers later _ _ grown (so_far.each i within)) here;
}

-- one total more
pub total_placed : (numbers later : List ℕ) (items : List Item) (places : List ℕ) (item : Item) (place : ℕ) → Grows numbers later → AreRead numbers items places → Reads later item place
    → AreRead later (items ++ item ∷ []) (places ++ place ∷ [])
total_placed numbers later items places item place grown so_far here = record {
  many = many_more items places item place so_far.many;
  each = each_more (λ item place. Reads later item place) items places item CountAll place so_far.many (λ i within. reads_grown numbers later _ _ grown (so_far.each i within)) here;
}

-- the places are those of columns
pub places_within : (columns : Columns) (listed places : List ℕ) → AreAt (numbers_of columns) listed places → All (λ place. place < length columns.columns.items) places
places_within columns listed places so = λ k d within.
    let at = so.each k (omega (arith, within, so.many)) in
    subst (λ place. place < length columns.columns.items) (get_or_default places k 0 d within)
    (omega (arith, at.0, length-map columns.columns.items (λ (column : LaneColumn). column.number)))
