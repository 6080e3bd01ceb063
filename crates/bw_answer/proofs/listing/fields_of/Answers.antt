-- A column names itself, and no other item names one.
use Rattle.std.proofs.Common.{◌∷◌, ◌++◌, ℕ, List, [], subst}
use Rattle.bw_rowwise.specs.Columns.{numbers_of}
use Rattle.bw_answer.specs.Places.{AreAt}
use Rattle.bw_answer.proofs.ColumnLemmas.{column_named, no_column_named}
use Rattle.bw_answer.proofs.PlaceLemmas.{field_placed}
use Rattle.bw_answer.proofs.listing.fields_of.Goals as goal
use Rattle.bw_answer.proofs.listing.fields_of.Goals.{in-Plain+in_ok-place_of+in_ok-push, in_default}

pub loop-item-preserved : goal.loop-item-preserved
loop-item-preserved c =
    let items = c.args.items.now in
    let i = c.loop-item.item-index in
    let fields = c.loop-item.fields.items in
    elim c.match-item.branch [
      | in-Plain+in_ok-place_of+in_ok-push w ↦
          let place = w.in_ok-place_of.field-0 in
          rw (w.columns-is, w.fields-is, w.in_ok-push.ensures.items)
          (subst (λ (listed : List ℕ). AreAt (numbers_of w.place_of.new.self) listed (fields ++ place ∷ [])) (column_named items i w.in-Plain.column c.loop-item-test.true w.in-Plain.is)
          (field_placed _ _ _ _ w.in-Plain.column place w.in_ok-place_of.ensures.grown c.loop-item.invariant w.in_ok-place_of.ensures.place))
      | in_default w ↦
          rw (w.columns-is, w.fields-is)
          (subst (λ (listed : List ℕ). AreAt (numbers_of c.loop-item.columns) listed fields) (no_column_named items i c.loop-item-test.true w.in_default.not-Plain) c.loop-item.invariant)
    ]
