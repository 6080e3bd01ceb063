-- Each turn adds a row's field.
use Rattle.std.proofs.Common.{◌≡◌, ◌<◌, length, arith, List, ℕ}
use Rattle.bw_encode.specs.FieldSet.{fields_in}
use Rattle.bw_encode.proofs.SetLemmas.{has_more, has_none}
use Rattle.bw_encode.proofs.dictionary.insert_fields.Goals as goal

pub loop-row-init : goal.loop-row-init
loop-row-init c = rw (c.in_ok-places.ensures.items, c.requires.empty) (has_none c.args.column.now)

pub loop-row-preserved : goal.loop-row-preserved
loop-row-preserved c =
    let fields : List (List ℕ) = c.args.column.now in
    let lt : c.loop-row.row < length fields = omega arith in
    let set : fields_in c.insert.new.self ≡ _ = rw c.get.ensures at c.in_ok-place.ensures.fields in
    rw (c.in_ok-push.ensures.items, set) (has_more fields (fields_in c.loop-row.set) c.loop-row.places.items c.loop-row.row c.in_ok-place.place lt
    (rw set at c.in_ok-place.ensures.distinct) (rw (set, c.get.ensures) at c.in_ok-place.ensures.place) c.loop-row.invariant)
