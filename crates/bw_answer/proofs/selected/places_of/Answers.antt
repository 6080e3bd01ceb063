-- One total more.
use Rattle.std.proofs.Common.{◌≡◌, ◌∙◌, ◌∷◌, ◌++◌, [], ◌+◌, List, ap, arith, get_or, map, subst, sym, take}
use Rattle.std.proofs.lemmas.List.{map-append, take_all, take_more}
use Rattle.bw_model.specs.declared.query.Item.{Item}
use Rattle.bw_rowwise.specs.Accumulator.{Tally}
use Rattle.bw_rowwise.specs.Columns.{numbers_of}
use Rattle.bw_answer.specs.Places.{AreRead}
use Rattle.bw_answer.proofs.PlaceLemmas.{total_placed}
use Rattle.bw_answer.proofs.selected.places_of.Goals as goal

pub loop-total-preserved : goal.loop-total-preserved
loop-total-preserved c =
    let totals = c.args.totals.now in
    let i = c.loop-total.total-index in
    let places = c.loop-total.places.items in
    let total = c.total-item.result in
    let item = λ (tally : Tally). tally.item in
    let more : map item (take i totals) ++ c.item.result ∷ [] ≡ map item (take (i + 1) totals) =
    sym (ap (map item) (take_more totals i total c.loop-total-test.true) ∙ map-append item (take i totals) (get_or totals i total ∷ [])
    ∙ ap (λ (tally : Tally). map item (take i totals) ++ tally.item ∷ []) (sym c.total-item.is) ∙ ap (λ (x : Item). map item (take i totals) ++ x ∷ []) (sym c.item.ensures)) in
    rw c.in_ok-push.ensures.items
    (subst (λ (items : List Item). AreRead (numbers_of c.place_of.new.columns) items (places ++ c.in_ok-place_of.field-0 ∷ [])) more
    (total_placed _ _ _ _ c.item.result c.in_ok-place_of.field-0 c.in_ok-place_of.ensures.grown c.loop-total.invariant c.in_ok-place_of.ensures.place))

pub returns-clause-places : goal.returns-clause-places
returns-clause-places c =
    let totals = c.args.totals.now in
    let all : take c.loop-total.total-index totals ≡ totals = take_all c.loop-total.total-index totals (omega arith) in
    subst (λ (those : List Tally). AreRead (numbers_of c.loop-total.columns) (map (λ (tally : Tally). tally.item) those) c.loop-total.places.items) all c.loop-total.invariant
