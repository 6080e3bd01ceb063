-- The fields are at places of columns.
use Rattle.std.proofs.Common.{List, ℕ, subst, sym}
use Rattle.bw_answer.specs.Columns.{columns_of}
use Rattle.bw_answer.specs.Places.{AreAt}
use Rattle.bw_answer.proofs.PlaceLemmas.{places_within}
use Rattle.bw_answer.proofs.listing.Listing.new.Goals as goal

pub invariant_of-result-clause-within : goal.invariant_of-result-clause-within
invariant_of-result-clause-within c =
    let listed = columns_of c.args.items.now in
    let fields = c.in_ok-fields.fields.items in
    places_within c.clear.new.self listed fields (subst (λ (numbers : List ℕ). AreAt numbers listed fields) (sym c.clear.ensures.same) c.in_ok-fields.ensures.places)

pub returns-clause-names : goal.returns-clause-names
returns-clause-names c =
    let listed = columns_of c.args.items.now in
    let fields = c.in_ok-fields.fields.items in
    subst (λ (numbers : List ℕ). AreAt numbers listed fields) (sym c.clear.ensures.same) c.in_ok-fields.ensures.places
