-- The columns of the totals; a listing has none.
use Rattle.std.proofs.Common.{arith, refl}
use Rattle.bw_answer.proofs.selected.Summed.new.Goals.{in-Listing, in-Totals+in_ok-places-in-Totals}
use Rattle.bw_answer.proofs.selected.Summed.new.Goals as goal

pub returns-clause-places : goal.returns-clause-places
returns-clause-places c = rw c.clear.ensures.same (elim c.match-output.branch [
  | in-Listing w ↦ rw (w.in-Listing.is, w.places-is, w.new-places.ensures.items) (record { many = refl; each = λ i less. absurd (omega (arith, less)) })
  | in-Totals+in_ok-places-in-Totals w ↦ rw (w.in-Totals.is, w.places-is, w.columns-is) (rw w.deref.ensures.value at w.in_ok-places-in-Totals.ensures.places)
])
