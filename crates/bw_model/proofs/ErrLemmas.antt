-- The exit of a `?`, and the one error of memory that is refused.
use Rattle.std.proofs.Common.{◌≡◌, ◌∙◌, ◌==◌, ap, eqb-true, ℕ, false, true, Result, Err}
use Rattle.std.specs.Prelude.{IsErrAnd}
use Rattle.std.proofs.lemmas.Result.{err_from_is_err_and}
use Rattle.bw_model.specs.declared.fault.Fault.{Fault}
use Rattle.bw_model.specs.declared.fault.Place.{Place}
use Rattle.bw_model.specs.declared.fault.Place.TheVariants.{Nowhere}
use Rattle.bw_model.specs.Fault.{is_memory, no_memory, nowhere}
use Rattle.bw_model.proofs.BitsLemmas.{both}

-- it returns the error that it met
pub err_passed_on : {T E : Type 0} {fault : E} (r : Result T E) → IsErrAnd r (λ y. y ≡ fault) → r ≡ Err fault
err_passed_on r h = let p = err_from_is_err_and r h in p.1 ∙ ap Err p.2

-- out of memory is one error
memory_at : (code : ℕ) (place : Place) → is_memory (record { code = code; place = place }) ≡ true → ◌≡◌ {A = Fault} (record { code = code; place = place }) no_memory
memory_at code Nowhere is = ap nowhere (eqb-true code 801 (both _ _ is).0)
memory_at code _ is = absurd (cc ((both (code == 801) false is).1))

pub memory_is : (fault : Fault) → is_memory fault ≡ true → fault ≡ no_memory
memory_is fault is = memory_at fault.code fault.place is
