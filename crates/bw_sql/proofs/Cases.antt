-- Proofs by cases of a value that is kept in mind.
use Rattle.std.proofs.Common.{◌≡◌, Bool, true, false, Option, Some, None, refl}

pub option_cases : {A P : Type 0} (o : Option A) → (o ≡ None → P) → ((x : A) → o ≡ Some x → P) → P
option_cases None f g = f refl
option_cases (Some x) f g = g x refl

pub bool_cases : {P : Type 0} (b : Bool) → (b ≡ true → P) → (b ≡ false → P) → P
bool_cases true f g = f refl
bool_cases false f g = g refl
