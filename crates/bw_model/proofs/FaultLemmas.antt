-- What a chain of steps says of each step: that it answered Ok, or what holds of its error.
use Rattle.std.proofs.Common.{◌≡◌, refl, subst, Bool, true, false, Result, Ok, Err, IfErr}
use Rattle.bw_model.specs.declared.fault.Fault.{Fault}
use Rattle.bw_model.specs.Fault.{◌>>=◌, refused_if}

-- both steps answered Ok
pub bind_ok : {A B : Type 0} (r : Result A Fault) (f : A → Result B Fault) (y : B) → (r >>= f) ≡ Ok y → (x : A) × (r ≡ Ok x) × (f x ≡ Ok y)
bind_ok (Ok x) f y is = (x, refl, is)
bind_ok (Err fault) f y is = absurd (cc is)

-- a test didn't reject, so the answer is the next step's
pub not_refused : {A : Type 0} (b : Bool) (fault : Fault) (r : Result A Fault) (x : A) → refused_if b fault r ≡ Ok x → (b ≡ false) × (r ≡ Ok x)
not_refused true fault r x is = absurd (cc is)
not_refused false fault r x is = (refl, is)

-- what holds of the errors of both steps holds of the chain's
pub then_so : {A B : Type 0} (P : Fault → Type 0) (r : Result A Fault) (f : A → Result B Fault) → IfErr r P → ((x : A) → IfErr (f x) P) → IfErr (r >>= f) P
then_so P (Ok x) f here each = each x
then_so P (Err fault) f here each = here

-- what holds of a test's error and of those after it
pub refused_so : {A : Type 0} (P : Fault → Type 0) (b : Bool) (fault : Fault) (r : Result A Fault) → P fault → IfErr r P → IfErr (refused_if b fault r) P
refused_so P true fault r here rest = here
refused_so P false fault r here rest = rest

pub fault_so : {A : Type 0} (P : Fault → Type 0) (r : Result A Fault) (fault : Fault) → IfErr r P → r ≡ Err fault → P fault
fault_so {A} P r fault so is = subst (λ (r : Result A Fault). IfErr r P) is so

-- the same first step, and next steps that answer alike
pub then_same : {A B : Type 0} (r : Result A Fault) (f g : A → Result B Fault) → ((x : A) → f x ≡ g x) → (r >>= f) ≡ (r >>= g)
then_same (Ok x) f g alike = alike x
then_same (Err fault) f g alike = refl
