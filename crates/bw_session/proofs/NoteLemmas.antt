-- What a listener was told in two steps.
use Rattle.std.proofs.Common.{◌≡◌, refl, sym, ap, ◌∙◌, subst, ℕ, zero, suc, ◌<◌, List, [], ◌∷◌, ◌++◌}
use Rattle.std.proofs.Common.{Option, Some, None, append-nil, append_assoc, arith}
use Rattle.bw_query.specs.declared.served.StoreServed.{StoreServed}
use Rattle.bw_session.specs.Note.{Hears, Note, answered, served_notes, settled, settled_notes}

pub Hears-nil : (told : Option (List Note)) → Hears told told []
Hears-nil None = tt
Hears-nil (Some notes) = sym (append-nil notes)

pub Hears-trans : (old mid new : Option (List Note)) (first next : List Note) → Hears old mid first → Hears mid new next
    → Hears old new (first ++ next)
Hears-trans None mid new first next before after = tt
Hears-trans (Some told) None new first next before after = absurd before
Hears-trans (Some told) (Some then) None first next before after = absurd after
Hears-trans (Some told) (Some then) (Some now) first next before after =
    after ∙ ap (λ notes. notes ++ next) before ∙ append_assoc told first next

-- what is told of a statement that was served, with settled segments or without
pub hears_settled : (old mid new : Option (List Note)) (how : StoreServed) → 0 < how.settled → Hears old mid (answered how.served ∷ []) → Hears mid new (settled how.settled ∷ []) → Hears old new (served_notes how)
hears_settled old mid new how some before after =
    subst (Hears old new) (ap (λ (notes : List Note). answered how.served ∷ notes) (sym (some_notes how.settled some))) (Hears-trans old mid new (answered how.served ∷ []) (settled how.settled ∷ []) before after)
  where
    some_notes : (count : ℕ) → 0 < count → settled_notes count ≡ settled count ∷ []
    some_notes zero lt = absurd (omega (arith, lt))
    some_notes (suc count) lt = refl

pub hears_served : (old new : Option (List Note)) (how : StoreServed) → how.settled ≡ 0 → Hears old new (answered how.served ∷ []) → Hears old new (served_notes how)
hears_served old new how none hears =
    subst (Hears old new) (ap (λ (count : ℕ). answered how.served ∷ settled_notes count) (sym none)) hears
