-- What is kept of a statement that is too long is answered as the whole of it is.
use Rattle.std.proofs.Common.{◌≡◌, refl, sym, subst, ℕ, ◌<◌, Bool, true, false, List, [], ◌∷◌}
use Rattle.std.proofs.Common.{Option, Some, length, take, arith, length-take, take_all, inl, inr}
use Rattle.std.proofs.lemmas.Bool.{leb-true, leb-false}
use Rattle.std.specs.Prelude.{leb}
use Rattle.bw_model.specs.declared.fault.Fault.{Fault}
use Rattle.bw_model.specs.declared.schema.Schema.{Schema}
use Rattle.bw_sql.specs.Limits.{longest_statement}
use Rattle.bw_sql.specs.Statement.{IsFault, refused, too_long}
use Rattle.bw_session.specs.Reading.{most_stored}
use Rattle.bw_session.specs.Note.{Note, rejected}
use Rattle.bw_session.specs.Session.{AsksNothing, IsOutput, IsTold, SessionTable, answer, nothing}
use Rattle.bw_session.specs.Session.{refusal, told_answer, told_nothing, told_refusal}

-- a statement that is too long asks for something
long_asks : (sql : List ℕ) → longest_statement < length sql → AsksNothing sql → ⊥
long_asks sql long asks = omega (arith, asks.0)

-- and its error is that of its length
long_fault : (schema : Schema) (kept sql : List ℕ) (fault : Fault) → longest_statement < length kept
    → longest_statement < length sql → IsFault schema kept fault → IsFault schema sql fault
long_fault schema kept sql _ _ long (too_long _) = too_long long
long_fault schema kept sql _ kept_long long (refused short _) = absurd (omega (arith, short, kept_long))

-- what is stored of a statement's stored bytes is all of them
stored_once : (sql : List ℕ) → take most_stored (take most_stored sql) ≡ take most_stored sql
stored_once sql = take_all most_stored (take most_stored sql) (simp length-take (omega arith))

long_output : (table : SessionTable) (kept sql : List ℕ) (fault : Option Fault) (out : List ℕ)
    → longest_statement < length kept → longest_statement < length sql
    → IsOutput table kept fault out → IsOutput table sql fault out
long_output table kept sql _ _ kept_long long (nothing asks) = absurd (long_asks kept kept_long asks)
long_output table kept sql _ _ kept_long long (answer query rows spelled have) =
    absurd (omega (arith, spelled.short, kept_long))
long_output table kept sql _ _ kept_long long (refusal {fault} asks spelled) =
    refusal (long_asks sql long) (λ other. elim (spelled other) [
      | inl own ↦ inl (long_fault table.schema kept sql fault kept_long long own)
      | inr damaged ↦ absurd (omega (arith, damaged.asked.short, kept_long))
    ])

long_told : (table : SessionTable) (sql : List ℕ) (fault : Option Fault) (notes : List Note)
    → longest_statement < length (take most_stored sql) → IsTold table (take most_stored sql) fault notes → IsTold table sql fault notes
long_told table sql _ _ kept_long (told_nothing asks) = absurd (long_asks (take most_stored sql) kept_long asks)
long_told table sql _ _ kept_long (told_answer query rows how spelled have serves) =
    absurd (omega (arith, spelled.short, kept_long))
long_told table sql _ _ kept_long (told_refusal fault) =
    subst (λ kept. IsTold table sql (Some fault) (rejected kept fault ∷ [])) (sym (stored_once sql)) (told_refusal fault)

-- a statement is stored whole, or its stored bytes are too many
module _ (sql : List ℕ) (P : List ℕ → Type 0)
    (long : longest_statement < length (take most_stored sql) → longest_statement < length sql → P (take most_stored sql) → P sql) where
  from_stored : P (take most_stored sql) → P sql
  from_stored holds = by_size (leb (length sql) most_stored) refl
    where
      by_size : (fits : Bool) → leb (length sql) most_stored ≡ fits → P sql
      by_size true fits = subst P (take_all most_stored sql (leb-true _ _ fits)) holds
      by_size false fits =
          let more : most_stored < length sql = leb-false _ _ fits in
          let size : length (take most_stored sql) ≡ most_stored = simp length-take (omega (arith, more)) in
          long (omega (arith, size)) (omega (arith, more)) holds

pub kept_output : (table : SessionTable) (sql : List ℕ) (fault : Option Fault) (out : List ℕ)
    → IsOutput table (take most_stored sql) fault out → IsOutput table sql fault out
kept_output table sql fault out =
    from_stored sql (λ kept. IsOutput table kept fault out) (long_output table (take most_stored sql) sql fault out)

pub kept_told : (table : SessionTable) (sql : List ℕ) (fault : Option Fault) (notes : List Note)
    → IsTold table (take most_stored sql) fault notes → IsTold table sql fault notes
kept_told table sql fault notes =
    from_stored sql (λ kept. IsTold table kept fault notes) (λ kept_long long. long_told table sql fault notes kept_long)
