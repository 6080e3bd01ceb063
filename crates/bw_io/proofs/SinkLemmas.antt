-- What a call wrote, if it wrote nothing, or a text.
use Rattle.std.proofs.Common.{◌≡◌, ◌∙◌, ℕ, List, Bool, true, false, Result, Ok, Err, refl}
use Rattle.std.proofs.Common.{sym, ap, subst}
use Rattle.std.proofs.lemmas.Bool.{eqb-true}
use Rattle.bw_model.specs.declared.fault.Fault.{Fault}
use Rattle.bw_io.specs.Sink.{GoesOut, SinkState, WriteOutcome, everything, beginning, nothing}
use Rattle.bw_io.specs.Sink.{is_write_fault}

-- nothing was written
pub wrote_nothing : (T : Type 0) (aside : Fault → Bool) (old : SinkState) (fault : Fault) (given : Result (List ℕ) Fault) → is_write_fault fault ≡ false
    → (aside fault ≡ false → given ≡ Err fault) → WriteOutcome {T = T} aside old old given (Err fault)
wrote_nothing T aside old fault given other is = nothing other is refl refl

-- the text was written, or up to a failed write
pub wrote_text : (T : Type 0) (aside : Fault → Bool) (old new : SinkState) (text : List ℕ) (given : Result (List ℕ) Fault) (result : Result T Fault)
    → given ≡ Ok text → GoesOut old new text result → WriteOutcome aside old new given result
wrote_text T aside old new text given (Ok x) is goes = everything text is goes.0 goes.1
wrote_text T aside old new text given (Err fault) is goes =
    subst (λ (f : Fault). WriteOutcome {T = T} aside old new given (Err f)) (sym goes.0) (beginning text is goes.1 goes.2)

-- errors of other kinds are no failed writes, whatever their places
pub no_write_fault : (allowed : Fault → Bool) (fault : Fault) → allowed fault ≡ true → allowed (record { code = 702; place = fault.place }) ≡ false → is_write_fault fault ≡ false
no_write_fault allowed fault is none = by_code (is_write_fault fault) refl
  where
    by_code : (write : Bool) → is_write_fault fault ≡ write → write ≡ false
    by_code true e = absurd (cc (sym is ∙ ap (λ code. allowed (record { code = code; place = fault.place })) (eqb-true fault.code 702 e) ∙ none))
    by_code false e = refl
