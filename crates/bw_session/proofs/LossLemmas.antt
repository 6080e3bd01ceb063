-- A failed read of a statement needs a call of the device that failed.
use Rattle.std.proofs.Common.{◌≡◌, ◌⊎◌, ap, sym, subst, refl, ℕ, ◌<◌, ◌≤◌, Bool, true, false, Option, None, Some, IsTrue, inl, inr, arith}
use Rattle.std.specs.Prelude.{if◌then◌else◌}
use Rattle.bw_model.specs.declared.fault.Fault.{Fault}
use Rattle.bw_model.specs.Fault.{is_memory}
use Rattle.bw_session.specs.Session.{NeedsLoss, TellsLoss, first_of}

module _ (lost : Bool) (start before after : ℕ) (more : before ≤ after) where
  since : (lost ≡ true) ⊎ (start < before) → (lost ≡ true) ⊎ (start < after)
  since (inl was) = inl was
  since (inr less) = inr (omega (arith, less, more))

  -- what one more statement loses
  pub lost_since : (was now : Bool) → start ≤ before → (was ≡ true → (lost ≡ true) ⊎ (start < before)) → (was ≡ false → now ≡ true → before < after) → now ≡ true → (lost ≡ true) ⊎ (start < after)
  lost_since true now le so_far failed is = since (so_far refl)
  lost_since false now le so_far failed is = inr (omega (arith, le, failed refl is))

  tells_one : (now : Bool) (fault : Option Fault) → (now ≡ true → (lost ≡ true) ⊎ (start < after)) → NeedsLoss now fault → TellsLoss lost start after fault
  tells_one now None so_far needs = tt
  tells_one now (Some fault) so_far needs = λ read. so_far (needs read)

  -- of two errors one is chosen
  tells_first : (first other : Option Fault) → TellsLoss lost start before first → TellsLoss lost start after other → TellsLoss lost start after (first_of first other)
  tells_first None other one two = two
  tells_first (Some fault) None one two = λ read. since (one read)
  tells_first (Some fault) (Some other) one two = chosen (is_memory other)
    where
      chosen : (b : Bool) → TellsLoss lost start after (Some (if b then other else fault))
      chosen true = two
      chosen false = λ read. since (one read)

  pub tells_next : (was now : Bool) (first other : Option Fault) → start ≤ before → (was ≡ true → (lost ≡ true) ⊎ (start < before)) → (was ≡ false → now ≡ true → before < after) → NeedsLoss now other
      → TellsLoss lost start before first → TellsLoss lost start after (first_of first other)
  tells_next was now first other le so_far failed needs tells = tells_first first other tells (tells_one now other (lost_since was now le so_far failed) needs)
