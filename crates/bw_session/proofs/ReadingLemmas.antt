-- One more byte of a statement.
use Rattle.std.proofs.Common.{◌≡◌, refl, sym, ap, ◌∙◌, subst, ℕ, ◌+◌, ◌≤◌, ◌<◌, Bool, true, false}
use Rattle.std.proofs.Common.{List, [], ◌∷◌, ◌++◌, Option, None, Some, length}
use Rattle.std.proofs.Common.{take, arith, append-nil, length-append, length-take, take_all}
use Rattle.std.proofs.lemmas.List.{take-append-le}
use Rattle.std.proofs.lemmas.Bool.{both_ways, ltb-true, ltb-false}
use Rattle.std.proofs.KnownBytes.{Consumes-nil, Consumes-trans}
use Rattle.std.specs.Io.KnownBytes.{Keeps, Consumes, IsAtEnd}
use Rattle.std.specs.Prelude.{ltb, if◌then◌else◌}
use Rattle.bw_model.specs.declared.fault.Fault.{Fault}
use Rattle.bw_io.specs.Source.{is_read_fault}
use Rattle.bw_session.specs.declared.statement_state.StatementState.{StatementState}
use Rattle.bw_session.specs.declared.statement_state.StatementState.TheVariants.{Blank}
use Rattle.bw_session.specs.StatementState.{after, is_ended, statement_state_after}
use Rattle.bw_session.specs.Statements.{IsOpen}
use Rattle.bw_session.proofs.CutLemmas.{ended_by, opened, statement_state_after-snoc}
use Rattle.bw_session.specs.Reading.{Reads, HasReadBeginning, HasReadStatement, most_stored}
use Rattle.bw_session.specs.Reading.{with_byte}

-- the stored bytes, if one more is read
kept_or_all : (most : ℕ) (bytes : List ℕ) (byte : ℕ) (fits : Bool) → ltb (length (take most bytes)) most ≡ fits
    → (if fits then take most bytes ++ byte ∷ [] else take most bytes) ≡ take most (bytes ++ byte ∷ [])
kept_or_all most bytes byte true fits =
    let short : length (take most bytes) < most = ltb-true _ _ fits in
    let fewer : length bytes < most = omega (arith, simp length-take at short) in
    let size : length (bytes ++ byte ∷ []) ≡ length bytes + 1 = length-append bytes (byte ∷ []) in
    let all : take most bytes ≡ bytes = take_all most bytes (omega arith) in
    ap (λ kept. kept ++ byte ∷ []) all ∙ sym (take_all most (bytes ++ byte ∷ []) (omega arith))
kept_or_all most bytes byte false full =
    let long : most ≤ length (take most bytes) = ltb-false _ _ full in
    let many : most ≤ length bytes = omega (arith, simp length-take at long) in
    sym (take-append-le most bytes (byte ∷ []) many)

pub kept_more : (bytes : List ℕ) (byte : ℕ) → with_byte (take most_stored bytes) byte ≡ take most_stored (bytes ++ byte ∷ [])
kept_more bytes byte = kept_or_all most_stored bytes byte _ refl

-- nothing came yet
pub begun : (known : Option (List ℕ)) (statement : List ℕ) → statement ≡ [] → Reads known known statement Blank
unfolding statement_state_after
begun known statement none = record {
  bytes = [];
  consumes = Consumes-nil known;
  kept = none;
  stands = refl;
  opened = refl;
}

is_open : {old before : Option (List ℕ)} {statement : List ℕ} {standing : StatementState}
    (so_far : Reads old before statement standing) → is_ended (statement_state_after Blank so_far.bytes) ≡ false
is_open so_far = ap is_ended so_far.stands ∙ so_far.opened

still_open : {old before : Option (List ℕ)} {statement : List ℕ} {standing : StatementState}
    (so_far : Reads old before statement standing) → IsOpen (so_far.bytes ++ [])
still_open so_far = subst IsOpen (sym (append-nil so_far.bytes)) (opened so_far.bytes (is_open so_far))

module _ {old before now : Option (List ℕ)} {statement : List ℕ} {standing : StatementState}
    (so_far : Reads old before statement standing) where
  -- a byte came, and no statement ended with it
  pub more : (byte : ℕ) → Consumes before now (byte ∷ []) → is_ended (after standing byte) ≡ false
      → Reads old now (with_byte statement byte) (after standing byte)
  more byte came goes_on = record {
    bytes = so_far.bytes ++ byte ∷ [];
    consumes = Consumes-trans old before now so_far.bytes (byte ∷ []) so_far.consumes came;
    kept = ap (λ kept. with_byte kept byte) so_far.kept ∙ kept_more so_far.bytes byte;
    stands = statement_state_after-snoc Blank so_far.bytes byte ∙ ap (λ now. after now byte) so_far.stands;
    opened = goes_on;
  }

  -- a byte came, and the statement ended with it
  pub whole : (byte : ℕ) → Consumes before now (byte ∷ []) → is_ended (after standing byte) ≡ true
      → HasReadStatement old now (with_byte statement byte) true
  whole byte came end = record {
    bytes = so_far.bytes ++ byte ∷ [];
    consumes = Consumes-trans old before now so_far.bytes (byte ∷ []) so_far.consumes came;
    kept = ap (λ kept. with_byte kept byte) so_far.kept ∙ kept_more so_far.bytes byte;
    whole = λ _. record {
      front = so_far.bytes;
      last = byte;
      is = refl;
      before = opened so_far.bytes (is_open so_far);
      ended = ended_by so_far.bytes byte (is_open so_far) (ap (λ now. is_ended (after now byte)) so_far.stands ∙ end);
    };
    last = λ p. absurd (cc p);
    end = λ p. absurd (cc p);
  }

  -- the source ended
  pub ended : Consumes before now [] → IsAtEnd now → HasReadStatement old now statement false
  ended came end = record {
    bytes = so_far.bytes ++ [];
    consumes = Consumes-trans old before now so_far.bytes [] so_far.consumes came;
    kept = so_far.kept ∙ ap (take most_stored) (sym (append-nil so_far.bytes));
    whole = λ p. absurd (cc p);
    last = λ _. still_open so_far;
    end = λ _. end;
  }

  -- no more came
  pub no_more : (fault : Fault) → Consumes before now [] → HasReadBeginning old now fault
  no_more fault came = record {
    bytes = so_far.bytes ++ [];
    consumes = Consumes-trans old before now so_far.bytes [] so_far.consumes came;
    begun = record { front = so_far.bytes; rest = []; is = refl; short = omega arith; opened = opened so_far.bytes (is_open so_far) };
    unended = λ read. still_open so_far;
  }

  -- one byte more came, and no read failed
  pub one_more : (fault : Fault) (byte : ℕ) → Consumes before now (byte ∷ []) → is_read_fault fault ≡ false → HasReadBeginning old now fault
  one_more fault byte came other = record {
    bytes = so_far.bytes ++ byte ∷ [];
    consumes = Consumes-trans old before now so_far.bytes (byte ∷ []) so_far.consumes came;
    begun = record { front = so_far.bytes; rest = byte ∷ []; is = refl; short = omega arith; opened = opened so_far.bytes (is_open so_far) };
    unended = λ read. absurd (both_ways (is_read_fault fault) other read);
  }

-- known bytes that stay as they were are as many as before
pub keeps_as_none : (before now : Option (List ℕ)) → Keeps before now → Consumes before now []
keeps_as_none None now kept = tt
keeps_as_none (Some bytes) None kept = absurd kept
keeps_as_none (Some bytes) (Some others) kept = sym kept
