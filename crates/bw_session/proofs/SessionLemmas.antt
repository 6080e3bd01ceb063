-- One statement more of a session, and how it ends.
use Rattle.std.proofs.Common.{◌≡◌, refl, sym, ap, ◌∙◌, subst, ℕ, ◌+◌, ◌≤◌, Bool, true, false, List}
use Rattle.std.proofs.Common.{[], ◌++◌, Option, None, arith, append-nil, length, length-take, take}
use Rattle.std.proofs.Common.{IsTrue, inl, inr}
use Rattle.std.proofs.KnownBytes.{Appends-nil, Appends-trans, Consumes-nil, Consumes-trans}
use Rattle.std.specs.Io.KnownBytes.{Consumes}
use Rattle.bw_model.specs.FaultTable.{WRITE_FAILED}
use Rattle.bw_model.specs.declared.fault.Fault.{Fault}
use Rattle.bw_model.specs.Fault.{nowhere}
use Rattle.bw_io.specs.Sink.{is_write_fault}
use Rattle.bw_io.specs.Source.{failed_reads, is_input_fault}
use Rattle.bw_io.proofs.SinkLemmas.{no_write_fault}
use Rattle.bw_session.specs.Note.{Hears, Note}
use Rattle.bw_session.specs.Reading.{HasReadBeginning, HasReadStatement, most_stored}
use Rattle.std.specs.Prelude.{if◌then◌else◌}
use Rattle.bw_session.specs.Session.{IsComplete, Ended, IsOutput, IsStopped, IsTold, Outputs}
use Rattle.bw_session.specs.Session.{HasWrittenOutput, HasWrittenPart, MayHear, RanSoFar}
use Rattle.bw_session.specs.Session.{SessionTable, begun}
use Rattle.bw_session.specs.Session.{failed_writes, first_of, more, outputs, reading, whole}
use Rattle.bw_session.specs.Session.{writing}
use Rattle.bw_session.proofs.CutLemmas.{none_opened}
use Rattle.bw_session.proofs.KeptLemmas.{kept_output, kept_told}
use Rattle.bw_session.proofs.NoteLemmas.{Hears-nil, Hears-trans}
use Rattle.bw_session.proofs.WriteLemmas.{rest_after}

-- a statement's stored bytes are at most so many
pub stored_length : (old new : Option (List ℕ)) (statement : List ℕ) (goes_on : Bool) → HasReadStatement old new statement goes_on
    → length statement ≤ 65537
stored_length old new statement goes_on took =
    let size : length statement ≡ length (take most_stored took.bytes) = ap length took.kept in
    omega (arith, size, length-take most_stored took.bytes)

module _ (table : SessionTable) where
  pub begins : (known : Option (List ℕ)) (out : Outputs) → RanSoFar table known known out out None
  begins known out = record {
    text = [];
    output = [];
    notes = [];
    consumes = Consumes-nil known;
    appends = Appends-nil out.taken;
    hears = Hears-nil out.told;
    answered = begun;
  }

  -- the listener was told that the session waits
  pub waits : (old now : Option (List ℕ)) (start : Outputs) (taken : Option (List ℕ)) (told after : Option (List Note))
      (first : Option Fault) → RanSoFar table old now start (outputs taken told) first → Hears told after []
      → RanSoFar table old now start (outputs taken after) first
  waits old now start taken told after first so_far hears = record {
    text = so_far.text;
    output = so_far.output;
    notes = so_far.notes;
    consumes = so_far.consumes;
    appends = so_far.appends;
    hears = subst (Hears start.told after) (append-nil so_far.notes) (Hears-trans start.told told after so_far.notes [] so_far.hears hears);
    answered = so_far.answered;
  }

  -- what a statement's stored bytes are answered by, all its bytes are
  module _ {old new : Option (List ℕ)} {statement : List ℕ} {goes_on : Bool} (took : HasReadStatement old new statement goes_on) where
    output_of_all : (fault : Option Fault) (out : List ℕ) → IsOutput table statement fault out → IsOutput table took.bytes fault out
    output_of_all fault out is =
        kept_output table took.bytes fault out (subst (λ kept. IsOutput table kept fault out) took.kept is)

    told_of_all : (fault : Option Fault) (notes : List Note) → IsTold table statement fault notes → IsTold table took.bytes fault notes
    told_of_all fault notes is =
        kept_told table took.bytes fault notes (subst (λ kept. IsTold table kept fault notes) took.kept is)

  pub goes_on : (old before now : Option (List ℕ)) (start mid end : Outputs) (statement : List ℕ) (first fault : Option Fault)
      → RanSoFar table old before start mid first → HasReadStatement before now statement true
      → HasWrittenOutput table statement mid end fault → RanSoFar table old now start end (first_of first fault)
  goes_on old before now start mid end statement first fault so_far took wrote = record {
    text = so_far.text ++ took.bytes;
    output = so_far.output ++ wrote.out;
    notes = so_far.notes ++ wrote.notes;
    consumes = Consumes-trans old before now so_far.text took.bytes so_far.consumes took.consumes;
    appends = Appends-trans start.taken mid.taken end.taken so_far.output wrote.out so_far.appends wrote.appends;
    hears = Hears-trans start.told mid.told end.told so_far.notes wrote.notes so_far.hears wrote.hears;
    answered = more took.bytes wrote.out wrote.notes fault so_far.answered (took.whole refl)
        (output_of_all took fault wrote.out wrote.is) (told_of_all took fault wrote.notes wrote.tells);
  }

  pub ends : (old before now : Option (List ℕ)) (start mid end : Outputs) (statement : List ℕ) (first fault : Option Fault)
      → RanSoFar table old before start mid first → HasReadStatement before now statement false
      → HasWrittenOutput table statement mid end fault → Ended table old now start end (first_of first fault)
  ends old before now start mid end statement first fault so_far took wrote = record {
    text = so_far.text ++ took.bytes;
    output = so_far.output ++ wrote.out;
    notes = so_far.notes ++ wrote.notes;
    consumes = Consumes-trans old before now so_far.text took.bytes so_far.consumes took.consumes;
    end = took.end refl;
    appends = Appends-trans start.taken mid.taken end.taken so_far.output wrote.out so_far.appends wrote.appends;
    hears = Hears-trans start.told mid.told end.told so_far.notes wrote.notes so_far.hears wrote.hears;
    answered = whole took.bytes wrote.out wrote.notes fault so_far.answered (took.last refl)
        (output_of_all took fault wrote.out wrote.is) (told_of_all took fault wrote.notes wrote.tells);
  }

  -- it ended before the next statement had come
  pub stops : (old now : Option (List ℕ)) (start end : Outputs) (first : Option Fault) (fault : Fault)
      → RanSoFar table old now start end first → IsTrue (is_input_fault fault) → IsStopped table old now start end fault
  stops old now start end first fault so_far input =
      reading so_far.text [] so_far.output so_far.notes input so_far.answered
      (subst (Consumes old now) (sym (append-nil so_far.text)) so_far.consumes)
      (record { front = []; rest = []; is = refl; short = omega arith; opened = none_opened }) (λ read. none_opened)
      so_far.appends so_far.hears

  -- it ended while the next statement came
  pub stops_reading : (old before now : Option (List ℕ)) (start end : Outputs) (first : Option Fault) (fault : Fault)
      → RanSoFar table old before start end first → IsTrue (is_input_fault fault) → HasReadBeginning before now fault
      → IsStopped table old now start end fault
  stops_reading old before now start end first fault so_far input took =
      reading so_far.text took.bytes so_far.output so_far.notes input so_far.answered
      (Consumes-trans old before now so_far.text took.bytes so_far.consumes took.consumes) took.begun took.unended
      so_far.appends so_far.hears

  -- it ended by a failed write
  pub stops_writing : (old before now : Option (List ℕ)) (start mid end : Outputs) (statement sql : List ℕ) (goes : Bool)
      (first : Option Fault) (fault : Fault) → RanSoFar table old before start mid first
      → HasReadStatement before now statement goes → HasWrittenPart table sql mid end → sql ≡ statement
      → fault ≡ nowhere WRITE_FAILED → IsStopped table old now start end fault
  stops_writing old before now start mid end statement sql goes first fault so_far took wrote same failed =
      subst (IsStopped table old now start end) (sym failed)
      (writing so_far.text took.bytes so_far.output wrote.out so_far.notes so_far.answered
      (Consumes-trans old before now so_far.text took.bytes so_far.consumes took.consumes)
      (came_whole before now statement goes took)
      (output_of_all took wrote.fault wrote.out (subst (λ text. IsOutput table text wrote.fault wrote.out) same wrote.is))
      (rest_after start.taken mid.taken end.taken so_far.output wrote.out so_far.appends wrote.appends)
      (heard wrote.hears))
    where
      -- what came is a statement, with what ends it or up to the end of the source
      came_whole : (old new : Option (List ℕ)) (statement : List ℕ) (goes_on : Bool) → (took : HasReadStatement old new statement goes_on)
          → IsComplete new took.bytes
      came_whole old new statement true took = inl (took.whole refl)
      came_whole old new statement false took = inr (took.last refl, took.end refl)

      -- the listener was told of this statement, or not
      heard : MayHear table sql wrote.fault mid.told end.told []
          → MayHear table took.bytes wrote.fault start.told end.told so_far.notes
      heard (inl none) =
          inl (subst (Hears start.told end.told) (append-nil so_far.notes)
          (Hears-trans start.told mid.told end.told so_far.notes [] so_far.hears none))
      heard (inr next) = inr (
        next.0,
        told_of_all took wrote.fault next.0 (subst (λ text. IsTold table text wrote.fault next.0) same next.1),
        Hears-trans start.told mid.told end.told so_far.notes next.0 so_far.hears next.2,
      )

-- an error that isn't that of a failed write counts for none
pub no_writes : (fault : Fault) (before after : ℕ) → is_write_fault fault ≡ false → after ≡ before
    → after ≡ before + failed_writes fault
no_writes fault before after other same =
    let none : failed_writes fault ≡ 0 = ap (λ write. if write then 1 else 0) other in
    omega (arith, same, none)

-- a failed write counts for one, and for no failed read
pub one_write : (fault : Fault) (before after : ℕ) → fault ≡ nowhere WRITE_FAILED → after ≡ before + 1
    → after ≡ before + failed_writes fault
one_write fault before after failed rose = rose ∙ ap (λ f. before + failed_writes f) (sym failed)

pub no_reads : (fault : Fault) (before after : ℕ) → fault ≡ nowhere WRITE_FAILED → after ≡ before
    → after ≡ before + failed_reads fault
no_reads fault before after failed same =
    let none : failed_reads fault ≡ 0 = ap failed_reads failed in
    omega (arith, same, none)

-- an error of an input is no failed write
pub input_alone : (fault : Fault) → IsTrue (is_input_fault fault) → is_write_fault fault ≡ false
input_alone fault input = no_write_fault is_input_fault fault input refl
