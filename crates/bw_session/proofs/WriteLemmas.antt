-- What is written and told for one statement: an answer or nothing, and then an LF.
use Rattle.std.proofs.Common.{◌≡◌, refl, sym, ap, ◌∙◌, subst, ℕ, ◌+◌, ◌≤◌, Bool, true, false, List}
use Rattle.std.proofs.Common.{[], ◌∷◌, ◌++◌, Option, Some, None, Result, Ok, Err, length, arith}
use Rattle.std.proofs.Common.{length-append, take_all, inl, inr}
use Rattle.std.proofs.lemmas.Bool.{both_ways}
use Rattle.std.proofs.lemmas.List.{take-append-le}
use Rattle.std.proofs.Math.Seq.{take-append-add}
use Rattle.std.proofs.KnownBytes.{Appends-nil, Appends-trans}
use Rattle.std.specs.Prelude.{◌↔◌, ◌⊎◌, IsTrue}
use Rattle.std.specs.Io.KnownBytes.{Appends}
use Rattle.bw_model.specs.declared.fault.Fault.{Fault}
use Rattle.bw_model.specs.declared.schema.Schema.{Schema}
use Rattle.bw_io.specs.Sink.{SinkState, TookPart, WriteOutcome, beginning, everything}
use Rattle.bw_io.specs.Sink.{is_write_fault, none_aside, nothing}
use Rattle.bw_query.specs.StoreAnswer.{AnswersStore, IsStoreAnswer, StoreText}
use Rattle.bw_query.specs.StoreAnswer.{HasColumnError}
use Rattle.bw_query.specs.TableAnswer.{by_statement}
use Rattle.bw_query.specs.declared.served.StoreServed.{StoreServed}
use Rattle.bw_sql.specs.Statement.{IsReadAs}
use Rattle.bw_session.specs.Note.{Hears, Note, rejected, served_notes}
use Rattle.bw_session.specs.Reading.{most_stored}
use Rattle.bw_session.specs.Session.{AnswersOne, AsksNothing, EndsLine, IsOutput, IsTold}
use Rattle.bw_session.specs.Session.{SessionTable, TookRest, answer, nothing as none, refusal}
use Rattle.bw_session.specs.Session.{told_answer, told_nothing, told_refusal}
use Rattle.bw_session.proofs.NoteLemmas.{Hears-nil}

-- what the test said that a statement asks
pub asks_something : (sql : List ℕ) (test : Bool) → (IsTrue test ↔ AsksNothing sql) → test ≡ false → AsksNothing sql → ⊥
asks_something sql test says fails asks = both_ways test fails (says.1 asks)

-- a text was written, and then a part of what follows it
pub rest_after : (old mid new : Option (List ℕ)) (text more : List ℕ) → Appends old mid text → TookPart mid new more
    → TookRest old new text more
rest_after old mid new text more went part = (part.0, part.1, Appends-trans old mid new text _ went part.2)

part_after : (old mid new : Option (List ℕ)) (text more : List ℕ) → Appends old mid text → TookPart mid new more
    → TookPart old new (text ++ more)
part_after old mid new text more went part = (
  length text + part.0,
  omega (arith, length-append text more, part.1),
  subst (Appends old new) (sym (take-append-add text more part.0)) (Appends-trans old mid new text _ went part.2),
)

-- a part of a text was written, which more was to follow
part_before : (old new : Option (List ℕ)) (text more : List ℕ) → TookPart old new text → TookPart old new (text ++ more)
part_before old new text more part = (
  part.0,
  omega (arith, length-append text more, part.1),
  subst (Appends old new) (sym (take-append-le part.0 text more (omega (arith, part.1)))) part.2,
)

-- the error of a statement, answered without a program file
statement_fault : (schema : Schema) (sql : List ℕ) (fault : Fault) → by_statement None sql schema (Err fault)
    → IsReadAs schema sql (Err fault)
statement_fault schema sql fault (inl refused) = refused
statement_fault schema sql fault (inr program) = absurd program.refused

-- or that of a column that it names
rejection : (table : SessionTable) (sql : List ℕ) (fault : Fault)
    → by_statement None sql table.schema (Err fault) ⊎ HasColumnError (by_statement None sql) table.schema table.source fault
    → IsReadAs table.schema sql (Err fault) ⊎ HasColumnError (λ schema. IsReadAs schema sql) table.schema table.source fault
rejection table sql fault (inl refused) = inl (statement_fault table.schema sql fault refused)
rejection table sql fault (inr damaged) = inr (record { query = damaged.query; asked = damaged.asked.0; fails = damaged.fails })

module _ (table : SessionTable) (sql : List ℕ) where
  -- an LF follows what was written, after the listener was told
  line_ends : (text : List ℕ) (notes : List Note) (old mid new : SinkState) (before after : Option (List Note))
      (fault : Option Fault) (result : Result (Option Fault) Fault)
      → IsOutput table sql fault (text ++ 10 ∷ []) → IsTold table sql fault notes → Appends old.taken mid.taken text → mid.failures ≡ old.failures
      → Hears before after notes → EndsLine mid new fault result → AnswersOne table sql old new before after result
  line_ends text notes old mid new before after fault (Ok found) is tells went count hears line = (
    record {
      out = text ++ 10 ∷ [];
      notes = notes;
      is = subst (λ f. IsOutput table sql f (text ++ 10 ∷ [])) (sym line.0) is;
      tells = subst (λ f. IsTold table sql f notes) (sym line.0) tells;
      appends = Appends-trans old.taken mid.taken new.taken text (10 ∷ []) went line.1;
      hears = hears;
    },
    line.2 ∙ count,
  )
  line_ends text notes old mid new before after fault (Err failed) is tells went count hears line = (
    line.0,
    record {
      out = text ++ 10 ∷ [];
      fault = fault;
      is = is;
      appends = part_after old.taken mid.taken new.taken text (10 ∷ []) went line.1;
      hears = inr (notes, tells, hears);
    },
    line.2 ∙ ap (λ n. n + 1) count,
  )

  -- an LF follows an answer
  pub answered_line : (given : Result (List ℕ) Fault) (old mid new : SinkState) (before after : Option (List Note)) (how : StoreServed)
      (result : Result (Option Fault) Fault) → WriteOutcome none_aside old mid given (Ok how)
      → AnswersStore (by_statement None sql) table.schema table.source table.files old.taken mid.taken how
      → Hears before after (served_notes how) → EndsLine mid new None result
      → AnswersOne table sql old new before after result
  answered_line given old mid new before after how result (everything text gave went count) did hears line =
      line_ends _ _ old mid new before after None result (answer did.found.query did.rows did.found.asked.0 did.have)
      (told_answer did.found.query did.rows how did.found.asked.0 did.have did.serves) did.found.text count hears line

  -- a write of an answer failed
  pub answer_failed : (old new : SinkState) (told : Option (List Note)) (given : Result (List ℕ) Fault) (fault : Fault)
      → IsStoreAnswer (by_statement None sql) table.schema table.source given
      → WriteOutcome {T = StoreServed} none_aside old new given (Err fault) → is_write_fault fault ≡ true
      → AnswersOne table sql old new told told (Err fault)
  answer_failed old new told given _ is (beginning text gave part count) write =
      let stored : StoreText (by_statement None sql) table.schema table.source text =
      subst (IsStoreAnswer (by_statement None sql) table.schema table.source) gave is in (
        refl,
        record {
          out = text ++ 10 ∷ [];
          fault = None;
          is = subst (λ line. IsOutput table sql None (line ++ 10 ∷ [])) (sym stored.found.is) (answer stored.found.query stored.rows stored.found.asked.0 stored.have);
          appends = part_before old.taken new.taken text (10 ∷ []) part;
          hears = inl (Hears-nil told);
        },
        count,
      )
  answer_failed old new told given fault is (nothing other gave same count) write =
      absurd (both_ways (is_write_fault fault) other write)

  -- an LF follows a rejection
  pub refused : (given : Result (List ℕ) Fault) (old mid new : SinkState) (before after : Option (List Note)) (fault : Fault)
      (result : Result (Option Fault) Fault) → (AsksNothing sql → ⊥) → length sql ≤ 65537
      → IsStoreAnswer (by_statement None sql) table.schema table.source given
      → WriteOutcome {T = StoreServed} none_aside old mid given (Err fault) → is_write_fault fault ≡ false
      → Hears before after (rejected sql fault ∷ []) → EndsLine mid new (Some fault) result
      → AnswersOne table sql old new before after result
  refused given old mid new before after _ result asks short is (beginning text gave part count) other hears line =
      absurd (cc other)
  refused given old mid new before after fault result asks short is (nothing _ gave same count) other hears line =
      line_ends [] _ old mid new before after (Some fault) result
      (refusal asks (λ no_memory. rejection table sql fault
      (subst (IsStoreAnswer (by_statement None sql) table.schema table.source) (gave refl) is no_memory)))
      (told_refusal fault)
      (subst (λ known. Appends old.taken known []) (sym same) (Appends-nil old.taken)) count
      (subst (λ kept. Hears before after (rejected kept fault ∷ [])) (sym (take_all most_stored sql short)) hears) line

  -- nothing is asked
  pub silent : (old : SinkState) (told : Option (List Note)) → AsksNothing sql → AnswersOne table sql old old told told (Ok None)
  silent old told asks =
      (record { out = []; notes = []; is = none asks; tells = told_nothing asks; appends = Appends-nil old.taken; hears = Hears-nil told }, refl)

-- no write failed
pub count_kept : (T : Type 0) (old new : SinkState) (given : Result (List ℕ) Fault)
    (fault : Fault) → WriteOutcome {T = T} none_aside old new given (Err fault) → is_write_fault fault ≡ false
    → new.failures ≡ old.failures
count_kept T old new given _ (beginning text gave part count) other = cc
count_kept T old new given fault (nothing _ gave same count) other = count

pub count_same : (T : Type 0) (old new : SinkState) (given : Result (List ℕ) Fault) (x : T)
    → WriteOutcome {T = T} none_aside old new given (Ok x) → new.failures ≡ old.failures
count_same T old new given x (everything text gave went count) = count
