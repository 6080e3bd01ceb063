-- What a reader gives next: a segment, the end, an error, or what was settled.
use Rattle.std.proofs.Common.{◌≡◌, ℕ, min, ◌+◌, ◌-◌, ◌<◌, List, [], ◌++◌, length, inl, inr, Some}
use Rattle.std.proofs.Common.{None, Result, Ok, Err, refl, sym, ap, subst, ◌∙◌}
use Rattle.std.specs.Io.KnownBytes.{IsAtEnd}
use Rattle.bw_model.specs.declared.fault.Fault.{Fault}
use Rattle.bw_model.specs.Groups.{group_size, groups_of, together}
use Rattle.bw_model.specs.Row.{Value}
use Rattle.bw_file.specs.declared.segments.AnySegment.{AnySegment}
use Rattle.bw_file.specs.declared.table_reader.TableReader.{TableReader}
use Rattle.bw_file.specs.AnySegment.{any_layout, any_meaning}
use Rattle.bw_file.specs.Reading.{tail, State, HasConsumed, GoesOn, NeedsMore, Fails, HasByteMore}
use Rattle.bw_file.specs.Reading.{give}
use Rattle.bw_file.specs.TableReading.{segment, end, group_sizes, IsTableFault}
use Rattle.bw_file.specs.TableReader.{final_result, ReadProgress, SameTable, ReturnsSegment}
use Rattle.bw_file.specs.TableReader.{EndsCompletely, FailsBy, Repeats, GivesNext, gives, ends}
use Rattle.bw_file.specs.TableReader.{refuses, repeats}
use Rattle.bw_file.proofs.BodySpelling.{groups_found}
use Rattle.bw_file.proofs.FaultLemmas.{refused_by, segment_own, byte_own}
use Rattle.bw_file.proofs.ReaderLemmas.{so_far_more, segment_refused, at_end, end_seen, end_missed}

-- if all rows were given, the groups so far are the groups of all rows
pub all_groups : (start now : State) (reader : TableReader) (groups : List (List (List Value))) → reader.given ≡ reader.rows → ReadProgress start now reader groups
    → groups ≡ groups_of (together groups)
unfolding end
all_groups start now reader groups all so_far =
    let found = groups_found reader.layout reader.placement.value.schema.columns.items (group_sizes reader.rows) reader.rows [] (tail so_far.after.offset (so_far.on.bytes ++ [])) (groups, tail now.offset []) refl (at_end start now reader groups all so_far []) in
    let same : groups ≡ found.groups = found.after in
    sym (subst (λ (l : List (List (List Value))). groups_of (together l) ≡ l) (sym same) found.cut)

module _ {S : Type 0} (source next_source : S) (old now : State) (reader next : TableReader) (same : SameTable reader next) where
  pub segment_given : (given : AnySegment) (size : ℕ) → final_result next ≡ None → reader.given < reader.rows → final_result reader ≡ None → size ≡ min group_size (reader.rows - reader.given)
      → next.given ≡ reader.given + size → any_layout given ≡ reader.layout → (any_meaning given).name ≡ reader.placement.value.schema.name → (any_meaning given).columns ≡ reader.placement.value.schema.columns.items
      → length (any_meaning given).rows ≡ size → GoesOn (segment reader.layout reader.placement.value.schema.columns.items size) old (give (any_meaning given).rows) now
      → GivesNext source next_source old now reader next (Ok (Some given))
  segment_given given size reading left unsettled sized counted layout name columns count read = gives unsettled (record {
    of_table = record { layout = layout; name = name; columns = columns; count = count ∙ sized };
    after = λ start groups so_far. so_far_more start old now reader next groups (any_meaning given).rows size same.version same.layout same.schema same.rows counted left sized so_far read;
    row_count = counted ∙ ap (λ (n : ℕ). reader.given + n) (sym count);
    bytes = read.bytes;
    took = read.took;
    failures = read.failures;
    goes_on = reading;
    same = same;
  })

  pub segment_missed : (size : ℕ) (fault : Fault) → final_result next ≡ Some (Err fault) → reader.given < reader.rows → final_result reader ≡ None → size ≡ min group_size (reader.rows - reader.given)
      → Fails (segment reader.layout reader.placement.value.schema.columns.items size) old now fault → next.given ≡ reader.given → GivesNext source next_source old now reader next (Err fault)
  segment_missed size fault stopped left unsettled sized fails kept = refuses unsettled (record {
    answers = λ start groups so_far. segment_refused start old now reader groups size fault left sized so_far fails;
    own = refused_by (segment reader.layout reader.placement.value.schema.columns.items size) old now fault (segment_own reader.layout reader.placement.value.schema.columns.items size) fails;
    row_count = kept;
    bytes = fails.bytes;
    took = fails.took;
    failures = fails.failures;
    unfinished = λ failed. inr (subst (λ (n : ℕ). NeedsMore (segment reader.layout reader.placement.value.schema.columns.items n) old.offset fails.bytes) sized (fails.unfinished failed));
    settles = stopped;
    same = same;
  })

  pub end_given : final_result next ≡ Some (Ok tt) → reader.given ≡ reader.rows → final_result reader ≡ None → HasConsumed old now [] → now.failures ≡ old.failures → IsAtEnd now.known
      → next.given ≡ reader.given → GivesNext source next_source old now reader next (Ok None)
  end_given stopped all unsettled took failures ended kept = ends unsettled (record {
    whole = λ start groups so_far. end_seen start old now reader groups all so_far took failures ended;
    groups = λ start groups so_far. all_groups start old reader groups all so_far;
    row_count = kept;
    took = took;
    failures = failures;
    settles = stopped;
    same = same;
  })

  pub byte_given : (fault : Fault) → final_result next ≡ Some (Err fault) → reader.given ≡ reader.rows → final_result reader ≡ None → HasByteMore old now fault
      → next.given ≡ reader.given → GivesNext source next_source old now reader next (Err fault)
  byte_given fault stopped all unsettled fails kept = refuses unsettled (record {
    answers = λ start groups so_far. end_missed start old now reader groups fault all so_far fails;
    own = byte_own old now fault fails;
    row_count = kept;
    bytes = fails.bytes;
    took = fails.took;
    failures = fails.failures;
    unfinished = λ failed. inl (fails.unfinished failed);
    settles = stopped;
    same = same;
  })

no_segment_again : (segment : AnySegment) (answer : Result (Unit {0}) Fault) → Repeats (Ok (Some segment)) answer → ⊥
no_segment_again segment (Ok x) again = cc again
no_segment_again segment (Err fault) again = cc again.0

module _ {S : Type 0} {source next_source : S} {old now : State} {reader next : TableReader} where
  -- a segment is given by no call but one that reads
  pub segment_of : {segment : AnySegment} → GivesNext source next_source old now reader next (Ok (Some segment)) → ReturnsSegment old now reader next segment
  segment_of (gives unsettled gave) = gave
  segment_of {segment} (repeats again) = absurd (no_segment_again segment again.answer again.again)

  -- if nothing was settled, None is of a file that was read completely, and an error is the first
  -- one
  pub end_of : GivesNext source next_source old now reader next (Ok None) → final_result reader ≡ None → EndsCompletely old now reader next
  end_of (ends _ ended) unsettled = ended
  end_of (repeats again) unsettled = absurd (cc (again.was_settled, unsettled))

  pub refusal_of : {fault : Fault} → GivesNext source next_source old now reader next (Err fault) → final_result reader ≡ None → FailsBy old now reader next fault
  refusal_of (refuses _ refused) unsettled = refused
  refusal_of (repeats again) unsettled = absurd (cc (again.was_settled, unsettled))

  -- a call that finds an answer settled repeats it
  pub ended_again : final_result reader ≡ Some (Ok tt) → next ≡ reader → next_source ≡ source → GivesNext source next_source old now reader next (Ok None)
  ended_again stopped same_reader same_source = repeats (record { answer = Ok tt; was_settled = stopped; again = refl; same_reader = same_reader; same_source = same_source })

  pub refused_again : (fault : Fault) → final_result reader ≡ Some (Err fault) → IsTableFault fault → next ≡ reader → next_source ≡ source → GivesNext source next_source old now reader next (Err fault)
  refused_again fault stopped own same_reader same_source = repeats (record { answer = Err fault; was_settled = stopped; again = (refl, own); same_reader = same_reader; same_source = same_source })
