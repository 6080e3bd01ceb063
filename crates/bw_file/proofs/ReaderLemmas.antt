-- What the bytes of a file say, segment by segment.
use Rattle.std.proofs.Common.{◌≡◌, ℕ, zero, suc, min, Bool, true, false, ◌+◌, ◌-◌, ◌<◌, ◌≤◌}
use Rattle.std.proofs.Common.{inl, inr, List, [], ◌∷◌, ◌++◌, length, length-append, take, Ok, Err}
use Rattle.std.proofs.Common.{refl, sym, ap, ◌∙◌, append_assoc, arith}
use Rattle.std.specs.Io.KnownBytes.{IsAtEnd}
use Rattle.std.proofs.Math.Seq.{take-append-add}
use Rattle.std.proofs.lemmas.Bool.{cases_lt, or_parts}
use Rattle.std.proofs.lemmas.List.{append-nil, take-append-le, take_at}
use Rattle.bw_model.specs.declared.column.Column.{Column}
use Rattle.bw_model.specs.declared.fault.Fault.{Fault}
use Rattle.bw_model.specs.Fault.{at_byte, is_memory}
use Rattle.bw_model.specs.Groups.{group_size}
use Rattle.bw_model.specs.Row.{Value}
use Rattle.bw_model.specs.SchemaText.{schema_shape}
use Rattle.bw_io.specs.Source.{is_input_fault, is_read_fault}
use Rattle.bw_file.specs.declared.layout.Layout.{Layout}
use Rattle.bw_file.specs.declared.table_reader.TableReader.{TableReader}
use Rattle.bw_file.specs.Reading.{tail, Reading, ◌>>=◌, give, State, HasConsumed, GoesOn, NeedsEach}
use Rattle.bw_file.specs.Reading.{NeedsMore, HasFault, Fails, HasByteMore}
use Rattle.bw_file.specs.TableReading.{HeaderShape, header, body, segment, end, sizes_within}
use Rattle.bw_file.specs.TableReading.{group_sizes, found_in, IsReadAs}
use Rattle.bw_file.specs.TableReader.{header_stated, ReadProgress, found_so_far, ReadWhole}
use Rattle.bw_file.specs.TableReader.{FrontsEndEarly, NoneToSpare, HasFirstFault, AnswersFault}
use Rattle.bw_file.proofs.ReadingLemmas.{passes, stops, took_more, coming_of, is_coming}

-- the sizes of groups don't hang on how many groups there may be
sizes-same : (a b rows : ℕ) → rows ≤ a → rows ≤ b → sizes_within a rows ≡ sizes_within b rows
unfolding group_size
sizes-same zero (suc b) (suc rows) la lb = absurd (omega (arith, la))
sizes-same (suc a) zero (suc rows) la lb = absurd (omega (arith, lb))
sizes-same (suc a) (suc b) (suc rows) la lb =
    ap (λ (sizes : List ℕ). min group_size (suc rows) ∷ sizes) (sizes-same a b (suc rows - group_size) (omega (arith, la)) (omega (arith, lb)))
sizes-same _ _ _ la lb = refl

-- they are the first, and those of the rows after it
pub group_sizes-some : (rows : ℕ) → 0 < rows → group_sizes rows ≡ min group_size rows ∷ group_sizes (rows - group_size)
unfolding group_sizes group_size
group_sizes-some zero some = absurd (omega (arith, some))
group_sizes-some (suc rows) some =
    ap (λ (sizes : List ℕ). min group_size (suc rows) ∷ sizes) (sizes-same rows (suc rows - group_size) (suc rows - group_size) (omega arith) (omega arith))

pub group_sizes-none : group_sizes 0 ≡ []
unfolding group_sizes
group_sizes-none = refl

-- one group more
body_more : (layout : Layout) (columns : List Column) (rows left : ℕ) (groups : List (List (List Value))) (group : List (List Value)) (size : ℕ) (after old new : State)
    → 0 < left → size ≡ min group_size left
    → GoesOn (body layout columns (group_sizes rows) []) after (body layout columns (group_sizes left) groups) old
    → GoesOn (segment layout columns size) old (give group) new
    → GoesOn (body layout columns (group_sizes rows) []) after (body layout columns (group_sizes (left - size)) (groups ++ group ∷ [])) new
unfolding body group_size
body_more layout columns rows left groups group size after old new some sized p q =
    let sizes : group_sizes left ≡ size ∷ group_sizes (left - group_size) = rw sized (group_sizes-some left some) in
    let rest : left - size ≡ left - group_size = omega (arith, sized) in
    let so_far : GoesOn (body layout columns (group_sizes rows) []) after (body layout columns (size ∷ group_sizes (left - group_size)) groups) old = rw sizes at p in
    rw rest (passes (body layout columns (group_sizes rows) []) (segment layout columns size) (λ group. body layout columns (group_sizes (left - group_size)) (groups ++ group ∷ [])) group after old new so_far q)

pub so_far_more : (start old new : State) (reader next : TableReader) (groups : List (List (List Value))) (rows : List (List Value)) (size : ℕ)
    → next.version ≡ reader.version → next.layout ≡ reader.layout → next.placement.value.schema ≡ reader.placement.value.schema → next.rows ≡ reader.rows → next.given ≡ reader.given + size
    → reader.given < reader.rows → size ≡ min group_size (reader.rows - reader.given)
    → ReadProgress start old reader groups → GoesOn (segment reader.layout reader.placement.value.schema.columns.items size) old (give rows) new
    → ReadProgress start new next (groups ++ rows ∷ [])
so_far_more start old new reader next groups rows size same_version same_layout same_schema same_rows same_given left sized so_far more =
    let left_now : reader.rows - (reader.given + size) ≡ reader.rows - reader.given - size = omega arith in
    record {
      after = so_far.after;
      first = so_far.first;
      head = rw (same_version, same_layout, same_schema, same_rows) so_far.head;
      on = rw (same_layout, same_schema, same_rows, same_given, left_now)
          (body_more reader.layout reader.placement.value.schema.columns.items reader.rows (reader.rows - reader.given) groups rows size so_far.after old new (omega arith) sized so_far.on more);
    }

-- a file that ends within its header ends too early
header_early : (start new : State) (fault : Fault) → start.offset ≡ 0 → (p : Fails header start new fault) → (n : ℕ) → n < length p.bytes
    → IsReadAs (take n p.bytes) (Err (at_byte 305 n))
header_early start new fault first p n lt =
    let short : NeedsEach header 0 p.bytes = rw first at p.needed in
    let place : 0 + n ≡ n = omega arith in
    let early : header (tail 0 (take n p.bytes)) ≡ Err (at_byte 305 n) = rw place at (short n lt) in
    rw early refl

-- what is rejected of the header is the file's first error
pub header_refused : (start new : State) (fault : Fault) → start.offset ≡ 0 → Fails header start new fault → AnswersFault start start new fault
header_refused start new fault first p = record {
  bytes = p.bytes;
  took = p.took;
  needed = λ n lt. inl (header_early start new fault first p n lt);
  unfinished = λ failed.
      let short : NeedsMore header 0 p.bytes = rw first at (p.unfinished failed) in
      let place : 0 + length p.bytes ≡ length p.bytes = omega arith in
      let early : header (tail 0 p.bytes) ≡ Err (at_byte 305 (length p.bytes)) = rw place at short in
      inl (rw early refl);
  failures = p.failures;
  first = λ own.
      let has = p.refused own in
      let e : header (tail 0 (p.bytes ++ has.rest)) ≡ Err fault = rw first at has.gives in
      let found : HasFirstFault new p.bytes fault = record {
        rest = has.rest;
        coming = has.coming;
        read = rw e refl;
      } in
      found;
}

-- the header of a file, from its first byte on
pub head_at : (start after : State) (h : HeaderShape) (rest : List ℕ) → start.offset ≡ 0 → (p : GoesOn header start (give h) after)
    → header (tail 0 (p.bytes ++ rest)) ≡ Ok (h, tail after.offset rest)
head_at start after h rest first p = rw first at (p.on rest)

module _ (start old : State) (reader : TableReader) (groups : List (List (List Value))) (so_far : ReadProgress start old reader groups) where
  abbrev whole_body : Reading (List (List (List Value)))
  whole_body = body reader.layout reader.placement.value.schema.columns.items (group_sizes reader.rows) []

  header_on : (rest : List ℕ) → header (tail 0 (so_far.head.bytes ++ rest)) ≡ Ok (header_stated reader.version reader, tail so_far.after.offset rest)
  header_on rest = head_at start so_far.after (header_stated reader.version reader) rest so_far.first so_far.head

  -- a file that ends within its header, or if what follows it needs more, ends too early
  pub ends_early : (more : List ℕ) → NeedsEach whole_body so_far.after.offset more → FrontsEndEarly (so_far.head.bytes ++ more)
  ends_early more needed n lt =
      elim (cases_lt n (length so_far.head.bytes)) [
        | inl less ↦
            let place : 0 + n ≡ n = omega arith in
            let early : header (tail 0 (take n so_far.head.bytes)) ≡ Err (at_byte 305 n) = rw (so_far.first, place) at (so_far.head.needed n less) in
            rw (take-append-le n so_far.head.bytes more (omega (arith, less)), early) refl
        | inr same ↦
            let m = n - length so_far.head.bytes in
            let more_than : n ≡ length so_far.head.bytes + m = omega (arith, same) in
            let split : take n (so_far.head.bytes ++ more) ≡ so_far.head.bytes ++ take m more =
            ap (λ (k : ℕ). take k (so_far.head.bytes ++ more)) more_than ∙ take-append-add so_far.head.bytes more m in
            let place : so_far.after.offset + m ≡ n = omega (arith, same, so_far.first, so_far.head.took.advanced) in
            let early : whole_body (tail so_far.after.offset (take m more)) ≡ Err (at_byte 305 n) =
            rw place at (needed m (omega (arith, lt, same, length-append so_far.head.bytes more))) in
            rw (split, header_on (take m more))
            (reader.placement.value.schema, refl, sym (ap (found_in reader.layout (schema_shape reader.placement.value.schema)) early))
      ]

  after_unfinished : (more : List ℕ) → NeedsMore whole_body so_far.after.offset more → IsReadAs (so_far.head.bytes ++ more) (Err (at_byte 305 (length (so_far.head.bytes ++ more))))
  after_unfinished more p =
      let place : so_far.after.offset + length more ≡ length (so_far.head.bytes ++ more) = omega (arith, so_far.first, so_far.head.took.advanced, length-append so_far.head.bytes more) in
      let early : whole_body (tail so_far.after.offset more) ≡ Err (at_byte 305 (length (so_far.head.bytes ++ more))) = rw place at p in
      rw (header_on more) (reader.placement.value.schema, refl, sym (ap (found_in reader.layout (schema_shape reader.placement.value.schema)) early))

  -- the error after the header is the file's
  after_fault : (new : State) (more : List ℕ) (fault : Fault) → HasFault whole_body so_far.after new more fault → HasFirstFault new (so_far.head.bytes ++ more) fault
  after_fault new more fault has =
      let e : header (tail 0 ((so_far.head.bytes ++ more) ++ has.rest)) ≡ Ok (header_stated reader.version reader, tail so_far.after.offset (more ++ has.rest)) =
      rw append_assoc (header_on (more ++ has.rest)) in
      let own_fault = sym (ap (found_in reader.layout (schema_shape reader.placement.value.schema)) has.gives) in
      record { rest = has.rest; coming = has.coming; read = rw e (reader.placement.value.schema, refl, own_fault) }

  after_refused : (new : State) (fault : Fault) → Fails whole_body so_far.after new fault → AnswersFault start old new fault
  after_refused new fault p = record {
    bytes = so_far.head.bytes ++ p.bytes;
    took = took_more start so_far.after new so_far.head.bytes p.bytes so_far.head.took p.took;
    needed = λ n lt. inl (ends_early p.bytes p.needed n lt);
    unfinished = λ failed. inl (after_unfinished p.bytes (p.unfinished failed));
    failures = omega (arith, p.failures, so_far.on.failures);
    first = λ own. after_fault new p.bytes fault (p.refused own);
  }

pub segment_refused : (start old new : State) (reader : TableReader) (groups : List (List (List Value))) (size : ℕ) (fault : Fault)
    → reader.given < reader.rows → size ≡ min group_size (reader.rows - reader.given) → ReadProgress start old reader groups
    → Fails (segment reader.layout reader.placement.value.schema.columns.items size) old new fault → AnswersFault start old new fault
unfolding body
segment_refused start old new reader groups size fault left sized so_far p =
    let layout = reader.layout in
    let columns = reader.placement.value.schema.columns.items in
    let rest = reader.rows - reader.given in
    let sizes : group_sizes rest ≡ size ∷ group_sizes (rest - group_size) = rw sized (group_sizes-some rest (omega arith)) in
    let on : GoesOn (body layout columns (group_sizes reader.rows) []) so_far.after (body layout columns (size ∷ group_sizes (rest - group_size)) groups) old = rw sizes at so_far.on in
    after_refused start old reader groups so_far new fault
    (stops (body layout columns (group_sizes reader.rows) []) (segment layout columns size) (λ group. body layout columns (group_sizes (rest - group_size)) (groups ++ group ∷ [])) so_far.after old new fault on p)

-- if all groups were read, the end is next
pub at_end : (start old : State) (reader : TableReader) (groups : List (List (List Value))) → reader.given ≡ reader.rows → (so_far : ReadProgress start old reader groups) → (rest : List ℕ)
    → body reader.layout reader.placement.value.schema.columns.items (group_sizes reader.rows) [] (tail so_far.after.offset (so_far.on.bytes ++ rest))
    ≡ (end >>= λ _. give groups) (tail old.offset rest)
unfolding body
at_end start old reader groups all so_far rest =
    let none : reader.rows - reader.given ≡ 0 = omega arith in
    let sizes : group_sizes (reader.rows - reader.given) ≡ [] = rw none group_sizes-none in
    rw sizes at (so_far.on.on rest)

-- and then, if the file ends there, it was read completely
read_so_far : (start old : State) (reader : TableReader) (groups : List (List (List Value))) → reader.given ≡ reader.rows → (so_far : ReadProgress start old reader groups)
    → IsReadAs (so_far.head.bytes ++ so_far.on.bytes) (Ok (found_so_far reader groups))
unfolding end
read_so_far start old reader groups all so_far =
    let read : body reader.layout reader.placement.value.schema.columns.items (group_sizes reader.rows) [] (tail so_far.after.offset so_far.on.bytes) ≡ Ok (groups, tail old.offset []) =
    rw append-nil at (at_end start old reader groups all so_far []) in
    rw (header_on start old reader groups so_far so_far.on.bytes)
    (reader.placement.value.schema, refl, sym (ap (found_in reader.layout (schema_shape reader.placement.value.schema)) read))

-- a byte more is an error
byte_more : (groups : List (List (List Value))) (at : ℕ) (bytes rest : List ℕ) → length bytes ≡ 1 → (end >>= λ _. give groups) (tail at (bytes ++ rest)) ≡ Err (at_byte 309 at)
unfolding end
byte_more groups at [] rest one = absurd (omega (arith, one))
byte_more groups at (byte ∷ bytes) rest one = refl

-- and no fewer bytes have it
byte_needed : (start old : State) (reader : TableReader) (groups : List (List (List Value))) → reader.given ≡ reader.rows → (so_far : ReadProgress start old reader groups)
    → (byte : List ℕ) → length byte ≡ 1 → NoneToSpare (so_far.head.bytes ++ (so_far.on.bytes ++ byte)) (at_byte 309 old.offset)
byte_needed start old reader groups all so_far byte one n lt =
    let front = so_far.head.bytes ++ so_far.on.bytes in
    let whole : front ++ byte ≡ so_far.head.bytes ++ (so_far.on.bytes ++ byte) = append_assoc so_far.head.bytes so_far.on.bytes byte in
    let long = length-append so_far.head.bytes so_far.on.bytes in
    rw (← whole) (elim (cases_lt n (length front)) [
      | inl less ↦
          rw (take-append-le n front byte (omega (arith, less))) (inl (ends_early start old reader groups so_far so_far.on.bytes so_far.on.needed n less))
      | inr same ↦
          let size : length front ≡ n = omega (arith, same, lt, one, length-append so_far.head.bytes (so_far.on.bytes ++ byte), length-append so_far.on.bytes byte, long) in
          let place : old.offset ≡ n = omega (arith, size, long, so_far.first, so_far.head.took.advanced, so_far.on.took.advanced) in
          rw (take_at front byte n size) (inr (found_so_far reader groups, read_so_far start old reader groups all so_far, ap (λ (k : ℕ). at_byte 309 k) place))
    ])

-- no byte could be spared, whether a byte came after the groups or a read failed
end_needed : (start old : State) (reader : TableReader) (groups : List (List (List Value))) (fault : Fault) → reader.given ≡ reader.rows → (so_far : ReadProgress start old reader groups)
    → (byte : List ℕ) (failed : Bool) → (failed ≡ true → byte ≡ []) → (failed ≡ false → (length byte ≡ 1) × (fault ≡ at_byte 309 old.offset))
    → NoneToSpare (so_far.head.bytes ++ (so_far.on.bytes ++ byte)) fault
end_needed start old reader groups fault all so_far byte true none one =
    let whole : so_far.on.bytes ++ byte ≡ so_far.on.bytes = rw (none refl) (append-nil so_far.on.bytes) in
    rw whole (λ n lt. inl (ends_early start old reader groups so_far so_far.on.bytes so_far.on.needed n lt))
end_needed start old reader groups fault all so_far byte false none one =
    rw ((one refl).1) (byte_needed start old reader groups all so_far byte (one refl).0)

-- an error that isn't a failed read, nor out of memory
own_fault : (fault : Fault) → is_input_fault fault ≡ false → is_read_fault fault ≡ false
own_fault fault own = (or_parts (is_memory fault) (is_read_fault fault) own).1

pub end_missed : (start old new : State) (reader : TableReader) (groups : List (List (List Value))) (fault : Fault) → reader.given ≡ reader.rows → ReadProgress start old reader groups
    → HasByteMore old new fault → AnswersFault start old new fault
end_missed start old new reader groups fault all so_far p = record {
  bytes = so_far.head.bytes ++ (so_far.on.bytes ++ p.bytes);
  took = took_more start so_far.after new so_far.head.bytes (so_far.on.bytes ++ p.bytes) so_far.head.took (took_more so_far.after old new so_far.on.bytes p.bytes so_far.on.took p.took);
  needed = end_needed start old reader groups fault all so_far p.bytes (is_read_fault fault) p.unfinished p.refused;
  unfinished = λ failed.
      let whole : so_far.on.bytes ++ p.bytes ≡ so_far.on.bytes = rw (p.unfinished failed) (append-nil so_far.on.bytes) in
      rw whole (inr (found_so_far reader groups, read_so_far start old reader groups all so_far));
  failures = p.failures;
  first = λ own.
      let has = p.refused (own_fault fault own) in
      let whole = body reader.layout reader.placement.value.schema.columns.items (group_sizes reader.rows) [] in
      let rest = coming_of new.known in
      let found : HasFault whole so_far.after new (so_far.on.bytes ++ p.bytes) (at_byte 309 old.offset) = record {
        rest = rest;
        coming = is_coming new.known;
        gives =
            ap (λ (bytes : List ℕ). whole (tail so_far.after.offset bytes)) (append_assoc so_far.on.bytes p.bytes rest)
            ∙ at_end start old reader groups all so_far (p.bytes ++ rest)
            ∙ byte_more groups old.offset p.bytes rest has.0;
      } in
      rw has.1 (after_fault start old reader groups so_far new (so_far.on.bytes ++ p.bytes) (at_byte 309 old.offset) found);
}

pub end_seen : (start old new : State) (reader : TableReader) (groups : List (List (List Value))) → reader.given ≡ reader.rows → ReadProgress start old reader groups
    → HasConsumed old new [] → new.failures ≡ old.failures → IsAtEnd new.known → ReadWhole start new (found_so_far reader groups)
end_seen start old new reader groups all so_far took same ended = record {
  bytes = so_far.head.bytes ++ so_far.on.bytes;
  took = rw append-nil at (took_more start old new (so_far.head.bytes ++ so_far.on.bytes) []
      (took_more start so_far.after old so_far.head.bytes so_far.on.bytes so_far.head.took so_far.on.took) took);
  needed = ends_early start old reader groups so_far so_far.on.bytes so_far.on.needed;
  failures = omega (arith, same, so_far.on.failures, so_far.head.failures);
  ended = ended;
  read = read_so_far start old reader groups all so_far;
}
