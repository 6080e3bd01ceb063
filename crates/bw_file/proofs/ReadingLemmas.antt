-- Reading bytes step by step, as calls take them of a source.
use Rattle.std.proofs.Common.{◌≡◌, ℕ, ◌+◌, ◌-◌, ◌≤◌, ◌<◌, true, false, zero, suc, List, [], ◌∷◌}
use Rattle.std.proofs.Common.{◌++◌, length, take, lit<, Option, Some, None, Result, Ok, Err, refl}
use Rattle.std.proofs.Common.{sym, ap, ◌∙◌, append_assoc, length-append, arith, inl, inr, nat_lt}
use Rattle.std.proofs.Common.{◌==◌, IfSome}
use Rattle.std.proofs.lemmas.Bool.{and_right, true≢false, cases_lt, lt-ltb, le-ltb}
use Rattle.std.proofs.lemmas.List.{take_at, drop_at, length-take-le, take-append-le}
use Rattle.std.proofs.Math.Seq.{take-append-add}
use borrow.Rule.Slice.PartMut.{put_mid, post_of}
use Rattle.std.specs.Io.KnownBytes.{IsAtEnd}
use Rattle.std.proofs.KnownBytes.{Consumes-trans}
use Rattle.bw_model.specs.declared.fault.Fault.{Fault}
use Rattle.bw_model.specs.Fault.{at_byte, no_memory, nowhere}
use Rattle.bw_io.specs.Source.{is_read_fault, source_state}
use Rattle.bw_file.specs.Reading.{AreBytes, Tail, tail, Reading, and_then, at_offset, ◌>>=◌, give}
use Rattle.bw_file.specs.Reading.{field, parsed_at, read_field, State, state_at, HasConsumed, GoesOn}
use Rattle.bw_file.specs.Reading.{NeedsEach, NeedsMore, HasFault, Fails, Reads}

-- the bytes of a buffer are bytes, and so are those in front, and those of several buffers
no_bytes : AreBytes []
no_bytes i = lit< tt

one_byte_more : (c : ℕ) (bytes : List ℕ) → c < 256 → AreBytes bytes → AreBytes (c ∷ bytes)
one_byte_more c bytes first each zero = first
one_byte_more c bytes first each (suc i) = each i

pub front_bytes : (n : ℕ) (bytes : List ℕ) → AreBytes bytes → AreBytes (take n bytes)
front_bytes (suc n) (c ∷ bytes) each = one_byte_more c (take n bytes) (each 0) (front_bytes n bytes (λ k. each (suc k)))
front_bytes _ _ each = no_bytes

pub both_bytes : (xs ys : List ℕ) → AreBytes xs → AreBytes ys → AreBytes (xs ++ ys)
both_bytes [] ys p q = q
both_bytes (x ∷ xs) ys p q = one_byte_more x (xs ++ ys) (p 0) (both_bytes xs ys (λ k. p (suc k)) q)

-- nothing was taken
pub took_nothing : (known : Option (List ℕ)) (offset failures : ℕ) → HasConsumed (state_at (source_state known failures) offset) (state_at (source_state known failures) offset) []
took_nothing None offset failures = record { consumed = tt; advanced = sym (omega arith); each = no_bytes }
took_nothing (Some bytes) offset failures = record { consumed = refl; advanced = omega arith; each = no_bytes }

-- bytes were taken, and then more
pub took_more : (a b c : State) (xs ys : List ℕ) → HasConsumed a b xs → HasConsumed b c ys → HasConsumed a c (xs ++ ys)
took_more a b c xs ys p q = record {
  consumed = Consumes-trans a.known b.known c.known xs ys p.consumed q.consumed;
  advanced = omega (arith, p.advanced, q.advanced, length-append xs ys);
  each = both_bytes xs ys p.each q.each;
}

-- of no bytes each is needed
pub needs_none : {A : Type 0} (reading : Reading A) (at : ℕ) → NeedsEach reading at []
needs_none reading at n lt = absurd (omega (arith, lt))

-- what one thing needs is needed by it and another
pub needs_first : {A B : Type 0} (first : Reading A) (next : A → Reading B) (at : ℕ) (bytes : List ℕ) → NeedsEach first at bytes
    → NeedsEach (first >>= next) at bytes
needs_first {A = A} first next at bytes p n lt = ap (λ (r : Result (A × Tail) Fault). and_then r next) (p n lt)

-- what is read of bytes that end too early, at a place
abbrev short_at : (A : Type 0) → ℕ → Result (A × Tail) Fault
short_at A place = Err (at_byte 305 place)

-- bytes that are needed, and then more
pub needs_more : {A : Type 0} (reading next : Reading A) (at after : ℕ) (xs ys : List ℕ) → after ≡ at + length xs → NeedsEach reading at xs
    → ((rest : List ℕ) → reading (tail at (xs ++ rest)) ≡ next (tail after rest)) → NeedsEach next after ys → NeedsEach reading at (xs ++ ys)
needs_more {A = A} reading next at after xs ys e p on q n lt =
    elim (cases_lt n (length xs)) [
      | inl less ↦ rw (take-append-le n xs ys (omega (arith, less))) (p n less)
      | inr same ↦
          let more : n ≡ length xs + (n - length xs) = omega (arith, same) in
          let split : take n (xs ++ ys) ≡ xs ++ take (n - length xs) ys = ap (λ (k : ℕ). take k (xs ++ ys)) more ∙ take-append-add xs ys (n - length xs) in
          let place : after + (n - length xs) ≡ at + n = omega (arith, same, e) in
          ap (λ (l : List ℕ). reading (tail at l)) split ∙ on (take (n - length xs) ys) ∙ q (n - length xs) (omega (arith, lt, same, length-append xs ys))
          ∙ ap (λ (k : ℕ). short_at A k) place
    ]

-- what needs more than the bytes that it finds still does so after others
needs_still : {A B : Type 0} (reading : Reading B) (first : Reading A) (next : A → Reading B) (at after : ℕ) (xs ys : List ℕ) → after ≡ at + length xs
    → ((rest : List ℕ) → reading (tail at (xs ++ rest)) ≡ (first >>= next) (tail after rest)) → NeedsMore first after ys → NeedsMore reading at (xs ++ ys)
needs_still {A = A} {B = B} reading first next at after xs ys e on p =
    let place : after + length ys ≡ at + length (xs ++ ys) = omega (arith, e, length-append xs ys) in
    on ys ∙ ap (λ (r : Result (A × Tail) Fault). and_then r next) p ∙ ap (λ (k : ℕ). short_at B k) place

-- reading begins where it begins
pub begins : {A : Type 0} (reading : Reading A) (old : State) → GoesOn reading old reading old
begins reading old = record { bytes = []; took = took_nothing old.known old.offset old.failures; needed = needs_none reading old.offset; failures = refl; on = λ rest. refl }

-- reading continues after one thing
pub passes : {A B : Type 0} (reading : Reading B) (first : Reading A) (next : A → Reading B) (x : A) (old mid new : State)
    → GoesOn reading old (first >>= next) mid → GoesOn first mid (give x) new → GoesOn reading old (next x) new
passes {A = A} reading first next x old mid new p q = record {
  bytes = p.bytes ++ q.bytes;
  took = took_more old mid new p.bytes q.bytes p.took q.took;
  needed = needs_more reading (first >>= next) old.offset mid.offset p.bytes q.bytes p.took.advanced p.needed p.on (needs_first first next mid.offset q.bytes q.needed);
  failures = q.failures ∙ p.failures;
  on = λ rest.
      ap (λ (bytes : List ℕ). reading (tail old.offset bytes)) (append_assoc p.bytes q.bytes rest)
      ∙ p.on (q.bytes ++ rest)
      ∙ ap (λ (r : Result (A × Tail) Fault). and_then r next) (q.on rest);
}

-- bytes to come, if they are known
abbrev pub coming_of : Option (List ℕ) → List ℕ
coming_of None = []
coming_of (Some bytes) = bytes

pub is_coming : (known : Option (List ℕ)) → IfSome known (λ bytes. bytes ≡ coming_of known)
is_coming None = tt
is_coming (Some bytes) = refl

-- a call that passes on what another rejected rejects by it
pub stops : {A B : Type 0} (reading : Reading B) (first : Reading A) (next : A → Reading B) (old mid new : State) (fault : Fault)
    → GoesOn reading old (first >>= next) mid → Fails first mid new fault → Fails reading old new fault
stops {A = A} reading first next old mid new fault p q = record {
  bytes = p.bytes ++ q.bytes;
  took = took_more old mid new p.bytes q.bytes p.took q.took;
  needed = needs_more reading (first >>= next) old.offset mid.offset p.bytes q.bytes p.took.advanced p.needed p.on (needs_first first next mid.offset q.bytes q.needed);
  unfinished = λ failed. needs_still reading first next old.offset mid.offset p.bytes q.bytes p.took.advanced p.on (q.unfinished failed);
  failures = omega (arith, p.failures, q.failures);
  refused = λ own.
      let has = q.refused own in
      let found : HasFault reading old new (p.bytes ++ q.bytes) fault = record {
        rest = has.rest;
        coming = has.coming;
        gives =
            ap (λ (bytes : List ℕ). reading (tail old.offset bytes)) (append_assoc p.bytes q.bytes has.rest)
            ∙ p.on (q.bytes ++ has.rest)
            ∙ ap (λ (r : Result (A × Tail) Fault). and_then r next) has.gives;
      } in
      found;
}

-- out of memory rejects whatever is read
pub stops_memory : {A : Type 0} (reading next : Reading A) (old mid : State) → GoesOn reading old next mid → Fails reading old mid no_memory
stops_memory reading next old mid p = record {
  bytes = p.bytes;
  took = p.took;
  needed = p.needed;
  unfinished = λ failed. absurd (cc failed);
  failures = omega (arith, p.failures);
  refused = λ own. absurd (true≢false own);
}

-- an error of bytes, whatever follows them
refuses_after : {A : Type 0} (reading : Reading A) (old new : State) (bytes : List ℕ) (code place : ℕ) → HasConsumed old new bytes → NeedsEach reading old.offset bytes → new.failures ≡ old.failures
    → ((rest : List ℕ) → reading (tail old.offset (bytes ++ rest)) ≡ Err (at_byte code place)) → Fails reading old new (at_byte code place)
refuses_after reading old new bytes code place took needed same e =
    let own : is_read_fault (at_byte code place) ≡ false = and_right (code == 701) false refl in
    record {
      bytes = bytes;
      took = took;
      needed = needed;
      unfinished = λ failed. absurd (true≢false (sym failed ∙ own));
      failures = rw own (omega arith);
      refused = λ _.
          let found : HasFault reading old new bytes (at_byte code place) = record {
            rest = coming_of new.known;
            coming = is_coming new.known;
            gives = e (coming_of new.known);
          } in
          found;
    }

-- an error at the place of reading
pub refuses : {A : Type 0} (reading next : Reading A) (old new : State) (code place : ℕ) → GoesOn reading old next new
    → ((rest : List ℕ) → next (tail new.offset rest) ≡ Err (at_byte code place))
    → Fails reading old new (at_byte code place)
refuses reading next old new code place p e =
    refuses_after reading old new p.bytes code place p.took p.needed p.failures (λ rest. p.on rest ∙ e rest)

-- a field needs each of its bytes
pub field_needs : (size at : ℕ) (bytes : List ℕ) → length bytes ≤ size → NeedsEach (field size) at bytes
unfolding field
field_needs size at bytes few n lt =
    let long : length (take n bytes) ≡ n = length-take-le n bytes (omega (arith, lt)) in
    let short : nat_lt n size ≡ true = lt-ltb _ _ (omega (arith, lt, few)) in
    rw (long, short) refl

-- as many bytes as a field has
pub field_taken : (size : ℕ) (old new : State) (bytes : List ℕ) → HasConsumed old new bytes → new.failures ≡ old.failures → length bytes ≡ size
    → GoesOn (field size) old (give bytes) new
unfolding field
field_taken size old new bytes took same whole = record {
  bytes = bytes;
  took = took;
  needed = field_needs size old.offset bytes (omega (arith, whole));
  failures = same;
  on = λ rest.
      let long : nat_lt (length (bytes ++ rest)) size ≡ false = le-ltb _ _ (omega (arith, length-append bytes rest)) in
      let e : new.offset ≡ old.offset + size = omega (arith, took.advanced) in
      rw (long, take_at bytes rest size whole, drop_at bytes rest size whole, e) refl;
}

nothing_comes : (known : Option (List ℕ)) → IsAtEnd known → IfSome known (λ bytes. bytes ≡ [])
nothing_comes None ended = tt
nothing_comes (Some bytes) ended = ended

-- the source ended before a field was whole
pub field_ended : (size : ℕ) (old : State) (known : Option (List ℕ)) (offset failures : ℕ) (bytes : List ℕ) → HasConsumed old (state_at (source_state known failures) offset) bytes
    → failures ≡ old.failures → length bytes < size → IsAtEnd known
    → Fails (field size) old (state_at (source_state known failures) offset) (at_byte 305 offset)
unfolding field
field_ended size old known offset failures bytes took same short ended = record {
  bytes = bytes;
  took = took;
  needed = field_needs size old.offset bytes (omega (arith, short));
  unfinished = λ failed. absurd (cc failed);
  failures = omega arith;
  refused = λ _.
      let few : nat_lt (length (bytes ++ [])) size ≡ true = lt-ltb _ _ (omega (arith, length-append {A = ℕ} bytes [])) in
      let e : old.offset + length (bytes ++ []) ≡ offset = omega (arith, took.advanced, length-append {A = ℕ} bytes []) in
      let found : HasFault (field size) old (state_at (source_state known failures) offset) bytes (at_byte 305 offset) = record {
        rest = [];
        coming = nothing_comes known ended;
        gives = rw (few, e) refl;
      } in
      found;
}

-- a read failed before a field was whole
pub field_failed : (size : ℕ) (old new : State) (bytes : List ℕ) → HasConsumed old new bytes → new.failures ≡ old.failures + 1 → length bytes < size
    → Fails (field size) old new (nowhere 701)
unfolding field
field_failed size old new bytes took failed short = record {
  bytes = bytes;
  took = took;
  needed = field_needs size old.offset bytes (omega (arith, short));
  unfinished = λ _. let few : nat_lt (length bytes) size ≡ true = lt-ltb _ _ short in rw few refl;
  failures = failed;
  refused = λ own. absurd (true≢false own);
}

-- the front of a buffer, after a read into the rest of it
pub front_filled : (filled n : ℕ) (xs ys : List ℕ) → filled ≤ length xs → n ≤ length ys
    → take (filled + n) (put_mid filled (length xs - filled) xs ys) ≡ take filled xs ++ take n ys
front_filled filled n xs ys within few =
    let front : length (take filled xs) ≡ filled = length-take-le filled xs within in
    let split = take-append-add (take filled xs) (ys ++ post_of filled (length xs - filled) xs) n in
    ap (λ (k : ℕ). take (k + n) (put_mid filled (length xs - filled) xs ys)) (sym front) ∙ split
    ∙ ap (λ (l : List ℕ). take filled xs ++ l) (take-append-le n ys (post_of filled (length xs - filled) xs) few)

-- bytes that came after others in a buffer
pub took_into : (a b c : State) (filled n : ℕ) (xs ys : List ℕ) → filled ≤ length xs → n ≤ length ys → HasConsumed a b (take filled xs) → HasConsumed b c (take n ys)
    → HasConsumed a c (take (filled + n) (put_mid filled (length xs - filled) xs ys))
took_into a b c filled n xs ys within few p q =
    rw (front_filled filled n xs ys within few) (took_more a b c (take filled xs) (take n ys) p q)

-- a field that is checked begins with its bytes, and continues with what they say
read_field_begins : {A : Type 0} (size : ℕ) (says : List ℕ → Result A ℕ) (old : State)
    → GoesOn (read_field size says) old (field size >>= λ bytes. parsed_at old.offset (says bytes)) old
unfolding read_field
read_field_begins size says old = record { bytes = []; took = took_nothing old.known old.offset old.failures; needed = needs_none (read_field size says) old.offset; failures = refl; on = λ rest. refl }

pub read_field_stops : {A : Type 0} (size : ℕ) (says : List ℕ → Result A ℕ) (old new : State) (fault : Fault) → Fails (field size) old new fault
    → Fails (read_field size says) old new fault
read_field_stops size says old new fault p =
    stops (read_field size says) (field size) (λ bytes. parsed_at old.offset (says bytes)) old old new fault (read_field_begins size says old) p

said_of : {A : Type 0} (reading : Reading A) (old new : State) (at : ℕ) (said : Result A ℕ) → GoesOn reading old (parsed_at at said) new
    → Reads (λ (x : A). x) reading old new (at_offset at said)
said_of reading old new at (Ok x) p = p
said_of reading old new at (Err code) p = refuses reading (parsed_at at (Err code)) old new code at p (λ rest. refl)

pub read_field_done : {A : Type 0} (size : ℕ) (says : List ℕ → Result A ℕ) (bytes : List ℕ) (old new : State) → GoesOn (field size) old (give bytes) new
    → Reads (λ (x : A). x) (read_field size says) old new (at_offset old.offset (says bytes))
read_field_done size says bytes old new p =
    said_of (read_field size says) old new old.offset (says bytes)
    (passes (read_field size says) (field size) (λ (b : List ℕ). parsed_at old.offset (says b)) bytes old old new (read_field_begins size says old) p)
