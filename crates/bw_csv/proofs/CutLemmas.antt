-- A text's first record, field by field, and what it is if the text is cut after a comma.
use Rattle.std.proofs.Common.{◌≡◌, ◌∙◌, ℕ, suc, ◌+◌, ◌-◌, ◌<◌, ◌≤◌, List, [], ◌∷◌, ◌++◌}
use Rattle.std.proofs.Common.{length, take, drop, get_or, Option, Some, None, Bool, true, false}
use Rattle.std.proofs.Common.{refl, sym, ap, eqb, arith, inl, inr, append_assoc, length-append}
use Rattle.std.specs.Prelude.{◌||◌, IfSome, if◌then◌else◌, is_some}
use Rattle.std.proofs.lemmas.Bool.{cases_Bool, cond_both}
use Rattle.std.proofs.lemmas.List.{append-nil, take-append-drop, take_more}
use Rattle.csv.specs.Machine.{Read, ends_at_end, field_after, fields_after, is_end, next_record}
use Rattle.csv.specs.Machine.{step}
use Rattle.csv.specs.Reading.{default_config, is_bom, strip_bom}
use Rattle.csv.specs.declared.parser.State.{State}
use Rattle.csv.specs.declared.parser.State.TheVariants as st
use Rattle.csv.specs.declared.parser.Action.{Action}
use Rattle.csv.specs.declared.parser.Action.TheVariants as act
use Rattle.bw_csv.specs.Bare.{records_of}
use Rattle.bw_csv.specs.Fields.{HasMoreFields, IsCutAfter, IsCutRecord, IsLonger, is_field_closed}
use Rattle.bw_csv.specs.Plain.{state_of}
use Rattle.bw_csv.specs.Records.{records_in}
use Rattle.bw_csv.specs.declared.heading_end.Inside.{Inside}
use Rattle.bw_csv.specs.declared.heading_end.Inside.TheVariants.{Before, Front}
use Rattle.bw_csv.proofs.RecordLemmas.{records_in-next, records_in-none}

-- the places of a byte within a record
abbrev is_within : State → Bool
is_within st.StartField = true
is_within st.InField = true
is_within st.InQuoted = true
is_within st.AfterQuote = true
is_within _ = false

within_ends : (s : State) → is_within s ≡ true → ends_at_end s ≡ true
within_ends st.StartField w = refl
within_ends _ w = cc

-- a byte ends the record, or what follows it is within the record; after the end of a field, a
-- field begins
abbrev Continues : State × Action → Type 0
Continues p = (is_end p.1 ≡ false → is_within p.0 ≡ true) × (is_field_closed p.1 ≡ true → p.0 ≡ st.StartField)

bare_continues : (comma return feed : Bool) → Continues (if comma then (st.StartField, act.EndField)
    else if return || feed then (if return then st.AfterCr else st.StartRecord, act.EndRecord) else (st.InField, act.Copy))
bare_continues true return feed = (λ e. refl, λ e. refl)
bare_continues false true feed = (λ e. cc, λ e. cc)
bare_continues false false true = (λ e. cc, λ e. cc)
bare_continues false false false = (λ e. refl, λ e. cc)

in_bare : (c : ℕ) → Continues (step default_config st.InField c)
in_bare c = bare_continues (eqb c 44) (eqb c 13) (eqb c 10)

continues : (s : State) (c : ℕ) → is_within s ≡ true → Continues (step default_config s c)
continues st.StartField c w = cond_both (eqb c 34) _ _ Continues (λ e. (λ e. refl, λ e. cc)) (λ e. in_bare c)
continues st.InField c w = in_bare c
continues st.InQuoted c w = cond_both (eqb c 34) _ _ Continues (λ e. (λ e. refl, λ e. cc)) (λ e. (λ e. refl, λ e. cc))
continues st.AfterQuote c w = cond_both (eqb c 34) _ _ Continues (λ e. (λ e. refl, λ e. cc)) (λ e. in_bare c)
continues _ c w = absurd (cc w)

-- A record is read that has these fields and at least one more.
record ReadsMore (fields : List (List ℕ)) (read : Option Read) : Type 0 where
  pub next : List ℕ
  pub others : List (List ℕ)
  pub after : State × List ℕ
  pub is : read ≡ Some (fields ++ next ∷ others, after.0, after.1)

more_after : (a : Action) (fields : List (List ℕ)) (field : List ℕ) (read : Option Read) → ReadsMore (fields_after a fields field) read → ReadsMore fields read
more_after act.Skip fields field read reads = reads
more_after act.Copy fields field read reads = reads
more_after _ fields field read reads = record {
  next = field;
  others = reads.next ∷ reads.others;
  after = reads.after;
  is = reads.is ∙ ap (λ (fs : List (List ℕ)). Some (fs, reads.after.0, reads.after.1)) (append_assoc fields (field ∷ []) (reads.next ∷ reads.others));
}

ends_with_field : (a : Action) (fields : List (List ℕ)) (field : List ℕ) → is_end a ≡ true → fields_after a fields field ≡ fields ++ field ∷ []
ends_with_field act.EndRecord fields field e = refl
ends_with_field _ fields field e = cc

reads_more : (s : State) (fields : List (List ℕ)) (field xs : List ℕ) → is_within s ≡ true → ReadsMore fields (next_record default_config s fields field xs)
unfolding next_record
reads_more s fields field [] w = rw (within_ends s w) (record { next = field; others = []; after = (st.StartRecord, []); is = refl })
reads_more s fields field (c ∷ rest) w =
    let a = (step default_config s c).1 in
    cond_both (is_end a) _ _ (ReadsMore fields)
    (λ h. record { next = field; others = []; after = ((step default_config s c).0, rest); is = rw (ends_with_field a fields field h) refl })
    (λ h. more_after a fields field _
    (reads_more (step default_config s c).0 (fields_after a fields field) (field_after a c field) rest ((continues s c w).0 h)))

-- So many fields of a text's first record are before a place of the text, and this is where the
-- byte there stands.
pub record Begins (text : List ℕ) (i : ℕ) (inside : Inside) (count : ℕ) : Type 0 where
  pub fields : List (List ℕ)
  pub field : List ℕ
  pub many : length fields ≡ count
  pub within_limit : count ≤ i
  pub reads : (rest : List ℕ) → next_record default_config st.StartRecord [] [] (take i text ++ rest) ≡ next_record default_config (state_of inside) fields field rest

pub begins_nothing : (text : List ℕ) → Begins text 0 Before 0
begins_nothing text = record { fields = []; field = []; many = refl; within_limit = omega arith; reads = λ rest. refl }

step_reads : (s : State) (fields : List (List ℕ)) (field : List ℕ) (c : ℕ) (rest : List ℕ) → is_end (step default_config s c).1 ≡ false
    → next_record default_config s fields field (c ∷ rest) ≡ next_record default_config (step default_config s c).0 (fields_after (step default_config s c).1 fields field) (field_after (step default_config s c).1 c field) rest
unfolding next_record
step_reads s fields field c rest e = rw e refl

one_more : (text : List ℕ) (i : ℕ) (rest : List ℕ) → i < length text → take (i + 1) text ++ rest ≡ take i text ++ get_or text i 0 ∷ rest
one_more text i rest h = rw (take_more text i 0 h) (append_assoc (take i text) (get_or text i 0 ∷ []) rest)

reads_step : (text : List ℕ) (i : ℕ) (inside : Inside) (count : ℕ) (b : Begins text i inside count) → i < length text
    → is_end (step default_config (state_of inside) (get_or text i 0)).1 ≡ false → (rest : List ℕ)
    → next_record default_config st.StartRecord [] [] (take (i + 1) text ++ rest)
    ≡ next_record default_config (step default_config (state_of inside) (get_or text i 0)).0 (fields_after (step default_config (state_of inside) (get_or text i 0)).1 b.fields b.field) (field_after (step default_config (state_of inside) (get_or text i 0)).1 (get_or text i 0) b.field) rest
reads_step text i inside count b h e rest =
    ap (λ (xs : List ℕ). next_record default_config st.StartRecord [] [] xs) (one_more text i rest h)
    ∙ b.reads (get_or text i 0 ∷ rest) ∙ step_reads (state_of inside) b.fields b.field (get_or text i 0) rest e

-- a byte that ends no field
same_fields : (a : Action) (fields : List (List ℕ)) (field : List ℕ) → is_field_closed a ≡ false → is_end a ≡ false → fields_after a fields field ≡ fields
same_fields act.Skip fields field e f = refl
same_fields _ fields field e f = cc

pub begins_next : (text : List ℕ) (i : ℕ) (inside next : Inside) (count : ℕ) → Begins text i inside count → i < length text
    → is_end (step default_config (state_of inside) (get_or text i 0)).1 ≡ false → is_field_closed (step default_config (state_of inside) (get_or text i 0)).1 ≡ false
    → state_of next ≡ (step default_config (state_of inside) (get_or text i 0)).0 → Begins text (i + 1) next count
begins_next text i inside next count b h e f s =
    let a = (step default_config (state_of inside) (get_or text i 0)).1 in
    record {
      fields = b.fields;
      field = field_after a (get_or text i 0) b.field;
      many = b.many;
      within_limit = let few = b.within_limit in omega arith;
      reads = λ rest. reads_step text i inside count b h e rest ∙ rw (s, same_fields a b.fields b.field f e) refl;
    }

-- a byte that ends one
closed_is : (a : Action) (fields : List (List ℕ)) (field : List ℕ) (c : ℕ) → is_field_closed a ≡ true → (fields_after a fields field ≡ fields ++ field ∷ []) × (field_after a c field ≡ [])
closed_is act.EndField fields field c e = (refl, refl)
closed_is _ fields field c e = absurd (cc e)

closed_ends : (a : Action) → is_field_closed a ≡ true → is_end a ≡ false
closed_ends act.EndField e = refl
closed_ends _ e = cc

pub begins_field : (text : List ℕ) (i : ℕ) (inside next : Inside) (count : ℕ) → Begins text i inside count → i < length text
    → is_field_closed (step default_config (state_of inside) (get_or text i 0)).1 ≡ true
    → state_of next ≡ (step default_config (state_of inside) (get_or text i 0)).0 → Begins text (i + 1) next (count + 1)
begins_field text i inside next count b h f s =
    let c = get_or text i 0 in
    let a = (step default_config (state_of inside) c).1 in
    let is = closed_is a b.fields b.field c f in
    record {
      fields = b.fields ++ b.field ∷ [];
      field = [];
      many = length-append b.fields (b.field ∷ []) ∙ ap (λ (n : ℕ). n + 1) b.many;
      within_limit = let few = b.within_limit in omega arith;
      reads = λ rest. reads_step text i inside count b h (closed_ends a f) rest ∙ rw (s, is.0, is.1) refl;
    }

-- a field begins after it
fronts : (inside : Inside) (c : ℕ) → is_field_closed (step default_config (state_of inside) c).1 ≡ true
    → (step default_config (state_of inside) c).0 ≡ st.StartField
fronts Before c = cond_both (eqb c 13 || eqb c 10) _ _ (λ (p : State × Action). is_field_closed p.1 ≡ true → p.0 ≡ st.StartField)
    (λ e f. cc) (λ e. (continues st.StartField c refl).1)
fronts inside c = (continues (state_of inside) c refl).1

-- after the last of this many fields the text is cut
is_cut : (count : ℕ) (text cut rest : List ℕ) (fields : List (List ℕ)) → length fields ≡ count
    → next_record default_config st.StartRecord [] [] text ≡ next_record default_config st.StartField fields [] rest
    → next_record default_config st.StartRecord [] [] cut ≡ next_record default_config st.StartField fields [] []
    → IsCutRecord count (records_in st.StartRecord (Some text)) (records_in st.StartRecord (Some cut))
unfolding next_record
is_cut count text cut rest fields many whole short =
    let r = reads_more st.StartField fields [] rest refl in
    record {
      first = fields;
      many = many;
      next = r.next;
      others = r.others;
      more = records_in r.after.0 (Some r.after.1);
      whole_is = records_in-next st.StartRecord text (fields ++ r.next ∷ r.others, r.after.0, r.after.1) (whole ∙ r.is);
      cut_is = records_in-next st.StartRecord cut (fields ++ [] ∷ [], st.StartRecord, []) short
          ∙ ap (λ (more : List (List (List ℕ))). (fields ++ [] ∷ []) ∷ more) (records_in-none st.StartRecord [] refl);
    }

pub has_more : (text : List ℕ) (i : ℕ) (inside : Inside) (closed : ℕ) → Begins text i inside closed → i < length text
    → is_field_closed (step default_config (state_of inside) (get_or text i 0)).1 ≡ true → HasMoreFields (closed + 1) text (i + 1)
unfolding begins_field
has_more text i inside closed b h f =
    let all = begins_field text i inside Front closed b h f (sym (fronts inside (get_or text i 0) f)) in
    let short = ap (λ (xs : List ℕ). next_record default_config st.StartRecord [] [] xs) (sym (append-nil (take (i + 1) text))) ∙ all.reads [] in
    let whole = ap (λ (xs : List ℕ). next_record default_config st.StartRecord [] [] xs) (sym (take-append-drop (i + 1) text)) ∙ all.reads (drop (i + 1) text) in
    (omega arith, omega arith, is_cut (closed + 1) text (take (i + 1) text) (drop (i + 1) text) (b.fields ++ b.field ∷ []) all.many whole short)

-- so its first record is longer
pub longer : (count end : ℕ) (text : List ℕ) → HasMoreFields count text end → IsLonger count (records_in st.StartRecord (Some text))
longer count end text has =
    let cut = has.2 in
    (cut.first ++ cut.next ∷ cut.others, cut.more, cut.whole_is, let many = length-append cut.first (cut.next ∷ cut.others) in let first = cut.many in omega arith)

pub longer_if_some : (count : ℕ) (text : List ℕ) (end : Option ℕ) → IfSome end (λ n. HasMoreFields count text n) → is_some end ≡ true
    → IsLonger count (records_in st.StartRecord (Some text))
longer_if_some count text None has some = absurd (cc some)
longer_if_some count text (Some end) has some = longer count end text has

-- the byte order mark stays
short_unmarked : (text : List ℕ) (end : ℕ) → strip_bom text ≡ text → strip_bom (take end text) ≡ take end text
unfolding strip_bom
short_unmarked [] (suc n) e = refl
short_unmarked (a ∷ []) (suc (suc n)) e = refl
short_unmarked (a ∷ b ∷ []) (suc (suc (suc n))) e = refl
short_unmarked (a ∷ b ∷ c ∷ rest) (suc (suc (suc n))) e = elim (cases_Bool (is_bom a b c)) [
  | inl m ↦ absurd (let f : rest ≡ a ∷ b ∷ c ∷ rest = rw m at e in
      let same : length rest ≡ suc (suc (suc (length rest))) = ap length f in omega arith)
  | inr m ↦ rw m refl
]
short_unmarked _ _ e = refl

unmarked_cut : (text : List ℕ) (end : ℕ) → strip_bom text ≡ text → strip_bom (take (length text - length text + end) text) ≡ take end text
unmarked_cut text end e = let same : length text - length text + end ≡ end = omega arith in rw same (short_unmarked text end e)

pub unmarked_take : (text : List ℕ) (end : ℕ) → strip_bom (take (length text - length (strip_bom text) + end) text) ≡ take end (strip_bom text)
unfolding strip_bom
unmarked_take (a ∷ b ∷ c ∷ rest) end = elim (cases_Bool (is_bom a b c)) [
  | inl m ↦ (let three : length (a ∷ b ∷ c ∷ rest) - length rest + end ≡ suc (suc (suc end)) = omega arith in rw (m, three, m) refl)
  | inr m ↦ rw m (unmarked_cut (a ∷ b ∷ c ∷ rest) end (rw m refl))
]
unmarked_take text end = unmarked_cut text end refl

pub strip_less : (text : List ℕ) → length (strip_bom text) ≤ length text
unfolding strip_bom
strip_less (a ∷ b ∷ c ∷ rest) = cond_both (is_bom a b c) _ _ (λ (left : List ℕ). length left ≤ length (a ∷ b ∷ c ∷ rest))
    (λ e. omega arith) (λ e. omega arith)
strip_less _ = omega arith

pub cuts : (count end : ℕ) (text : List ℕ) → HasMoreFields count (strip_bom text) end
    → IsCutAfter count (records_of text) (records_of (take (length text - length (strip_bom text) + end) text))
cuts count end text has = rw (unmarked_take text end) (inr has.2)
