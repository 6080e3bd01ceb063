-- Where the first record of a text ends.
use Rattle.std.proofs.Common.{◌≡◌, ◌∙◌, ℕ, ◌+◌, ◌<◌, ◌≤◌, List, [], ◌∷◌, ◌++◌, length, drop, Some}
use Rattle.std.proofs.Common.{get_or, None, true, false, refl, sym, eqb, arith}
use Rattle.csv.specs.Machine.{Read, field_after, fields_after, is_end, next_record, step}
use Rattle.csv.specs.Reading.{default_config, is_bom, strip_bom}
use Rattle.csv.specs.declared.parser.State.TheVariants as st
use Rattle.bw_csv.specs.Plain.{ends_line, state_of}
use Rattle.bw_csv.specs.Records.{records_in}
use Rattle.bw_csv.specs.declared.heading_end.Inside.{Inside}
use Rattle.bw_csv.specs.declared.heading_end.Inside.TheVariants.{Before, Quoted}
use Rattle.bw_csv.proofs.PlainRecords.{line_end_is, records-after_return, records-skip}
use Rattle.bw_csv.proofs.RecordLemmas.{records_in-next, records_in-none}

-- The first record of a text continues with this byte.
pub record GoesOn (text rest : List ℕ) (inside : Inside) : Type 0 where
  pub fields : List (List ℕ)
  pub field : List ℕ
  pub reads : next_record default_config st.StartRecord [] [] text ≡ next_record default_config (state_of inside) fields field rest

pub goes-first : (text : List ℕ) → GoesOn text text Before
goes-first text = record { fields = []; field = []; reads = refl }

pub goes-next : (text rest : List ℕ) (c : ℕ) (inside next : Inside) → GoesOn text (c ∷ rest) inside
    → is_end (step default_config (state_of inside) c).1 ≡ false → state_of next ≡ (step default_config (state_of inside) c).0 → GoesOn text rest next
unfolding next_record
goes-next text rest c inside next on e s =
    let act = (step default_config (state_of inside) c).1 in
    record {
      fields = fields_after act on.fields on.field;
      field = field_after act c on.field;
      reads = on.reads ∙ rw (e, s) refl;
    }

-- what is to come after the byte that ends it
rest_after_return : (inside : Inside) (rest : List ℕ) → is_end (step default_config (state_of inside) 13).1 ≡ true
    → records_in (step default_config (state_of inside) 13).0 (Some rest) ≡ records_in st.StartRecord (Some (13 ∷ rest))
rest_after_return Before rest e = absurd (cc e)
rest_after_return Quoted rest e = absurd (cc e)
rest_after_return _ rest e = records-after_return rest ∙ sym (records-skip 13 rest refl)

rest_after_feed : (inside : Inside) (rest : List ℕ) → is_end (step default_config (state_of inside) 10).1 ≡ true
    → records_in (step default_config (state_of inside) 10).0 (Some rest) ≡ records_in st.StartRecord (Some (10 ∷ rest))
rest_after_feed Before rest e = absurd (cc e)
rest_after_feed Quoted rest e = absurd (cc e)
rest_after_feed _ rest e = sym (records-skip 10 rest refl)

rest_after_end : (inside : Inside) (c : ℕ) (rest : List ℕ) → ends_line c ≡ true → is_end (step default_config (state_of inside) c).1 ≡ true
    → records_in (step default_config (state_of inside) c).0 (Some rest) ≡ records_in st.StartRecord (Some (c ∷ rest))
rest_after_end inside c rest line =
    line_end_is (λ d. is_end (step default_config (state_of inside) d).1 ≡ true → records_in (step default_config (state_of inside) d).0 (Some rest) ≡ records_in st.StartRecord (Some (d ∷ rest)))
    c (eqb c 13) (eqb c 10) refl refl line (rest_after_return inside rest) (rest_after_feed inside rest)

-- the first record of a text is read once
same_rest : (text : List ℕ) (p : Read) (fields : List (List ℕ)) (more : List (List (List ℕ))) → next_record default_config st.StartRecord [] [] text ≡ Some p
    → records_in st.StartRecord (Some text) ≡ fields ∷ more → records_in p.1 (Some p.2) ≡ more
same_rest text p fields more e all =
    let both : p.0 ∷ records_in p.1 (Some p.2) ≡ fields ∷ more = sym (records_in-next st.StartRecord text p e) ∙ all in
    cc both

ends_with : (text rest : List ℕ) (c : ℕ) (inside : Inside) (on : GoesOn text (c ∷ rest) inside) → is_end (step default_config (state_of inside) c).1 ≡ true
    → next_record default_config st.StartRecord [] [] text ≡ Some (fields_after (step default_config (state_of inside) c).1 on.fields on.field, (step default_config (state_of inside) c).0, rest)
unfolding next_record
ends_with text rest c inside on e = on.reads ∙ rw e refl

pub goes-end : (text left : List ℕ) (i : ℕ) (inside : Inside) (fields : List (List ℕ)) (more : List (List (List ℕ)))
    → GoesOn text (get_or text i 0 ∷ drop (i + 1) text) inside → ends_line (get_or text i 0) ≡ true → is_end (step default_config (state_of inside) (get_or text i 0)).1 ≡ true
    → left ≡ get_or text i 0 ∷ drop (i + 1) text
    → records_in st.StartRecord (Some text) ≡ fields ∷ more → records_in st.StartRecord (Some left) ≡ more
goes-end text left i inside fields more on line e l all =
    rw l (sym (rest_after_end inside (get_or text i 0) (drop (i + 1) text) line e)
    ∙ same_rest text _ fields more (ends_with text (drop (i + 1) text) (get_or text i 0) inside on e) all)

-- the text ends with it
no_record : (text : List ℕ) (fields : List (List ℕ)) (more : List (List (List ℕ))) → next_record default_config st.StartRecord [] [] text ≡ None
    → records_in st.StartRecord (Some text) ≡ fields ∷ more → records_in st.StartRecord (Some []) ≡ more
no_record text fields more e all = let none : [] ≡ fields ∷ more = sym (records_in-none st.StartRecord text e) ∙ all in absurd (cc none)

pub goes-last : (text : List ℕ) (inside : Inside) (fields : List (List ℕ)) (more : List (List (List ℕ))) → GoesOn text [] inside
    → records_in st.StartRecord (Some text) ≡ fields ∷ more → records_in st.StartRecord (Some []) ≡ more
unfolding next_record
goes-last text Before fields more on all = no_record text fields more on.reads all
goes-last text _ fields more on all = same_rest text (on.fields ++ on.field ∷ [], st.StartRecord, []) fields more on.reads all

-- a byte order mark
pub short_unmarked : (text : List ℕ) → length text < 3 → text ≡ strip_bom text
unfolding strip_bom
short_unmarked (a ∷ b ∷ c ∷ rest) h = absurd (omega arith)
short_unmarked _ h = refl

pub other_unmarked : (text : List ℕ) → is_bom (get_or text 0 0) (get_or text 1 0) (get_or text 2 0) ≡ false → text ≡ strip_bom text
unfolding strip_bom
other_unmarked (a ∷ b ∷ c ∷ rest) h = rw h refl
other_unmarked _ h = refl

pub marked : (text : List ℕ) → 3 ≤ length text → is_bom (get_or text 0 0) (get_or text 1 0) (get_or text 2 0) ≡ true → drop 3 text ≡ strip_bom text
unfolding strip_bom
marked (a ∷ b ∷ c ∷ rest) h e = rw e refl
marked _ h e = absurd (omega arith)

pub ruleset byte_order_marks = (short_unmarked, other_unmarked, marked)
