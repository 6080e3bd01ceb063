-- The records of a text of records whose fields show themselves are these records.
use Rattle.std.proofs.Common.{◌≡◌, ◌∙◌, ℕ, List, [], ◌∷◌, ◌++◌, Some, Bool, true, false, not, refl}
use Rattle.std.proofs.Common.{ap, eqb, append_assoc, ◌||◌}
use Rattle.std.specs.List.{join_with_byte, list_all}
use Rattle.std.proofs.lemmas.Bool.{and_parts}
use Rattle.csv.specs.Machine.{next_record}
use Rattle.csv.specs.Reading.{default_config, strip_bom}
use Rattle.csv.specs.declared.parser.State.TheVariants as st
use Rattle.bw_answer.specs.Answer.{csv_text, record_text}
use Rattle.bw_csv.specs.Plain.{ends_line, is_plain}
use Rattle.bw_csv.specs.Records.{records_in}
use Rattle.bw_csv.proofs.PlainRecords.{begins, field-comma, field-end, records-skip}
use Rattle.bw_csv.proofs.RecordLemmas.{records_in-none}
use Rattle.bw_laws.proofs.SpelledValues.{shows}

shown_plain : (field : List ℕ) → shows field ≡ true → list_all is_plain field ≡ true
shown_plain [] e = absurd (cc e)
shown_plain (c ∷ cs) e = e

no_line_end : (comma line quote : Bool) → not ((comma || line) || quote) ≡ true → line ≡ false
no_line_end false false quote e = refl
no_line_end _ _ quote e = absurd (cc e)

-- the fields from one on, of a record of which others were read
fields_read : (text : List ℕ) (done : List (List ℕ)) (field : List ℕ) (more : List (List ℕ)) (rest : List ℕ) → list_all shows (field ∷ more) ≡ true
    → next_record default_config st.StartRecord [] [] text ≡ next_record default_config st.StartField done [] (record_text (field ∷ more) ++ rest)
    → records_in st.StartRecord (Some text) ≡ (done ++ field ∷ more) ∷ records_in st.StartRecord (Some rest)
fields_read text done field [] rest e reads =
    let plain = shown_plain field (and_parts (shows field) true e).0 in
    let split : record_text (field ∷ []) ++ rest ≡ field ++ 10 ∷ rest = append_assoc field (10 ∷ []) rest in
    let here = reads ∙ ap (λ (l : List ℕ). next_record default_config st.StartField done [] l) split in
    field-end text done field (10 ∷ rest) plain refl here
    ∙ ap (λ (l : List (List (List ℕ))). (done ++ field ∷ []) ∷ l) (records-skip 10 rest refl)
fields_read text done field (next ∷ more) rest e reads =
    let parts = and_parts (shows field) (list_all shows (next ∷ more)) e in
    let split : record_text (field ∷ next ∷ more) ++ rest ≡ field ++ 44 ∷ (record_text (next ∷ more) ++ rest) =
    ap (λ (l : List ℕ). l ++ rest) (append_assoc field (44 ∷ join_with_byte 44 (next ∷ more)) (10 ∷ [])) ∙ append_assoc field (44 ∷ record_text (next ∷ more)) rest in
    let here = reads ∙ ap (λ (l : List ℕ). next_record default_config st.StartField done [] l) split ∙ field-comma done field (record_text (next ∷ more) ++ rest) (shown_plain field parts.0) in
    fields_read text (done ++ field ∷ []) next more rest parts.1 here
    ∙ ap (λ (l : List (List ℕ)). l ∷ records_in st.StartRecord (Some rest)) (append_assoc done (field ∷ []) (next ∷ more))

-- a record of a field or more, each of which shows itself
abbrev pub is_record : List (List ℕ) → Bool
is_record [] = false
is_record (field ∷ fields) = list_all shows (field ∷ fields)

begun : (c : ℕ) (cs : List ℕ) (more : List (List ℕ)) (rest : List ℕ) → ends_line c ≡ false
    → next_record default_config st.StartRecord [] [] (record_text ((c ∷ cs) ∷ more) ++ rest) ≡ next_record default_config st.StartField [] [] (record_text ((c ∷ cs) ∷ more) ++ rest)
begun c cs [] rest e = begins c _ e
begun c cs (next ∷ more) rest e = begins c _ e

pub record_read : (fields : List (List ℕ)) (rest : List ℕ) → is_record fields ≡ true
    → records_in st.StartRecord (Some (record_text fields ++ rest)) ≡ fields ∷ records_in st.StartRecord (Some rest)
record_read ((c ∷ cs) ∷ more) rest e =
    let plain = and_parts (is_plain c) (list_all is_plain cs) (and_parts (shows (c ∷ cs)) (list_all shows more) e).0 in
    fields_read (record_text ((c ∷ cs) ∷ more) ++ rest) [] (c ∷ cs) more rest e
    (begun c cs more rest (no_line_end (eqb c 44) (ends_line c) (eqb c 34) plain.0))
record_read _ rest e = absurd (cc e)

no_records : records_in st.StartRecord (Some []) ≡ []
unfolding next_record
no_records = records_in-none st.StartRecord [] refl

pub records_read : (all : List (List (List ℕ))) → list_all is_record all ≡ true → records_in st.StartRecord (Some (csv_text all)) ≡ all
unfolding csv_text
records_read [] e = no_records
records_read (fields ∷ more) e =
    let parts = and_parts (is_record fields) (list_all is_record more) e in
    record_read fields (csv_text more) parts.0 ∙ ap (λ (l : List (List (List ℕ))). fields ∷ l) (records_read more parts.1)

-- no byte order mark begins with another byte
unmarked_text : (c : ℕ) (rest : List ℕ) → eqb c 0xEF ≡ false → strip_bom (c ∷ rest) ≡ c ∷ rest
unfolding strip_bom
unmarked_text c (d ∷ f ∷ rest) e = rw e refl
unmarked_text c _ e = refl

pub unmarked : (c : ℕ) (cs : List ℕ) (fields : List (List ℕ)) (more : List (List (List ℕ))) → eqb c 0xEF ≡ false
    → strip_bom (csv_text (((c ∷ cs) ∷ fields) ∷ more)) ≡ csv_text (((c ∷ cs) ∷ fields) ∷ more)
unfolding csv_text
unmarked c cs [] more e = unmarked_text c _ e
unmarked c cs (next ∷ fields) more e = unmarked_text c _ e
