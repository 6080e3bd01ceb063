-- How the csv crate's records are read of a text without quotation marks.
use Rattle.std.proofs.Common.{◌≡◌, ◌∙◌, ℕ, List, [], ◌∷◌, ◌++◌, Option, Some, None, Bool, true}
use Rattle.std.proofs.Common.{false, length, drop, get_or, refl, sym, ap, eqb, append_assoc, arith}
use Rattle.std.proofs.Common.{◌||◌, not, append-nil}
use Rattle.std.specs.List.{list_all}
use Rattle.std.proofs.lemmas.Bool.{eqb-true, and_parts}
use Rattle.std.proofs.lemmas.Bool.Decides.{nat_tests}
use Rattle.csv.specs.Machine.{Read, next_record, step}
use Rattle.csv.specs.Reading.{default_config, strip_bom}
use Rattle.csv.specs.declared.parser.State.{State}
use Rattle.csv.specs.declared.parser.State.TheVariants as st
use Rattle.csv.specs.declared.parser.Action.TheVariants as act
use Rattle.bw_csv.specs.Plain.{ends_field, ends_line, is_field_end, is_line_end, is_plain}
use Rattle.bw_csv.specs.Records.{records_in}
use Rattle.bw_csv.proofs.RecordLemmas.{records_in-next, records_in-none}

-- a plain byte joins the field
plain_is : (a b c d : Bool) → not ((a || (b || c)) || d) ≡ true → (a ≡ false) × (b ≡ false) × (c ≡ false) × (d ≡ false)
plain_is false false false false e = (refl, refl, refl, refl)
plain_is _ _ _ _ e = absurd (cc e)

joins : (c : ℕ) → is_plain c ≡ true → (step default_config st.InField c ≡ (st.InField, act.Copy)) × (step default_config st.StartField c ≡ (st.InField, act.Copy))
joins c e = let is = plain_is (eqb c 44) (eqb c 13) (eqb c 10) (eqb c 34) e in (rw (is.0, is.1, is.2) refl, rw (is.3, is.0, is.1, is.2) refl)

-- plain bytes join it
run : (fields : List (List ℕ)) (field f rest : List ℕ) → list_all is_plain f ≡ true
    → next_record default_config st.InField fields field (f ++ rest) ≡ next_record default_config st.InField fields (field ++ f) rest
unfolding next_record
run fields field [] rest e = rw (append-nil field) refl
run fields field (c ∷ f) rest e =
    let is = and_parts (is_plain c) (list_all is_plain f) e in
    rw ((joins c is.0).0) (run fields (field ++ c ∷ []) f rest is.1 ∙ rw (append_assoc field (c ∷ []) f) refl)

-- nor does it matter at the end of a field whether it has a byte
unquoted : (c : ℕ) → ends_field c ≡ true → eqb c 34 ≡ false
unquoted c e = grind (arith, nat_tests)

-- a field up to its end
pub field-run : (fields : List (List ℕ)) (f rest : List ℕ) → list_all is_plain f ≡ true → is_field_end rest ≡ true
    → next_record default_config st.StartField fields [] (f ++ rest) ≡ next_record default_config st.InField fields f rest
unfolding next_record
field-run fields [] [] e end = refl
field-run fields [] (c ∷ rest) e end = rw (unquoted c end) refl
field-run fields (c ∷ f) rest e end =
    let is = and_parts (is_plain c) (list_all is_plain f) e in
    rw ((joins c is.0).1) (run fields (c ∷ []) f rest is.1)

pub field-comma : (fields : List (List ℕ)) (f rest : List ℕ) → list_all is_plain f ≡ true
    → next_record default_config st.StartField fields [] (f ++ 44 ∷ rest) ≡ next_record default_config st.StartField (fields ++ f ∷ []) [] rest
unfolding next_record
field-comma fields f rest e = field-run fields f (44 ∷ rest) e refl

-- the records from one place are those from another, if the next one is
same_next : (s t : State) (xs ys : List ℕ) (o : Option Read) → next_record default_config t [] [] ys ≡ o
    → next_record default_config s [] [] xs ≡ o → records_in s (Some xs) ≡ records_in t (Some ys)
same_next s t xs ys None f e = records_in-none s xs e ∙ sym (records_in-none t ys f)
same_next s t xs ys (Some p) f e = records_in-next s xs p e ∙ sym (records_in-next t ys p f)

pub same_records : (s t : State) (xs ys : List ℕ) → next_record default_config s [] [] xs ≡ next_record default_config t [] [] ys
    → records_in s (Some xs) ≡ records_in t (Some ys)
same_records s t xs ys e = same_next s t xs ys (next_record default_config t [] [] ys) refl e

-- a line's end before a record says nothing
pub line_end_is : (P : ℕ → Type 0) (c : ℕ) (a b : Bool) → eqb c 13 ≡ a → eqb c 10 ≡ b → (a || b) ≡ true → P 13 → P 10 → P c
line_end_is P c true b e f h one two = rw (eqb-true c 13 e) one
line_end_is P c false true e f h one two = rw (eqb-true c 10 f) two
line_end_is P c false false e f h one two = absurd (cc h)

skips : (c : ℕ) (rest : List ℕ) → ends_line c ≡ true → next_record default_config st.StartRecord [] [] (c ∷ rest) ≡ next_record default_config st.StartRecord [] [] rest
unfolding next_record
skips c rest e = line_end_is (λ d. next_record default_config st.StartRecord [] [] (d ∷ rest) ≡ next_record default_config st.StartRecord [] [] rest)
    c (eqb c 13) (eqb c 10) refl refl e refl refl

pub records-skip : (c : ℕ) (rest : List ℕ) → ends_line c ≡ true → records_in st.StartRecord (Some (c ∷ rest)) ≡ records_in st.StartRecord (Some rest)
records-skip c rest e = same_records st.StartRecord st.StartRecord (c ∷ rest) rest (skips c rest e)

pub records-after : (text rest : List ℕ) → eqb (length text) 0 ≡ false → ends_line (get_or text 0 0) ≡ true → rest ≡ drop 1 text
    → records_in st.StartRecord (Some text) ≡ records_in st.StartRecord (Some rest)
records-after [] rest some e r = absurd (cc some)
records-after (c ∷ cs) rest some e r = rw r (records-skip c cs e)

-- nor does it matter whether a carriage return was before
returned : (c : ℕ) (rest : List ℕ) (feed : Bool) → eqb c 10 ≡ feed → next_record default_config st.AfterCr [] [] (c ∷ rest) ≡ next_record default_config st.StartRecord [] [] (c ∷ rest)
unfolding next_record
returned c rest true e = rw (eqb-true c 10 e) refl
returned c rest false e = rw e refl

after_return : (xs : List ℕ) → next_record default_config st.AfterCr [] [] xs ≡ next_record default_config st.StartRecord [] [] xs
unfolding next_record
after_return [] = refl
after_return (c ∷ rest) = returned c rest (eqb c 10) refl

pub records-after_return : (xs : List ℕ) → records_in st.AfterCr (Some xs) ≡ records_in st.StartRecord (Some xs)
records-after_return xs = same_records st.AfterCr st.StartRecord xs xs (after_return xs)

-- a record begins with a field
pub begins : (c : ℕ) (rest : List ℕ) → ends_line c ≡ false
    → next_record default_config st.StartRecord [] [] (c ∷ rest) ≡ next_record default_config st.StartField [] [] (c ∷ rest)
unfolding next_record
begins c rest e = rw e refl

-- the last field of a record, and the records after it
pub field-end : (text : List ℕ) (fields : List (List ℕ)) (f rest : List ℕ) → list_all is_plain f ≡ true → is_line_end rest ≡ true
    → next_record default_config st.StartRecord [] [] text ≡ next_record default_config st.StartField fields [] (f ++ rest)
    → records_in st.StartRecord (Some text) ≡ (fields ++ f ∷ []) ∷ records_in st.StartRecord (Some rest)
unfolding next_record
field-end text fields f [] plain e read = records_in-next st.StartRecord text (fields ++ f ∷ [], st.StartRecord, []) (read ∙ field-run fields f [] plain refl)
field-end text fields f (c ∷ rest) plain e read = line_end_is
    (λ d. next_record default_config st.StartRecord [] [] text ≡ next_record default_config st.StartField fields [] (f ++ d ∷ rest)
    → records_in st.StartRecord (Some text) ≡ (fields ++ f ∷ []) ∷ records_in st.StartRecord (Some (d ∷ rest)))
    c (eqb c 13) (eqb c 10) refl refl e
    (λ read. records_in-next st.StartRecord text (fields ++ f ∷ [], st.AfterCr, rest) (read ∙ field-run fields f (13 ∷ rest) plain refl)
    ∙ ap (λ (more : List (List (List ℕ))). (fields ++ f ∷ []) ∷ more) (records-after_return rest ∙ sym (records-skip 13 rest refl)))
    (λ read. records_in-next st.StartRecord text (fields ++ f ∷ [], st.StartRecord, rest) (read ∙ field-run fields f (10 ∷ rest) plain refl)
    ∙ ap (λ (more : List (List (List ℕ))). (fields ++ f ∷ []) ∷ more) (sym (records-skip 10 rest refl))) read

-- no byte order mark begins with a line's end
pub unmarked : (text : List ℕ) → is_line_end text ≡ true → strip_bom text ≡ text
unfolding strip_bom
unmarked (c ∷ d ∷ f ∷ rest) e = line_end_is (λ b. strip_bom (b ∷ d ∷ f ∷ rest) ≡ b ∷ d ∷ f ∷ rest) c (eqb c 13) (eqb c 10) refl refl e refl refl
unmarked _ e = refl
