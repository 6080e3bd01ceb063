-- A text goes on at the record after its rows.
use Rattle.std.proofs.Common.{◌≡◌, ◌∙◌, refl, sym, ap, subst, ℕ, zero, suc, ◌+◌, ◌-◌, Bool, true, false, ◌||◌, List, [], ◌∷◌, ◌++◌, length, drop, Some, None, Option, arith, add-one, append_assoc, append-nil, length-append, eqb, inl, inr, ◌⊎◌}
use Rattle.std.proofs.lemmas.Bool.{cond_both}
use Rattle.std.proofs.Math.Seq.{drop-append-add}
use Rattle.csv.specs.Machine.{Read, ends_at_end, ends_with, field_after, fields_after, in_field, is_byte, is_end, next_record, start_field, start_record, step}
use Rattle.csv.specs.Reading.{is_bom, records_from, records_next, strip_bom}
use Rattle.csv.specs.declared.parser.Action.{Action}
use Rattle.csv.specs.declared.parser.State.{State}
use Rattle.csv.specs.declared.parser.State.TheVariants as st
use Rattle.csv.specs.declared.parser.Terminator.TheVariants as term
use Rattle.bw_encode.specs.declared.dialect.Dialect.{Dialect}
use Rattle.bw_encode.specs.Dialect.{config_of, records_in, records_of}
use Rattle.bw_encode.specs.Rest.{after_read, bytes_read, text_after, text_of}
use Rattle.bw_encode.proofs.FuelLemmas.{records_in-next, records_in-none}

-- a record may begin in this state
abbrev Begins : State → Type 0
Begins s = (s ≡ st.StartRecord) ⊎ (s ≡ st.AfterCr)

-- if a record ends, another may begin
abbrev Ends : State × Action → Type 0
Ends p = is_end p.1 ≡ true → Begins p.0

module _ (dialect : Dialect) where
  in_field-ends : (c : ℕ) → Ends (in_field (config_of dialect) c)
  in_field-ends c = cond_both (eqb c dialect.separator) _ _ Ends (λ h e. absurd (cc e))
      (λ h. cond_both (ends_with term.CRLF c) _ _ Ends (λ k e. cond_both (eqb c 13) _ _ Begins (λ m. inr refl) (λ m. inl refl)) (λ k e. absurd (cc e)))

  start_field-ends : (c : ℕ) → Ends (start_field (config_of dialect) c)
  start_field-ends c = cond_both (eqb c dialect.quote) _ _ Ends (λ h e. absurd (cc e)) (λ h. in_field-ends c)

  start_record-ends : (c : ℕ) → Ends (start_record (config_of dialect) c)
  start_record-ends c = cond_both (ends_with term.CRLF c) _ _ Ends (λ h e. absurd (cc e))
      (λ h. cond_both (is_byte dialect.comment c) _ _ Ends (λ k e. absurd (cc e)) (λ k. start_field-ends c))

  step-ends : (s : State) (c : ℕ) → Ends (step (config_of dialect) s c)
  step-ends st.StartRecord c = start_record-ends c
  step-ends st.StartField c = start_field-ends c
  step-ends st.InField c = in_field-ends c
  step-ends st.InQuoted c = cond_both (eqb c dialect.quote) _ _ Ends (λ h e. absurd (cc e))
      (λ h. cond_both (is_byte dialect.escape c) _ _ Ends (λ k e. absurd (cc e)) (λ k e. absurd (cc e)))
  step-ends st.InEscape c = λ e. absurd (cc e)
  step-ends st.AfterQuote c = cond_both (eqb c dialect.quote) _ _ Ends (λ h e. absurd (cc e)) (λ h. in_field-ends c)
  step-ends st.InComment c = cond_both (eqb c 10) _ _ Ends (λ h e. absurd (cc e)) (λ h e. absurd (cc e))
  step-ends st.AfterCr c = cond_both (eqb c 10) _ _ Ends (λ h e. absurd (cc e)) (λ h. start_record-ends c)

  next-begins : (s : State) (fields : List (List ℕ)) (field xs : List ℕ) (p : Read) → next_record (config_of dialect) s fields field xs ≡ Some p → Begins p.1
  unfolding next_record
  next-begins s fields field [] p e = cond_both (ends_at_end s) _ _ (λ (r : Option Read). r ≡ Some p → Begins p.1)
      (λ h found. let same : ◌≡◌ {A = Read} (fields ++ field ∷ [], st.StartRecord, []) p = cc in inl (ap (λ (q : Read). q.1) (sym same))) (λ h none. absurd (cc none)) e
  next-begins s fields field (c ∷ rest) p e =
      let a = (step (config_of dialect) s c).1 in
      let next = (step (config_of dialect) s c).0 in
      cond_both (is_end a) _ _ (λ (r : Option Read). r ≡ Some p → Begins p.1)
      (λ h found. let same : ◌≡◌ {A = Read} (fields_after a fields field, next, rest) p = cc in subst Begins (ap (λ (q : Read). q.1) same) (step-ends s c h))
      (λ h found. next-begins next (fields_after a fields field) (field_after a c field) rest p found) e

  -- after a carriage return a record begins as at the start
  either_true : (b : Bool) → b || true ≡ true
  either_true true = refl
  either_true false = refl

  step-same : (c : ℕ) → step (config_of dialect) st.AfterCr c ≡ step (config_of dialect) st.StartRecord c
  step-same c = cond_both (eqb c 10) _ _ (λ (p : State × Action). p ≡ start_record (config_of dialect) c)
      (λ h. rw (h, either_true (eqb c 13)) refl) (λ h. refl)

  next-same : (xs : List ℕ) → next_record (config_of dialect) st.AfterCr [] [] xs ≡ next_record (config_of dialect) st.StartRecord [] [] xs
  unfolding next_record
  next-same [] = refl
  next-same (c ∷ rest) = rw (step-same c) refl

  records-same : (s : State) (xs : List ℕ) → Begins s → records_in dialect st.StartRecord xs ≡ records_in dialect s xs
  unfolding records_from
  records-same s xs (inl e) = rw e refl
  records-same s xs (inr e) = rw (e, add-one) (ap (records_next (records_from (config_of dialect) (length xs))) (sym (next-same xs)))

  none-left : records_in dialect st.StartRecord [] ≡ []
  unfolding records_from next_record
  none-left = refl

  -- the records of the text after so many are those after so many
  pub records-after : (n : ℕ) (s : State) (xs : List ℕ) → Begins s → records_in dialect st.StartRecord (text_after dialect n s xs) ≡ drop n (records_in dialect s xs)
  unfolding text_after
  records-after zero s xs begins = by (next_record (config_of dialect) s [] [] xs) refl
    where
      by : (o : Option Read) → next_record (config_of dialect) s [] [] xs ≡ o → records_in dialect st.StartRecord (text_of xs (next_record (config_of dialect) s [] [] xs)) ≡ records_in dialect s xs
      by None e = rw e (none-left ∙ sym (records_in-none dialect s xs e))
      by (Some p) e = rw e (records-same s xs begins)
  records-after (suc n) s xs begins = by (records-after n) (next_record (config_of dialect) s [] [] xs) refl
    where
      by : ((s : State) (xs : List ℕ) → Begins s → records_in dialect st.StartRecord (text_after dialect n s xs) ≡ drop n (records_in dialect s xs))
          → (o : Option Read) → next_record (config_of dialect) s [] [] xs ≡ o
          → records_in dialect st.StartRecord (after_read (text_after dialect n) (next_record (config_of dialect) s [] [] xs)) ≡ drop (suc n) (records_in dialect s xs)
      by more None e = rw (e, records_in-none dialect s xs e) none-left
      by more (Some p) e = rw (e, records_in-next dialect s xs p e) (more p.1 p.2 (next-begins s [] [] xs p e))

  -- a text ends with what follows a record
  abbrev Follows : List ℕ → List ℕ → Type 0
  Follows rest xs = (front : List ℕ) × (xs ≡ front ++ rest)

  next-follows : (s : State) (fields : List (List ℕ)) (field xs : List ℕ) (p : Read) → next_record (config_of dialect) s fields field xs ≡ Some p → Follows p.2 xs
  unfolding next_record
  next-follows s fields field [] p e = cond_both (ends_at_end s) _ _ (λ (r : Option Read). r ≡ Some p → Follows p.2 [])
      (λ h found. let same : ◌≡◌ {A = Read} (fields ++ field ∷ [], st.StartRecord, []) p = cc in ([], ap (λ (q : Read). q.2) same)) (λ h none. absurd (cc none)) e
  next-follows s fields field (c ∷ rest) p e =
      let a = (step (config_of dialect) s c).1 in
      let next = (step (config_of dialect) s c).0 in
      cond_both (is_end a) _ _ (λ (r : Option Read). r ≡ Some p → Follows p.2 (c ∷ rest))
      (λ h found. let same : ◌≡◌ {A = Read} (fields_after a fields field, next, rest) p = cc in (c ∷ [], ap (λ (q : Read). c ∷ q.2) same))
      (λ h found. let more = next-follows next (fields_after a fields field) (field_after a c field) rest p found in (c ∷ more.0, ap (λ xs. c ∷ xs) more.1)) e

  all-of : (xs : List ℕ) → Follows [] xs
  all-of xs = (xs, sym (append-nil xs))

  pub after-follows : (n : ℕ) (s : State) (xs : List ℕ) → Follows (text_after dialect n s xs) xs
  unfolding text_after
  after-follows zero s xs = by (next_record (config_of dialect) s [] [] xs)
    where
      by : (o : Option Read) → Follows (text_of xs o) xs
      by None = all-of xs
      by (Some p) = ([], refl)
  after-follows (suc n) s xs = by (after-follows n) (next_record (config_of dialect) s [] [] xs) refl
    where
      by : ((s : State) (xs : List ℕ) → Follows (text_after dialect n s xs) xs) → (o : Option Read) → next_record (config_of dialect) s [] [] xs ≡ o → Follows (after_read (text_after dialect n) (next_record (config_of dialect) s [] [] xs)) xs
      by others None e = rw e (all-of xs)
      by others (Some p) e =
          let one = next-follows s [] [] xs p e in
          let more = others p.1 p.2 in
          rw e (one.0 ++ more.0, one.1 ∙ ap (λ ys. one.0 ++ ys) more.1 ∙ sym (append_assoc one.0 more.0 (text_after dialect n p.1 p.2)))

  bom-follows : (xs : List ℕ) → Follows (strip_bom xs) xs
  unfolding strip_bom
  bom-follows [] = ([], refl)
  bom-follows (a ∷ []) = ([], refl)
  bom-follows (a ∷ b ∷ []) = ([], refl)
  bom-follows (a ∷ b ∷ c ∷ rest) = cond_both (is_bom a b c) _ _ (λ ys. Follows ys (a ∷ b ∷ c ∷ rest)) (λ h. (a ∷ b ∷ c ∷ [], refl)) (λ h. ([], refl))

  pub goes_on : (rows : ℕ) (xs : List ℕ) → records_in dialect st.StartRecord (drop (bytes_read dialect (Some rows) xs) xs) ≡ drop (rows + 1) (records_of dialect xs)
  goes_on rows xs =
      let rest : List ℕ = text_after dialect (rows + 1) st.StartRecord (strip_bom xs) in
      let bom = bom-follows xs in
      let more = after-follows (rows + 1) st.StartRecord (strip_bom xs) in
      let whole : xs ≡ (bom.0 ++ more.0) ++ rest = bom.1 ∙ ap (λ ys. bom.0 ++ ys) more.1 ∙ sym (append_assoc bom.0 more.0 rest) in
      let size : length xs - length rest ≡ length (bom.0 ++ more.0) + 0 = ap (λ ys. length ys - length rest) whole ∙ omega (arith, length-append (bom.0 ++ more.0) rest) in
      let left : drop (length xs - length rest) xs ≡ rest = rw size (ap (drop (length (bom.0 ++ more.0) + 0)) whole ∙ drop-append-add (bom.0 ++ more.0) rest 0) in
      ap (records_in dialect st.StartRecord) left ∙ records-after (rows + 1) st.StartRecord (strip_bom xs) (inl refl)
