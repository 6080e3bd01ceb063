-- A field that is a part of its text, and a record of such fields.
use Rattle.std.proofs.Common.{◌==◌, ◌≡◌, ◌∙◌, refl, sym, ap, subst, ℕ, suc, ◌+◌, ◌<◌, ◌≤◌, Bool, true, false, List, [], ◌∷◌, ◌++◌, length, take, drop, get_or, arith, rules, append_assoc, append-nil, add-one, drop-cons}
use Rattle.std.proofs.lemmas.Bool.{cond_both}
use Rattle.std.specs.List.{prefix_len}
use Rattle.csv.specs.Machine.{after_end, in_field, is_byte, next_record, step}
use Rattle.csv.specs.declared.parser.State.{State}
use Rattle.csv.specs.declared.parser.Action.TheVariants as act
use Rattle.csv.specs.declared.parser.State.TheVariants as st
use Rattle.csv.specs.declared.parser.Terminator.TheVariants as term
use Rattle.bw_encode.specs.declared.cut.Cut.{Cut}
use Rattle.bw_encode.specs.declared.dialect.Dialect.{Dialect}
use Rattle.bw_encode.specs.Cut.{IsCut, StartsAt, loose_after, read_after, starts_record, starts_with}
use Rattle.bw_encode.specs.Dialect.{config_of, goes_on_bare, is_bare, loose_from}
use Rattle.bw_encode.specs.declared.records.After.{After}
use Rattle.bw_encode.specs.Place.{state_of}
use Rattle.bw_encode.specs.Records.{IsReadAs}
use Rattle.bw_encode.specs.Run.{joins_bare, joins_quoted}
use borrow.Author.Tests.{eq-eqb}

never_bare : (state next : State) → is_bare next ≡ false → goes_on_bare state next ≡ false
never_bare st.StartRecord next e = refl
never_bare st.StartField next e = refl
never_bare st.InField next e = refl
never_bare st.InQuoted next e = refl
never_bare st.AfterQuote next e = e
never_bare st.InEscape next e = refl
never_bare st.InComment next e = refl
never_bare st.AfterCr next e = refl

-- reading goes on as from another state, with other fields and another text
pub record Leads (dialect : Dialect) (state : State) (fields : List (List ℕ)) (field text : List ℕ) (next : State) (fields' : List (List ℕ)) (field' rest : List ℕ) : Type 0 where
  pub reads : next_record (config_of dialect) state fields field text ≡ next_record (config_of dialect) next fields' field' rest
  pub loose : (number : ℕ) → loose_from dialect number state text ≡ loose_from dialect number next rest

module _ (dialect : Dialect) (fields : List (List ℕ)) where
  abbrev Within : State → List ℕ → List ℕ → State → List ℕ → List ℕ → Type 0
  Within state field text next field' rest = Leads dialect state fields field text next fields field' rest

  within_itself : (state : State) (field text : List ℕ) → Within state field text state field text
  within_itself state field text = record { reads = refl; loose = λ number. refl }

  within_both : (a b c : State) (p q r x y z : List ℕ) → Within a p x b q y → Within b q y c r z → Within a p x c r z
  within_both a b c p q r x y z one other = record { reads = one.reads ∙ other.reads; loose = λ number. one.loose number ∙ other.loose number }

  -- a byte that joins the field
  copied : (state next : State) (field text : List ℕ) (c : ℕ) → step (config_of dialect) state c ≡ (next, act.Copy) → goes_on_bare state next ≡ false
      → Within state field (c ∷ text) next (field ++ c ∷ []) text
  unfolding next_record loose_from
  copied state next field text c is bare = record { reads = rw is refl; loose = λ number. rw (is, bare) refl }

  -- a byte that does nothing
  skipped : (state next : State) (field text : List ℕ) (c : ℕ) → step (config_of dialect) state c ≡ (next, act.Skip) → goes_on_bare state next ≡ false
      → Within state field (c ∷ text) next field text
  unfolding next_record loose_from
  skipped state next field text c is bare = record { reads = rw is refl; loose = λ number. rw (is, bare) refl }

  -- the bytes that pass a test, if each that does joins the field
  module _ (state : State) (p : ℕ → Bool) (joins : (c : ℕ) → p c ≡ true → step (config_of dialect) state c ≡ (state, act.Copy)) (bare : goes_on_bare state state ≡ false) where
    run : (field xs : List ℕ) → Within state field xs state (field ++ take (prefix_len p xs) xs) (drop (prefix_len p xs) xs)
    run field [] = subst (λ f. Within state field [] state f []) (sym (append-nil field)) (within_itself state field [])
    run field (c ∷ xs) = cond_both (p c) (1 + prefix_len p xs) 0 (λ n. Within state field (c ∷ xs) state (field ++ take n (c ∷ xs)) (drop n (c ∷ xs)))
        (λ joined.
        let more : suc (prefix_len p xs) ≡ 1 + prefix_len p xs = omega arith in
        subst (λ n. Within state field (c ∷ xs) state (field ++ take n (c ∷ xs)) (drop n (c ∷ xs))) more
        (subst (λ f. Within state field (c ∷ xs) state f (drop (prefix_len p xs) xs)) (append_assoc field (c ∷ []) (take (prefix_len p xs) xs))
        (within_both state state state field (field ++ c ∷ []) ((field ++ c ∷ []) ++ take (prefix_len p xs) xs) (c ∷ xs) xs (drop (prefix_len p xs) xs)
        (copied state state field xs c (joins c joined) bare) (run (field ++ c ∷ []) xs))))
        (λ ends. subst (λ f. Within state field (c ∷ xs) state f (c ∷ xs)) (sym (append-nil field)) (within_itself state field (c ∷ xs)))

  -- a byte that ends the field
  module _ (state : State) (field rest : List ℕ) (c : ℕ) (is : step (config_of dialect) state c ≡ in_field (config_of dialect) c) (ends : joins_bare dialect.separator c ≡ false) where
    ended_reads : next_record (config_of dialect) state fields field (c ∷ rest) ≡ read_after dialect (fields ++ field ∷ []) c rest
    unfolding next_record
    ended_reads = by (c == dialect.separator) refl (c == 13) refl (c == 10) refl
      where
        by : (s : Bool) → (c == dialect.separator) ≡ s → (r : Bool) → (c == 13) ≡ r → (l : Bool) → (c == 10) ≡ l
            → next_record (config_of dialect) state fields field (c ∷ rest) ≡ read_after dialect (fields ++ field ∷ []) c rest
        by true e r f l g = rw (is, e) refl
        by false e true f l g = rw (is, e, f) refl
        by false e false f true g = rw (is, e, f, g) refl
        by false e false f false g = let no : joins_bare dialect.separator c ≡ true = rw (e, f, g) refl in absurd (cc (no, ends))

    ended_loose : (number : ℕ) → loose_from dialect number state (c ∷ rest) ≡ loose_after dialect number c rest
    unfolding loose_from
    ended_loose number = by (c == dialect.separator) refl (c == 13) refl (c == 10) refl
      where
        by : (s : Bool) → (c == dialect.separator) ≡ s → (r : Bool) → (c == 13) ≡ r → (l : Bool) → (c == 10) ≡ l
            → loose_from dialect number state (c ∷ rest) ≡ loose_after dialect number c rest
        by true e r f l g = rw (is, e, never_bare state st.StartField refl) refl
        by false e true f l g = rw (is, e, f, never_bare state st.AfterCr refl) refl
        by false e false f true g = rw (is, e, f, g, never_bare state st.StartRecord refl) refl
        by false e false f false g = let no : joins_bare dialect.separator c ≡ true = rw (e, f, g) refl in absurd (cc (no, ends))

-- where the bytes that pass a test end
stops : (p : ℕ → Bool) (xs : List ℕ) → prefix_len p xs < length xs → p (get_or xs (prefix_len p xs) 0) ≡ false
stops p [] lt = absurd (omega arith)
stops p (c ∷ xs) lt = cond_both (p c) (1 + prefix_len p xs) 0 (λ n. n < length (c ∷ xs) → p (get_or (c ∷ xs) n 0) ≡ false)
    (λ joined lt'.
    let more : suc (prefix_len p xs) ≡ 1 + prefix_len p xs = omega arith in
    subst (λ n. p (get_or (c ∷ xs) n 0) ≡ false) more (stops p xs (omega arith)))
    (λ ends lt'. ends) lt

front : (text : List ℕ) (i : ℕ) → i < length text → drop i text ≡ get_or text i 0 ∷ drop (i + 1) text
front text i lt = rw (add-one, drop-cons text i 0) refl

module _ (dialect : Dialect) where
  bare_first : (c : ℕ) → c == dialect.quote ≡ false → step (config_of dialect) st.StartField c ≡ in_field (config_of dialect) c
  bare_first c e = rw e refl

  bare_joins : (c : ℕ) → joins_bare dialect.separator c ≡ true → in_field (config_of dialect) c ≡ (st.InField, act.Copy)
  bare_joins c joined = search rules

  -- a field without quotation marks
  pub cut_bare : (text : List ℕ) (cut : Cut) → starts_with text dialect.quote ≡ false → prefix_len (joins_bare dialect.separator) text < length text
      → cut.field.now ≡ take (prefix_len (joins_bare dialect.separator) text) text → cut.end ≡ get_or text (prefix_len (joins_bare dialect.separator) text) 0
      → cut.rest.now ≡ drop (prefix_len (joins_bare dialect.separator) text + 1) text → IsCut dialect text cut
  cut_bare [] cut starts lt f e r = absurd (omega arith)
  cut_bare (c ∷ cs) cut starts lt f e r =
      cond_both (joins_bare dialect.separator c) (1 + prefix_len (joins_bare dialect.separator) cs) 0
      (λ n. n < length (c ∷ cs) → cut.field.now ≡ take n (c ∷ cs) → cut.end ≡ get_or (c ∷ cs) n 0 → cut.rest.now ≡ drop (n + 1) (c ∷ cs) → IsCut dialect (c ∷ cs) cut)
      many (λ ends lt f e r. none ends f e r) lt f e r
    where
      m : ℕ
      m = prefix_len (joins_bare dialect.separator) cs

      none : joins_bare dialect.separator c ≡ false → cut.field.now ≡ [] → cut.end ≡ c → cut.rest.now ≡ cs → IsCut dialect (c ∷ cs) cut
      none ends f e r = record {
        reads = λ fields. rw (f, e, r) (ended_reads dialect fields st.StartField [] cs c (bare_first c starts) ends);
        loose = λ number. rw (e, r) (ended_loose dialect [] st.StartField [] cs c (bare_first c starts) ends number);
      }

      many : joins_bare dialect.separator c ≡ true → 1 + m < length (c ∷ cs) → cut.field.now ≡ take (1 + m) (c ∷ cs) → cut.end ≡ get_or (c ∷ cs) (1 + m) 0 → cut.rest.now ≡ drop (1 + m + 1) (c ∷ cs) → IsCut dialect (c ∷ cs) cut
      many joined lt f e r = record {
        reads = λ fields. (led fields).reads ∙ rw (at, f', e', r') (ended_reads dialect fields st.InField (c ∷ take m cs) (drop (m + 1) cs) (get_or cs m 0) refl ends);
        loose = λ number. (led []).loose number ∙ rw (at, e', r') (ended_loose dialect [] st.InField (c ∷ take m cs) (drop (m + 1) cs) (get_or cs m 0) refl ends number);
      }
        where
          one : 1 + m ≡ suc m
          one = omega arith

          ends : joins_bare dialect.separator (get_or cs m 0) ≡ false
          ends = stops (joins_bare dialect.separator) cs (omega arith)

          at : drop m cs ≡ get_or cs m 0 ∷ drop (m + 1) cs
          at = front cs m (omega arith)

          f' : cut.field.now ≡ c ∷ take m cs
          f' = f ∙ ap (λ n. take n (c ∷ cs)) one

          e' : cut.end ≡ get_or cs m 0
          e' = e ∙ ap (λ n. get_or (c ∷ cs) n 0) one

          r' : cut.rest.now ≡ drop (m + 1) cs
          r' = r ∙ ap (λ n. drop n (c ∷ cs)) (let two : 1 + m + 1 ≡ suc (m + 1) = omega arith in two)

          led : (fields : List (List ℕ)) → Within dialect fields st.StartField [] (c ∷ cs) st.InField (c ∷ take m cs) (drop m cs)
          led fields = within_both dialect fields st.StartField st.InField st.InField [] (c ∷ []) (c ∷ take m cs) (c ∷ cs) cs (drop m cs)
              (copied dialect fields st.StartField st.InField [] cs c (bare_first c starts ∙ bare_joins c joined) refl)
              (run dialect fields st.InField (joins_bare dialect.separator) (λ b joined. bare_joins b joined) refl (c ∷ []) cs)

  -- a field within quotation marks, after the first one
  pub cut_quoted : (inner : List ℕ) (cut : Cut) → prefix_len (joins_quoted dialect) inner + 2 ≤ length inner
      → get_or inner (prefix_len (joins_quoted dialect) inner) 0 ≡ dialect.quote
      → cut.end == dialect.quote ≡ false → joins_bare dialect.separator cut.end ≡ false
      → cut.field.now ≡ take (prefix_len (joins_quoted dialect) inner) inner → cut.end ≡ get_or inner (prefix_len (joins_quoted dialect) inner + 1) 0
      → cut.rest.now ≡ drop (prefix_len (joins_quoted dialect) inner + 2) inner → IsCut dialect (dialect.quote ∷ inner) cut
  cut_quoted inner cut room closing other ends f e r = record {
    reads = λ fields. (led fields).reads ∙ rw f (ended_reads dialect fields st.AfterQuote (take m inner) cut.rest.now cut.end closed ends);
    loose = λ number. (led []).loose number ∙ ended_loose dialect [] st.AfterQuote (take m inner) cut.rest.now cut.end closed ends number;
  }
    where
      m : ℕ
      m = prefix_len (joins_quoted dialect) inner

      itself : dialect.quote == dialect.quote ≡ true
      itself = eq-eqb dialect.quote dialect.quote refl

      closed : step (config_of dialect) st.AfterQuote cut.end ≡ in_field (config_of dialect) cut.end
      closed = rw other refl

      after : drop m inner ≡ dialect.quote ∷ cut.end ∷ cut.rest.now
      after =
          let last : drop (m + 1) inner ≡ get_or inner (m + 1) 0 ∷ drop (m + 1 + 1) inner = front inner (m + 1) (omega arith) in
          let two : m + 1 + 1 ≡ m + 2 = omega arith in
          front inner m (omega arith) ∙ rw (closing, last, two, ← e, ← r) refl

      led : (fields : List (List ℕ)) → Within dialect fields st.StartField [] (dialect.quote ∷ inner) st.AfterQuote (take m inner) (cut.end ∷ cut.rest.now)
      led fields =
          let open' = skipped dialect fields st.StartField st.InQuoted [] inner dialect.quote (rw itself refl) refl in
          let within = run dialect fields st.InQuoted (joins_quoted dialect) (λ b joined. search rules) refl [] inner in
          let close = skipped dialect fields st.InQuoted st.AfterQuote (take m inner) (cut.end ∷ cut.rest.now) dialect.quote (rw itself refl) refl in
          within_both dialect fields st.StartField st.InQuoted st.AfterQuote [] [] (take m inner) (dialect.quote ∷ inner) inner (cut.end ∷ cut.rest.now) open'
          (within_both dialect fields st.InQuoted st.InQuoted st.AfterQuote [] (take m inner) (take m inner) inner (drop m inner) (cut.end ∷ cut.rest.now) within
          (subst (λ xs. Within dialect fields st.InQuoted (take m inner) xs st.AfterQuote (take m inner) (cut.end ∷ cut.rest.now)) (sym after) close))

-- the fields so far of a record, and the text after them
pub record AreCut (dialect : Dialect) (text : List ℕ) (fields : List (List ℕ)) (rest : List ℕ) : Type 0 where
  pub led : Leads dialect st.StartRecord [] [] text st.StartField fields [] rest

pub cut_none : (dialect : Dialect) (text : List ℕ) → starts_record dialect text ≡ true → AreCut dialect text [] text
unfolding next_record loose_from
cut_none dialect [] starts = absurd (cc starts)
cut_none dialect (c ∷ cs) starts = record { led = by (c == 13) refl (c == 10) refl (is_byte dialect.comment c) refl }
  where
    by : (r : Bool) → (c == 13) ≡ r → (l : Bool) → (c == 10) ≡ l → (k : Bool) → is_byte dialect.comment c ≡ k → Leads dialect st.StartRecord [] [] (c ∷ cs) st.StartField [] [] (c ∷ cs)
    by true e l f k g = let no = rw e at starts in absurd (cc no)
    by false e true f k g = let no = rw (e, f) at starts in absurd (cc no)
    by false e false f true g = let no = rw (e, f, g) at starts in absurd (cc no)
    by false e false f false g = record { reads = rw (e, f, g) refl; loose = λ number. rw (e, f, g) refl }

module _ (dialect : Dialect) (text : List ℕ) (fields : List (List ℕ)) (rest : List ℕ) (cut : Cut) (are : AreCut dialect text fields rest) (is : IsCut dialect rest cut) where
  pub cut_more : cut.end == dialect.separator ≡ true → AreCut dialect text (fields ++ cut.field.now ∷ []) cut.rest.now
  cut_more e = record {
    led = record {
      reads = are.led.reads ∙ rw e at (is.reads fields);
      loose = λ number. are.led.loose number ∙ rw e at (is.loose number);
    };
  }

  pub cut_last : (after : After) → cut.end == dialect.separator ≡ false → after.is_loose ≡ false → state_of after.place ≡ after_end term.CRLF cut.end → after.text.now ≡ cut.rest.now
      → IsReadAs dialect st.StartRecord text (fields ++ cut.field.now ∷ []) after
  cut_last after e loose place same = record {
    read = are.led.reads ∙ (rw e at (is.reads fields)) ∙ rw (place, same) refl;
    loose = rw loose (λ number. are.led.loose number ∙ (rw e at (is.loose number)) ∙ rw (place, same) refl);
  }

-- after the first byte of a line's end, its second one is left out
pub after_return : (text : List ℕ) → 0 < length text → get_or text 0 0 ≡ 10 → StartsAt st.AfterCr text (drop 1 text)
unfolding next_record loose_from
after_return [] some e = absurd (omega arith)
after_return (c ∷ cs) some e = rw e (record { reads = λ dialect. refl; loose = λ dialect number. refl })

pub before_record : (text : List ℕ) → StartsAt st.StartRecord text text
before_record text = record { reads = λ dialect. refl; loose = λ dialect number. refl }
