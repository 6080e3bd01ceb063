-- Headings need no quotes.
use Rattle.std.proofs.Common.{◌≡◌, ◌≢◌, ◌∙◌, ℕ, ◌<◌, Bool, true, false, List, [], ◌∷◌, ◌++◌, refl}
use Rattle.std.proofs.Common.{sym, ap, ◌&&◌, length, length-append, nat_le, not, arith, codes}
use Rattle.std.specs.List.{list_all, list_any}
use Rattle.std.proofs.lemmas.List.Folds.{list_any-append}
use Rattle.std.proofs.lemmas.Bool.{not-true}
use Rattle.csv.specs.Writing.{needs_byte}
use Rattle.bw_text.specs.Keyword.{is_reserved}
use Rattle.bw_model.specs.Name.{is_name}
use Rattle.bw_text.specs.Text.{begins_word, goes_on_in_word, is_word}
use Rattle.bw_answer.specs.Answer.{call_of}
use Rattle.bw_answer.specs.Field.{answer_writer, needs_no_quotes}
use Rattle.bw_answer.proofs.PlainFields.{quiet, no_more, plain_by}
use Rattle.bw_model.proofs.BitsLemmas.{both}

-- what passes a test that no byte passes which asks for quotes
quiet_by : (passes : ℕ → Bool) → passes 44 ≡ false → passes 34 ≡ false → passes 13 ≡ false → passes 10 ≡ false → (c : ℕ) → passes c ≡ true → needs_byte answer_writer c ≡ false
quiet_by passes comma quote return feed c e = quiet c (apart 44 comma) (apart 34 quote) (apart 13 return) (apart 10 feed)
  where
    apart : (d : ℕ) → passes d ≡ false → c ≢ d
    apart d f same = let t : true ≡ false = sym e ∙ ap passes same ∙ f in absurd (cc t)

quiet_rest : (text : List ℕ) → list_all goes_on_in_word text ≡ true → list_any (needs_byte answer_writer) text ≡ false
quiet_rest [] e = refl
quiet_rest (c ∷ cs) e =
    let parts = both (goes_on_in_word c) (list_all goes_on_in_word cs) e in
    no_more c cs (quiet_by goes_on_in_word refl refl refl refl c parts.0) (quiet_rest cs parts.1)

quiet_word : (text : List ℕ) → is_word text ≡ true → list_any (needs_byte answer_writer) text ≡ false
quiet_word [] e = absurd (cc e)
quiet_word (c ∷ cs) e =
    let parts = both (begins_word c) (list_all goes_on_in_word cs) e in
    no_more c cs (quiet_by begins_word refl refl refl refl c parts.0) (quiet_rest cs parts.1)

word_of : (name : List ℕ) → is_name name ≡ true → is_word name ≡ true
unfolding is_name
word_of name e = (both (is_word name) (nat_le (length name) 63) (both (is_word name && nat_le (length name) 63) (not (is_reserved name)) e).0).0

quiet_name : (name : List ℕ) → is_name name ≡ true → list_any (needs_byte answer_writer) name ≡ false
quiet_name name e = quiet_word name (word_of name e)

begun_word : (text : List ℕ) → is_word text ≡ true → 0 < length text
begun_word [] e = absurd (cc e)
begun_word (c ∷ cs) e = omega arith

begun_name : (name : List ℕ) → is_name name ≡ true → 0 < length name
begun_name name e = begun_word name (word_of name e)

pub plain_name : (name : List ℕ) → is_name name ≡ true → needs_no_quotes name ≡ true
plain_name name e = plain_by name (begun_name name e) (quiet_name name e)

quiet_both : (xs ys : List ℕ) → list_any (needs_byte answer_writer) xs ≡ false → list_any (needs_byte answer_writer) ys ≡ false
    → list_any (needs_byte answer_writer) (xs ++ ys) ≡ false
quiet_both xs ys p q = rw (list_any-append (needs_byte answer_writer) xs ys, p, q) refl

plain_parts : (text : List ℕ) → needs_no_quotes text ≡ true → (0 < length text) × (list_any (needs_byte answer_writer) text ≡ false)
unfolding needs_no_quotes
plain_parts [] e = absurd (cc e)
plain_parts (c ∷ cs) e = (omega arith, not-true _ e)

pub plain_call : (function name : List ℕ) → needs_no_quotes function ≡ true → is_name name ≡ true → needs_no_quotes (call_of function name) ≡ true
plain_call function name plain e =
    let front = function ++ codes "(" ++ name in
    plain_by (call_of function name) (omega (arith, length-append front (codes ")")))
    (quiet_both front (codes ")") (quiet_both (function ++ codes "(") name (quiet_both function (codes "(") (plain_parts function plain).1 refl) (quiet_name name e)) refl)

pub ruleset plain_headings = (plain_name)
