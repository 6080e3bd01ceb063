-- Fields that need no quotes, and records of them.
use Rattle.std.proofs.Common.{◌≡◌, ◌≢◌, ◌∙◌, ◌==◌, ℕ, suc, ◌+◌, ◌-◌, ◌^◌, Bool, true, false, List}
use Rattle.std.proofs.Common.{[], ◌∷◌, ◌++◌, Some, refl, sym, ap, subst, cond, map, not, length}
use Rattle.std.proofs.Common.{min, append_assoc, arith}
use Rattle.std.specs.declared.alloc.Global.{Global}
use Rattle.std.specs.Prelude.{Vec, if◌then◌else◌, zero, ◌<◌, ◌≤◌, ◌/◌, ◌%◌, nat_lt, ℤ, pos, negsuc}
use Rattle.std.specs.Fmt.{decimal, digit_glyph, digits, digits_onto, signed_decimal}
use Rattle.std.specs.List.{join_with_byte, list_any}
use Rattle.std.specs.Io.KnownBytes.{Appends}
use Rattle.std.proofs.lemmas.Bool.{ne_eqb}
use Rattle.csv.specs.Writing.{field_text, fields_written, has_written, needs_byte, needs_quotes}
use Rattle.csv.specs.Writing.{next_sep, quoted, text_written, writer_setup}
use Rattle.csv.specs.declared.writer.QuoteStyle.TheVariants as style
use Rattle.csv.specs.declared.writer.Writer.{Writer}
use Rattle.csv.specs.declared.writer.WriterBuilder.{WriterBuilder}
use Rattle.bw_answer.specs.Field.{answer_writer, needs_no_quotes}
use Rattle.bw_answer.specs.Draft.{Drafts, is_begun}

unquoted : (b : Bool) (field : List ℕ) → not b ≡ true → (if b then quoted answer_writer field else field) ≡ field
unquoted true field e = absurd (cc e)
unquoted false field e = refl

-- a plain field is written as it is
plain_text : (field : List ℕ) → needs_no_quotes field ≡ true → field_text answer_writer field ≡ field
unfolding needs_no_quotes
plain_text [] e = absurd (cc e)
plain_text (c ∷ cs) e = unquoted (needs_quotes answer_writer (c ∷ cs)) (c ∷ cs) e

-- and has a byte
plain_shows : (field : List ℕ) → needs_no_quotes field ≡ true → not (length field == 0) ≡ true
unfolding needs_no_quotes
plain_shows [] e = absurd (cc e)
plain_shows (c ∷ cs) e = rw (ne_eqb (length (c ∷ cs)) 0 (λ z. omega (arith, z))) refl

-- one more field after those of a record
join_more : (fields : List (List ℕ)) (field : List ℕ)
    → join_with_byte 44 (fields ++ field ∷ []) ≡ join_with_byte 44 fields ++ ((if not (is_begun fields) then [] else 44 ∷ []) ++ field)
join_more (x ∷ y ∷ more) field = rw (join_more (y ∷ more) field) (sym (append_assoc x (44 ∷ join_with_byte 44 (y ∷ more)) ((44 ∷ []) ++ field)))
join_more _ field = refl

begun_more : (fields : List (List ℕ)) (field : List ℕ) → is_begun (fields ++ field ∷ []) ≡ true
begun_more [] field = refl
begun_more (x ∷ fields) field = refl

one_or_more : (n : ℕ) → (min (n + 1) (2 ^ 64 - 1) == 0) ≡ false
one_or_more n = ne_eqb _ _ (λ e. omega (arith, e))

-- the bytes of the writer with those of one more field
bytes_added : (old new ended : List ℕ) (fields : List (List ℕ)) (field separator text : List ℕ) → Some old ≡ Some (ended ++ join_with_byte 44 fields)
    → new ≡ old ++ (separator ++ text) → separator ≡ (if not (is_begun fields) then [] else 44 ∷ []) → text ≡ field
    → Some new ≡ Some (ended ++ join_with_byte 44 (fields ++ field ∷ []))
bytes_added old new ended fields field separator text was grown between same =
    let before : old ≡ ended ++ join_with_byte 44 fields = cc in
    ap (λ (l : List ℕ). Some l) (rw (grown, before, between, same, join_more fields field) (append_assoc ended (join_with_byte 44 fields) ((if not (is_begun fields) then [] else 44 ∷ []) ++ field)))

-- whether the writer has shown a byte of the record
shown_added : (was now : Bool) (field : List ℕ) (begun : Bool) (setup : WriterBuilder) → was ≡ begun → needs_no_quotes field ≡ true → setup ≡ answer_writer
    → (was ≡ false → now ≡ not (length (field_text setup field) == 0)) → (was ≡ true → now ≡ true) → now ≡ true
shown_added was now field true setup e plain same wrote stays = stays e
shown_added was now field false setup e plain same wrote stays =
    wrote e ∙ ap (λ (l : List ℕ). not (length l == 0)) (ap (λ (w : WriterBuilder). field_text w field) same ∙ plain_text field plain) ∙ plain_shows field plain

-- what the writer ensures of a plain field
pub field_added : (old new : Writer (Vec ℕ Global)) (ended : List ℕ) (fields : List (List ℕ)) (field : List ℕ) → needs_no_quotes field ≡ true
    → ((writer_setup old).style ≢ style.NonNumeric → Appends (text_written (λ bytes. Some bytes.items) old) (text_written (λ bytes. Some bytes.items) new)
    (next_sep (writer_setup old) (fields_written old) ++ field_text (writer_setup old) field))
    → writer_setup new ≡ writer_setup old
    → fields_written new ≡ min (fields_written old + 1) (2 ^ 64 - 1)
    → (has_written old ≡ false → (writer_setup old).style ≢ style.NonNumeric → has_written new ≡ not (length (field_text (writer_setup old) field) == 0))
    → (has_written old ≡ true → has_written new ≡ true)
    → Drafts old ended fields → Drafts new ended (fields ++ field ∷ [])
field_added old new ended fields field plain text same count wrote stays held =
    let setup = held.setup in
    let styled : (writer_setup old).style ≢ style.NonNumeric = λ e. cc (ap (λ (s : WriterBuilder). s.style) setup, e) in
    let grown = subst (λ (w : WriterBuilder). Appends (text_written (λ bytes. Some bytes.items) old) (text_written (λ bytes. Some bytes.items) new)
    (next_sep w (fields_written old) ++ field_text w field)) setup (text styled) in
    let between : next_sep answer_writer (fields_written old) ≡ (if not (is_begun fields) then [] else 44 ∷ []) = rw held.begun refl in
    record {
      setup = same ∙ setup;
      bytes = bytes_added _ _ ended fields field _ _ held.bytes grown between (plain_text field plain);
      shown = shown_added _ _ field (is_begun fields) _ held.shown plain setup (λ e. wrote e styled) stays ∙ sym (begun_more fields field);
      begun = rw (count, begun_more fields field) (one_or_more (fields_written old));
    }

-- a byte other than the comma, the quote and the line's ends asks for no quotes
pub quiet : (c : ℕ) → c ≢ 44 → c ≢ 34 → c ≢ 13 → c ≢ 10 → needs_byte answer_writer c ≡ false
quiet c comma quote return feed = rw (ne_eqb c 44 comma, ne_eqb c 34 quote, ne_eqb c 13 return, ne_eqb c 10 feed) refl

-- what stands from 48, the digit 0, on does not
quiet_from : (c : ℕ) → 48 ≤ c → needs_byte answer_writer c ≡ false
quiet_from c high = quiet c (λ e. omega (arith, e)) (λ e. omega (arith, e)) (λ e. omega (arith, e)) (λ e. omega (arith, e))

pub no_more : (c : ℕ) (cs : List ℕ) → needs_byte answer_writer c ≡ false → list_any (needs_byte answer_writer) cs ≡ false → list_any (needs_byte answer_writer) (c ∷ cs) ≡ false
no_more c cs here rest = rw here rest

glyph_from : (b : Bool) (d : ℕ) → 48 ≤ cond b (48 + d) (87 + d)
glyph_from true d = omega arith
glyph_from false d = omega arith

either_quiet : (b : Bool) (xs ys : List ℕ) → list_any (needs_byte answer_writer) xs ≡ false → list_any (needs_byte answer_writer) ys ≡ false
    → list_any (needs_byte answer_writer) (cond b xs ys) ≡ false
either_quiet true xs ys p q = p
either_quiet false xs ys p q = q

either_begun : (b : Bool) (xs ys : List ℕ) → 0 < length xs → 0 < length ys → 0 < length (cond b xs ys)
either_begun true xs ys p q = p
either_begun false xs ys p q = q

quiet_onto : (k n : ℕ) (text : List ℕ) → list_any (needs_byte answer_writer) text ≡ false → list_any (needs_byte answer_writer) (digits_onto k 10 false n text) ≡ false
quiet_onto zero n text e = e
quiet_onto (suc k) n text e =
    let more = no_more (digit_glyph false (n % 10)) text (quiet_from _ (glyph_from (nat_lt (n % 10) 10) (n % 10))) e in
    either_quiet (n / 10 == 0) _ _ more (quiet_onto k (n / 10) _ more)

begun_onto : (k n c : ℕ) (text : List ℕ) → 0 < length (digits_onto k 10 false n (c ∷ text))
begun_onto zero n c text = omega arith
begun_onto (suc k) n c text = either_begun (n / 10 == 0) _ _ (omega arith) (begun_onto k (n / 10) _ (c ∷ text))

quiet_decimal : (n : ℕ) → list_any (needs_byte answer_writer) (decimal n) ≡ false
unfolding digits
quiet_decimal n = quiet_onto 64 n [] refl

begun_decimal : (n : ℕ) → 0 < length (decimal n)
unfolding digits
begun_decimal n = either_begun (n / 10 == 0) _ _ (omega arith) (begun_onto 63 (n / 10) _ [])

pub plain_by : (text : List ℕ) → 0 < length text → list_any (needs_byte answer_writer) text ≡ false → needs_no_quotes text ≡ true
unfolding needs_no_quotes
plain_by [] some e = absurd (omega arith)
plain_by (c ∷ cs) some e = ap (λ (b : Bool). not b) e

-- numbers in decimal
pub plain_number : (z : ℤ) → needs_no_quotes (signed_decimal z) ≡ true
plain_number (pos n) = plain_by (decimal n) (begun_decimal n) (quiet_decimal n)
plain_number (negsuc n) = plain_by (45 ∷ decimal (suc n)) (omega arith) (no_more 45 (decimal (suc n)) refl (quiet_decimal (suc n)))

pub ruleset plain_numbers = (plain_number)

-- a record of one item or more is begun
pub begun_map : {A : Type 0} (f : A → List ℕ) (xs : List A) → 1 ≤ length xs → is_begun (map f xs) ≡ true
begun_map f [] some = absurd (omega arith)
begun_map f (x ∷ xs) some = refl
