-- A plan's file is cut at the line CERTIFICATE that was printed: no line of a printed program has
-- that word alone.
use Rattle.std.proofs.Common.{◌≡◌, ◌∙◌, refl, sym, ap, subst, ℕ, suc, ◌+◌, Bool, true, false, not}
use Rattle.std.proofs.Common.{cond, List, [], ◌∷◌, ◌++◌, codes, length, Result, Ok, append_assoc}
use Rattle.std.specs.Fmt.{decimal}
use Rattle.std.specs.List.{list_all}
use Rattle.std.proofs.lemmas.Bool.{and_parts, eqb-true, not-true}
use Rattle.bw_model.specs.declared.column.Column.{Column}
use Rattle.bw_model.specs.declared.cond.Cond.{Cond}
use Rattle.bw_model.specs.declared.fault.Fault.{Fault}
use Rattle.bw_text.specs.Lines.{NumberedWords, begins_comment, cut_lines, is_line_feed, is_skipped}
use Rattle.bw_text.specs.Lines.{numbered_words, numbered_from, only_of, with_first, words_of}
use Rattle.bw_text.specs.Printing.{line_text, spaced_words}
use Rattle.bw_text.specs.Text.{same_text}
use Rattle.bw_program.specs.declared.instr.Instr.{Instr}
use Rattle.bw_program.specs.PrintText.{instr_words, lines_text, print_text}
use Rattle.bw_program.specs.Program.{ProgramShape}
use Rattle.bw_program.specs.ProgramText.{IsProgramText, SpellsInstr, SpellsLines}
use Rattle.bw_program.specs.ProgramText.{program_of, same, result_line, instr_line}
use Rattle.bw_program.proofs.ProgramSpelling.{spelled_text as program_read}
use Rattle.bw_cert_text.specs.CertificateFields.{CertificateFields}
use Rattle.bw_cert_text.specs.CertificateText.{IsCertificateText, SpellsFrom}
use Rattle.bw_cert_text.specs.CertificateShape.{CertificateShape}
use Rattle.bw_cert_text.specs.PrintText as certificate_text
use Rattle.bw_cert.specs.FileVerdict.{Certifies}
use Rattle.bw_shell.specs.Plan.{IsPrinted}
use Rattle.bw_cert.specs.ProgramFile.{after_divider, before_divider, divides, is_divider_word}
use Rattle.bw_cert.proofs.SplitLemmas.{feed, no_lines, nothing_fed}

-- two words or more
abbrev is_several : List (List ℕ) → Bool
is_several (word ∷ other ∷ words) = true
is_several _ = false

abbrev are_several : List NumberedWords → Bool
are_several lines = list_all (λ line. is_several line.words) lines

abbrev none_divides : List (List ℕ) → Bool
none_divides lines = list_all (λ line. not (divides line)) lines

-- each line of a program has several words
instr_several : (columns : List Column) (end number : ℕ) (words : List (List ℕ)) (instr : Instr) → SpellsInstr columns end number words instr → is_several words ≡ true
instr_several columns end number words instr (same a b c d e f g) = refl
instr_several columns end number words instr _ = refl

lines_several : (columns : List Column) (end number : ℕ) (lines : List NumberedWords) (instrs : List Instr) (result : ℕ) → SpellsLines columns end number lines instrs result → are_several lines ≡ true
lines_several columns end number lines instrs result (result_line a b) = refl
lines_several columns end number (line ∷ lines) (instr ∷ instrs) result (instr_line first rest) =
    rw (instr_several columns end number line.words instr first) (lines_several columns end (suc number) lines instrs result rest)

-- several words aren't one, and a comment's first word isn't CERTIFICATE
several_apart : (words : List (List ℕ)) → is_several words ≡ true → is_divider_word (only_of words) ≡ false
several_apart (word ∷ other ∷ words) h = refl
several_apart _ h = absurd (cc h)

comment_apart : (word : List ℕ) → begins_comment word ≡ true → same_text word (codes "CERTIFICATE") ≡ false
unfolding same_text
comment_apart [] h = absurd (cc h)
comment_apart (c ∷ cs) h = let is : c ≡ 35 = eqb-true _ _ h in rw is refl

skipped_apart : (words : List (List ℕ)) → is_skipped words ≡ true → is_divider_word (only_of words) ≡ false
skipped_apart (word ∷ []) h = comment_apart word h
skipped_apart _ h = refl

said_apart : (n : ℕ) (lines : List (List ℕ)) → are_several (numbered_from n lines) ≡ true → none_divides lines ≡ true
unfolding numbered_from
said_apart n [] h = refl
said_apart n (line ∷ lines) h = go (is_skipped (words_of line)) refl h (said_apart (n + 1) lines)
  where
    go : (b : Bool) → is_skipped (words_of line) ≡ b → are_several (cond b (numbered_from (n + 1) lines) (numbered_words n (words_of line) ∷ numbered_from (n + 1) lines)) ≡ true
        → (are_several (numbered_from (n + 1) lines) ≡ true → none_divides lines ≡ true) → none_divides (line ∷ lines) ≡ true
    go true is h more = rw (skipped_apart (words_of line) is) (more h)
    go false is h more =
        let two = and_parts (is_several (words_of line)) (are_several (numbered_from (n + 1) lines)) h in
        rw (several_apart (words_of line) two.0) (more two.1)

-- lines that don't divide, and then one that does
before_all : (lines : List (List ℕ)) (line : List ℕ) (rest : List (List ℕ)) → none_divides lines ≡ true → divides line ≡ true → before_divider (lines ++ line ∷ rest) ≡ lines
unfolding before_divider
before_all [] line rest h is = rw is refl
before_all (first ∷ lines) line rest h is =
    let two = and_parts (not (divides first)) (none_divides lines) h in
    rw (not-true (divides first) two.0, before_all lines line rest two.1 is) refl

after_all : (lines : List (List ℕ)) (line : List ℕ) (rest : List (List ℕ)) → none_divides lines ≡ true → divides line ≡ true → after_divider (lines ++ line ∷ rest) ≡ rest
unfolding after_divider
after_all [] line rest h is = rw is refl
after_all (first ∷ lines) line rest h is =
    let two = and_parts (not (divides first)) (none_divides lines) h in
    rw (not-true (divides first) two.0) (after_all lines line rest two.1 is)

-- a text that ends with a line feed is cut apart from what comes after it
first_append : (c : ℕ) (xs ys : List (List ℕ)) → (xs ≡ [] → ⊥) → with_first c (xs ++ ys) ≡ with_first c xs ++ ys
first_append c [] ys some = absurd (some refl)
first_append c (x ∷ xs) ys some = refl

cut_by : (b : Bool) (c : ℕ) (front last : List (List ℕ)) (all : List (List ℕ)) → all ≡ front ++ last → (front ≡ [] → ⊥) → cond b ([] ∷ all) (with_first c all) ≡ cond b ([] ∷ front) (with_first c front) ++ last
cut_by true c front last all e some = ap (λ (lines : List (List ℕ)). [] ∷ lines) e
cut_by false c front last all e some = ap (with_first c) e ∙ first_append c front last some

cut_append : (a b : List ℕ) → cut_lines (a ++ 10 ∷ b) ≡ cut_lines (a ++ 10 ∷ []) ++ cut_lines b
unfolding cut_lines
cut_append [] b = refl
cut_append (c ∷ a) b =
    cut_by (is_line_feed c) c (cut_lines (a ++ 10 ∷ [])) (cut_lines b) (cut_lines (a ++ 10 ∷ b)) (cut_append a b) (λ e. nothing_fed a [] (no_lines (a ++ 10 ∷ []) e))

-- a printed program ends with a line feed
record Fed (text : List ℕ) : Type 0 where
  front : List ℕ
  is : text ≡ front ++ 10 ∷ []

fed_after : (a b : List ℕ) → Fed b → Fed (a ++ b)
fed_after a b of = record { front = a ++ of.front; is = ap (λ (t : List ℕ). a ++ t) of.is ∙ sym (append_assoc a of.front (10 ∷ [])) }

lines_fed : (columns : List Column) (instrs : List Instr) (result : ℕ) → Fed (lines_text columns instrs result)
unfolding lines_text
lines_fed columns [] result = record {
  front = codes "RESULT" ++ spaced_words ((114 ∷ decimal result) ∷ []);
  is = refl;
}
lines_fed columns (instr ∷ instrs) result = fed_after (line_text (instr_words columns instr)) (lines_text columns instrs result) (lines_fed columns instrs result)

cut_fed : (text rest : List ℕ) → Fed text → cut_lines (text ++ rest) ≡ cut_lines text ++ cut_lines rest
cut_fed text rest of =
    ap (λ (t : List ℕ). cut_lines (t ++ rest)) of.is ∙ ap cut_lines (append_assoc of.front (10 ∷ []) rest) ∙ cut_append of.front rest
    ∙ ap (λ (t : List ℕ). cut_lines t ++ cut_lines rest) (sym of.is)

certificate_divides : divides (codes "CERTIFICATE") ≡ true
unfolding words_of same_text
certificate_divides = refl

-- the parts of a file that is printed
pub record PrintedCut (columns : List Column) (shown : ProgramShape) (rest file : List ℕ) : Type 0 where
  pub before : before_divider (cut_lines file) ≡ cut_lines (print_text columns shown)
  pub after : after_divider (cut_lines file) ≡ cut_lines rest

pub cut_of : (columns : List Column) (shown : ProgramShape) (rest file : List ℕ) → file ≡ print_text columns shown ++ codes "CERTIFICATE\n" ++ rest → IsProgramText columns (print_text columns shown) shown
    → PrintedCut columns shown rest file
cut_of columns shown rest file is spelled =
    let several = lines_several columns _ _ _ _ _ spelled.1 in
    let apart : none_divides (cut_lines (print_text columns shown)) ≡ true = said_apart 1 (cut_lines (print_text columns shown)) several in
    let whole : cut_lines file ≡ cut_lines (print_text columns shown) ++ codes "CERTIFICATE" ∷ cut_lines rest =
    ap cut_lines (is ∙ append_assoc (print_text columns shown) (codes "CERTIFICATE\n") rest) ∙ cut_fed (print_text columns shown) (codes "CERTIFICATE\n" ++ rest) (lines_fed columns shown.instrs shown.result)
    ∙ ap (λ (lines : List (List ℕ)). cut_lines (print_text columns shown) ++ lines) (feed (codes "CERTIFICATE") rest refl) in
    record {
      before = ap before_divider whole ∙ before_all (cut_lines (print_text columns shown)) (codes "CERTIFICATE") (cut_lines rest) apart certificate_divides;
      after = ap after_divider whole ∙ after_all (cut_lines (print_text columns shown)) (codes "CERTIFICATE") (cut_lines rest) apart certificate_divides;
    }

-- a text is spelled by its lines
pub program_by_lines : (columns : List Column) (text other : List ℕ) (program : ProgramShape) → cut_lines text ≡ cut_lines other → IsProgramText columns other program → IsProgramText columns text program
program_by_lines columns text other program alike of =
    (of.0, subst (λ (lines : List (List ℕ)). SpellsLines columns (length program.instrs) 0 (numbered_from 1 lines) program.instrs program.result) (sym alike) of.1)

pub one_ok : {A : Type 0} (x y : A) (r : Result A Fault) → r ≡ Ok x → r ≡ Ok y → x ≡ y
one_ok x y r a b = let both : ◌≡◌ {A = Result _ Fault} (Ok x) (Ok y) = sym a ∙ b in cc both

-- and so is a certificate's
pub certificate_by_lines : (first : ℕ) (text other : List ℕ) (certificate : CertificateFields) → cut_lines text ≡ cut_lines other → IsCertificateText first other certificate → IsCertificateText first text certificate
certificate_by_lines first text other certificate alike of =
    subst (λ (lines : List (List ℕ)). SpellsFrom 0 (numbered_from first lines) certificate) (sym alike) of

-- The checker reads in a printed file the program that was printed.
pub shown_is : (columns : List Column) (cond : Cond) (file : List ℕ) (program : ProgramShape) (certificate : CertificateShape) (printed : IsPrinted columns file) → Certifies columns cond file program certificate → printed.shown ≡ program
shown_is columns cond file program certificate printed certifies =
    let shown = printed.shown in
    let cut = cut_of columns shown (certificate_text.print_text columns printed.stated) file printed.is printed.spells in
    let there = program_by_lines columns certifies.program_text (print_text columns shown) shown (certifies.cut.before ∙ cut.before) printed.spells in
    one_ok shown program (program_of columns certifies.program_text) (program_read columns _ shown there) (program_read columns _ program certifies.spelled)
