-- The reader finds the end of a statement: its state after the bytes so far decides whether the
-- next one ends it.
use Rattle.std.proofs.Common.{◌≡◌, refl, sym, ap, ◌∙◌, subst, ℕ, Bool, true, false, List, [], ◌∷◌}
use Rattle.std.proofs.Common.{◌++◌, inl, inr}
use Rattle.std.proofs.lemmas.Bool.{cases_eq, ne_eqb}
use Rattle.std.proofs.lemmas.List.Folds.{list_all-append}
use Rattle.std.specs.Prelude.{◌==◌, ◌&&◌, ◌||◌, not, if◌then◌else◌}
use Rattle.std.specs.List.{list_all}
use Rattle.bw_session.specs.declared.statement_state.StatementState.{StatementState}
use Rattle.bw_session.specs.declared.statement_state.StatementState.TheVariants.{Blank, Text, Dash}
use Rattle.bw_session.specs.declared.statement_state.StatementState.TheVariants.{Comment, Ended}
use Rattle.bw_session.specs.StatementState.{after, is_ended, statement_state_after}
use Rattle.bw_session.specs.Statements.{IsOpen, ends_statement, has_comment, is_blank, last_line}
use Rattle.bw_session.specs.Statements.{line_from}

statement_state_after-mid : (standing : StatementState) (bytes : List ℕ) (byte : ℕ) (rest : List ℕ)
    → statement_state_after standing (bytes ++ byte ∷ rest) ≡ statement_state_after (after (statement_state_after standing bytes) byte) rest
unfolding statement_state_after
statement_state_after-mid standing [] byte rest = refl
statement_state_after-mid standing (first ∷ bytes) byte rest = statement_state_after-mid (after standing first) bytes byte rest

pub statement_state_after-snoc : (standing : StatementState) (bytes : List ℕ) (byte : ℕ)
    → statement_state_after standing (bytes ++ byte ∷ []) ≡ after (statement_state_after standing bytes) byte
unfolding statement_state_after
statement_state_after-snoc standing bytes byte = statement_state_after-mid standing bytes byte []

-- what has ended has ended for good
not_before : (standing : StatementState) (byte : ℕ) → is_ended (after standing byte) ≡ false → is_ended standing ≡ false
not_before Ended byte goes = goes
not_before _ byte goes = refl

not_before_all : (standing : StatementState) (bytes : List ℕ) → is_ended (statement_state_after standing bytes) ≡ false
    → is_ended standing ≡ false
unfolding statement_state_after
not_before_all standing [] goes = goes
not_before_all standing (byte ∷ rest) goes = not_before standing byte (not_before_all (after standing byte) rest goes)

abbrev is_at_blank : StatementState → Bool
is_at_blank Blank = true
is_at_blank _ = false

abbrev is_in_comment : StatementState → Bool
is_in_comment Comment = true
is_in_comment _ = false

abbrev is_at_dash : StatementState → Bool
is_at_dash Dash = true
is_at_dash _ = false

abbrev ends_in_dash : List ℕ → Bool
ends_in_dash [] = false
ends_in_dash (byte ∷ []) = byte == 45
ends_in_dash (first ∷ second ∷ rest) = ends_in_dash (second ∷ rest)

-- a state says of the last line whether it's blank, has a comment, and ends in a dash that may
-- begin one
record Tracks (line : List ℕ) (standing : StatementState) : Type 0 where
  blank : list_all is_blank line ≡ is_at_blank standing
  comment : has_comment line ≡ is_in_comment standing
  dash : is_in_comment standing ≡ false → ends_in_dash line ≡ is_at_dash standing

all-snoc : (line : List ℕ) (byte : ℕ) → list_all is_blank (line ++ byte ∷ []) ≡ (list_all is_blank line && is_blank byte)
all-snoc line byte = list_all-append is_blank line (byte ∷ []) ∙ ap (λ b. list_all is_blank line && b) (and-true (is_blank byte))
  where
    and-true : (b : Bool) → (b && true) ≡ b
    and-true true = refl
    and-true false = refl

ends-snoc : (line : List ℕ) (byte : ℕ) → ends_in_dash (line ++ byte ∷ []) ≡ (byte == 45)
ends-snoc [] byte = refl
ends-snoc (first ∷ []) byte = refl
ends-snoc (first ∷ second ∷ rest) byte = ends-snoc (second ∷ rest) byte

comment-snoc : (line : List ℕ) (byte : ℕ)
    → has_comment (line ++ byte ∷ []) ≡ (has_comment line || (ends_in_dash line && (byte == 45)))
unfolding has_comment
comment-snoc [] byte = refl
comment-snoc (first ∷ []) byte = by_tests (first == 45) (byte == 45)
  where
    by_tests : (d e : Bool) → ((d && e) || (false || false)) ≡ ((false || false) || (d && e))
    by_tests true true = refl
    by_tests true false = refl
    by_tests false e = refl
comment-snoc (first ∷ second ∷ rest) byte =
    by_test ((first == 45) && (second == 45)) _ _ _ (comment-snoc (second ∷ rest) byte)
  where
    by_test : (b x y z : Bool) → x ≡ (y || z) → (b || x) ≡ ((b || y) || z)
    by_test true x y z e = refl
    by_test false x y z e = e

-- what a byte is to a statement: an LF, a semicolon, a dash, or another, which is blank or isn't
data Kind : ℕ → Type 0 where
  lf_byte : Kind 10
  end_byte : Kind 59
  dash_byte : Kind 45
  other_byte : {byte : ℕ} (blank : Bool) → is_blank byte ≡ blank → (byte == 10) ≡ false → (byte == 59) ≡ false
      → (byte == 45) ≡ false → Kind byte

kind_of : (byte : ℕ) → Kind byte
kind_of byte = elim (cases_eq byte 10) [
  | inl e ↦ subst Kind (sym e) lf_byte
  | inr no_feed ↦ elim (cases_eq byte 59) [
    | inl e ↦ subst Kind (sym e) end_byte
    | inr no_end ↦ elim (cases_eq byte 45) [
      | inl e ↦ subst Kind (sym e) dash_byte
      | inr no_dash ↦ other_byte (is_blank byte) refl (ne_eqb byte 10 no_feed) (ne_eqb byte 59 no_end) (ne_eqb byte 45 no_dash)
    ]
  ]
]

-- what a standing says after one more byte of the line
abbrev Says : (blank comment dash : Bool) → StatementState → Type 0
Says blank comment dash now =
    (blank ≡ is_at_blank now) × (comment ≡ is_in_comment now) × (is_in_comment now ≡ false → dash ≡ is_at_dash now)

-- a line gets one more byte, in a comment or not
in_comment : (line : List ℕ) (byte : ℕ) → Tracks line Comment → Tracks (line ++ byte ∷ []) Comment
in_comment line byte tracks = record {
  blank = all-snoc line byte ∙ ap (λ b. b && is_blank byte) tracks.blank;
  comment = comment-snoc line byte ∙ ap (λ c. c || (ends_in_dash line && (byte == 45))) tracks.comment;
  dash = λ e. absurd (cc e);
}

grows : (line : List ℕ) (byte : ℕ) (standing now : StatementState) → Tracks line standing → is_in_comment standing ≡ false
    → Says (is_at_blank standing && is_blank byte) (is_at_dash standing && (byte == 45)) (byte == 45) now
    → Tracks (line ++ byte ∷ []) now
grows line byte standing now tracks outside says = record {
  blank = all-snoc line byte ∙ ap (λ b. b && is_blank byte) tracks.blank ∙ says.0;
  comment = comment-snoc line byte ∙ ap (λ c. c || (ends_in_dash line && (byte == 45))) (tracks.comment ∙ outside)
      ∙ ap (λ d. d && (byte == 45)) (tracks.dash outside) ∙ says.1;
  dash = λ comment. ends-snoc line byte ∙ says.2 comment;
}

begins : Tracks [] Blank
unfolding has_comment
begins = record { blank = refl; comment = refl; dash = λ _. refl }

-- an LF that ends no statement begins a blank line
after_lf : (standing : StatementState) → is_ended (after standing 10) ≡ false → after standing 10 ≡ Blank
after_lf Comment goes = refl
after_lf _ goes = cc

step : (line : List ℕ) (byte : ℕ) (standing : StatementState) → Kind byte → Tracks line standing
    → is_ended (after standing byte) ≡ false → Tracks (if byte == 10 then [] else line ++ byte ∷ []) (after standing byte)
step line _ standing lf_byte tracks goes = subst (Tracks []) (sym (after_lf standing goes)) begins
step line _ Comment end_byte tracks goes = in_comment line 59 tracks
step line _ standing end_byte tracks goes = absurd (cc goes)
step line _ Comment dash_byte tracks goes = in_comment line 45 tracks
step line _ Ended dash_byte tracks goes = absurd (cc goes)
step line _ standing dash_byte tracks goes = grows line 45 standing _ tracks refl (refl, refl, λ e. cc)
step line byte Comment (other_byte blank b l s d) tracks goes = rw l (in_comment line byte tracks)
step line byte Ended (other_byte blank b l s d) tracks goes = absurd (cc goes)
step line byte Blank (other_byte true b l s d) tracks goes = rw (l, b) (grows line byte Blank Blank tracks refl (b, refl, λ _. d))
step line byte Blank (other_byte false b l s d) tracks goes = rw (l, b, s, d) (grows line byte Blank Text tracks refl (b, refl, λ _. d))
step line byte Text (other_byte blank b l s d) tracks goes = rw (l, s, d) (grows line byte Text Text tracks refl (refl, refl, λ _. d))
step line byte Dash (other_byte blank b l s d) tracks goes = rw (d, l, s) (grows line byte Dash Text tracks refl (refl, d, λ _. d))

tracks_all : (line : List ℕ) (standing : StatementState) (text : List ℕ) → Tracks line standing
    → is_ended (statement_state_after standing text) ≡ false → Tracks (line_from line text) (statement_state_after standing text)
unfolding statement_state_after line_from
tracks_all line standing [] tracks goes = tracks
tracks_all line standing (byte ∷ rest) tracks goes = tracks_all (if byte == 10 then [] else line ++ byte ∷ []) (after standing byte) rest
    (step line byte standing (kind_of byte) tracks (not_before_all (after standing byte) rest goes)) goes

ends_by : (standing : StatementState) (byte : ℕ) → Kind byte → is_ended standing ≡ false
    → (((byte == 59) && not (is_in_comment standing)) || ((byte == 10) && is_at_blank standing)) ≡ is_ended (after standing byte)
ends_by Ended byte kind goes = absurd (cc goes)
ends_by Blank byte (other_byte true b l s d) goes = rw (l, s, b) refl
ends_by Blank byte (other_byte false b l s d) goes = rw (l, s, b, d) refl
ends_by Text byte (other_byte blank b l s d) goes = rw (l, s, d) refl
ends_by Dash byte (other_byte blank b l s d) goes = rw (d, l, s) refl
ends_by Comment byte (other_byte blank b l s d) goes = rw (l, s) refl
ends_by _ _ _ goes = refl

-- the next byte ends the statement if and only if the reader's state says so
ends_as_read : (front : List ℕ) (byte : ℕ) → is_ended (statement_state_after Blank front) ≡ false
    → ends_statement front byte ≡ is_ended (after (statement_state_after Blank front) byte)
ends_as_read front byte goes =
    let tracks : Tracks (last_line front) (statement_state_after Blank front) = tracks_all [] Blank front begins goes in
    ap (λ c. ((byte == 59) && not c) || ((byte == 10) && list_all is_blank (last_line front))) tracks.comment
    ∙ ap (λ b. ((byte == 59) && not (is_in_comment (statement_state_after Blank front))) || ((byte == 10) && b)) tracks.blank
    ∙ ends_by (statement_state_after Blank front) byte (kind_of byte) goes

pub opened : (bytes : List ℕ) → is_ended (statement_state_after Blank bytes) ≡ false → IsOpen bytes
opened bytes goes front rest byte cut =
    let whole : is_ended (statement_state_after (after (statement_state_after Blank front) byte) rest) ≡ false =
    ap is_ended (sym (ap (statement_state_after Blank) cut ∙ statement_state_after-mid Blank front byte rest)) ∙ goes in
    let next : is_ended (after (statement_state_after Blank front) byte) ≡ false = not_before_all _ rest whole in
    ends_as_read front byte (not_before (statement_state_after Blank front) byte next) ∙ next

pub ended_by : (front : List ℕ) (byte : ℕ) → is_ended (statement_state_after Blank front) ≡ false
    → is_ended (after (statement_state_after Blank front) byte) ≡ true → ends_statement front byte ≡ true
ended_by front byte goes ended = ends_as_read front byte goes ∙ ended

pub none_opened : IsOpen []
unfolding statement_state_after
none_opened = opened [] refl
