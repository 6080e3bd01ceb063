-- The lines of a text of numbers, one more at a time.
use Rattle.std.proofs.Common.{length, ◌≢◌, ◌==◌, if◌then◌else◌}
use Rattle.std.proofs.Common.{◌≡◌, ℕ, zero, suc, ◌+◌, ◌-◌, ◌<◌, List, [], ◌∷◌, ◌++◌, drop, Ok, Err}
use Rattle.std.proofs.Common.{Option, Some, None, Bool, true, false, not, codes, Vec}
use Rattle.std.proofs.Common.{refl, ap, arith}
use Rattle.std.specs.declared.alloc.Global.{Global}
use Rattle.std.specs.Option.{option_map}
use Rattle.std.proofs.lemmas.List.{append-nil}
use Rattle.bw_model.specs.declared.fault.Fault.{Fault}
use Rattle.bw_text.specs.Lines.{cut_lines, is_line_feed, with_first}
use Rattle.bw_text.specs.Text.{same_text}
use Rattle.bw_model.specs.declared.column.Column.{Column}
use Rattle.bw_model.specs.Code.{span_of}
use Rattle.bw_model.specs.Fault.{at_line, refused_if, MatchesUnlessOom}
use Rattle.bw_csv.specs.Rule.{rule_of}
use Rattle.bw_model.specs.Row.{Value}
use Rattle.bw_csv.specs.declared.rule.FieldRule.{FieldRule}
use Rattle.bw_csv.proofs.FieldLemmas.{after, after-cons}
use Rattle.bw_recode.specs.Numbers.{is_narrower, keeps_nulls, value_of_line, values_of_lines}
use Rattle.bw_recode.specs.Numbers.{Replacement, lines_of, replacement_at, replacements_from}

-- one more value
pub values-next : (rule : FieldRule) (count less number : ℕ) (lines more : List (List ℕ)) (line : List ℕ) (value : Value) (done : List Value)
    → count ≡ suc less → lines ≡ line ∷ more → value_of_line rule number line ≡ Ok value
    → after done (values_of_lines rule count number lines) ≡ after (done ++ value ∷ []) (values_of_lines rule less (number + 1) more)
unfolding values_of_lines
values-next rule count less number lines more line value done c l v = rw (c, l, v) (after-cons done value (values_of_lines rule less (number + 1) more))

pub values-fault : (rule : FieldRule) (count less number : ℕ) (lines more : List (List ℕ)) (line : List ℕ) (fault : Fault) (done : List Value)
    → count ≡ suc less → lines ≡ line ∷ more → value_of_line rule number line ≡ Err fault
    → after done (values_of_lines rule count number lines) ≡ Err fault
unfolding values_of_lines
values-fault rule count less number lines more line fault done c l v = rw (c, l, v) refl

pub values-short : (rule : FieldRule) (count less number : ℕ) (lines : List (List ℕ)) (done : List Value)
    → count ≡ suc less → lines ≡ [] → after done (values_of_lines rule count number lines) ≡ Err (at_line 203 number)
unfolding values_of_lines
values-short rule count less number lines done c l = rw (c, l) refl

pub values-end : (rule : FieldRule) (count number : ℕ) (lines : List (List ℕ)) (done : List Value)
    → count ≡ 0 → after done (values_of_lines rule count number lines) ≡ Ok done
unfolding values_of_lines
values-end rule count number lines done c = rw c (ap Ok (append-nil done))

-- what is left, if not all were read
pub less_by_one : (done most : ℕ) → done < most → most - done ≡ suc (most - (done + 1))
less_by_one done most lt = omega (arith, lt)

-- the lines after one more
pub rest_after : {A : Type 0} (done : ℕ) (lines : List A) (line : A) (more : List A) → drop done lines ≡ line ∷ more → more ≡ drop (done + 1) lines
rest_after zero [] line more e = absurd (cc e)
rest_after zero (l ∷ lines) line more e = cc e
rest_after (suc done) [] line more e = absurd (cc e)
rest_after (suc done) (l ∷ lines) line more e =
    let one : suc done + 1 ≡ suc (done + 1) = omega arith in
    rw one (rest_after done lines line more e)

-- what a line says of a column, by its word
pub replacement-none : (old new : Column) (number : ℕ) (lines : List (List ℕ)) → lines ≡ [] → replacement_at old new number lines ≡ Err (at_line 203 number)
unfolding replacement_at
replacement-none old new number lines l = rw l refl

pub replacement-null : (old new : Column) (number : ℕ) (lines more : List (List ℕ)) (line : List ℕ) → lines ≡ line ∷ more → keeps_nulls old new ≡ false
    → replacement_at old new number lines ≡ Err (at_line 206 number)
unfolding replacement_at
replacement-null old new number lines more line l kept = rw (l, kept) refl

pub replacement-kept : (old new : Column) (number : ℕ) (lines more : List (List ℕ)) (line : List ℕ) → lines ≡ line ∷ more → keeps_nulls old new ≡ true
    → same_text line (codes "KEEP") ≡ true → replacement_at old new number lines ≡ refused_if (not (is_narrower old new)) (at_line 205 number) (Ok None)
unfolding replacement_at
replacement-kept old new number lines more line l kept keep = rw (l, kept, keep) refl

pub replacement-other : (old new : Column) (number : ℕ) (lines more : List (List ℕ)) (line : List ℕ) → lines ≡ line ∷ more → keeps_nulls old new ≡ true
    → same_text line (codes "KEEP") ≡ false → same_text line (codes "CODES") ≡ false → replacement_at old new number lines ≡ Err (at_line 203 number)
unfolding replacement_at
replacement-other old new number lines more line l kept keep listed = rw (l, kept, keep, listed) refl

pub replacement-fault : (old new : Column) (number : ℕ) (lines more : List (List ℕ)) (line : List ℕ) (fault : Fault) → lines ≡ line ∷ more → keeps_nulls old new ≡ true
    → same_text line (codes "KEEP") ≡ false → same_text line (codes "CODES") ≡ true → values_of_lines (rule_of new) (span_of old + 1) (number + 1) more ≡ Err fault
    → replacement_at old new number lines ≡ Err fault
unfolding replacement_at
replacement-fault old new number lines more line fault l kept keep listed e = rw (l, kept, keep, listed, e) refl

pub replacement-listed : (old new : Column) (number : ℕ) (lines more : List (List ℕ)) (line : List ℕ) (values : List Value) → lines ≡ line ∷ more → keeps_nulls old new ≡ true
    → same_text line (codes "KEEP") ≡ false → same_text line (codes "CODES") ≡ true → values_of_lines (rule_of new) (span_of old + 1) (number + 1) more ≡ Ok values
    → replacement_at old new number lines ≡ Ok (Some values)
unfolding replacement_at
replacement-listed old new number lines more line values l kept keep listed e = rw (l, kept, keep, listed, e) refl

-- that a column is kept, or the error, is the same in the code and in the definition
pub kept_matches : (b : Bool) (fault : Fault) → MatchesUnlessOom {A = Option (Vec Value Global)} {B = Replacement} (option_map (λ values. values.items))
    (refused_if b fault (Ok None)) (refused_if b fault (Ok None))
kept_matches true fault = λ kept. refl
kept_matches false fault = refl

-- a text with bytes has a line
some_line : (text : List ℕ) → 0 < length text → cut_lines text ≢ []
unfolding cut_lines
some_line [] some = absurd (omega (arith, some))
some_line (c ∷ cs) some = λ e. by (is_line_feed c) e
  where
    by : (b : Bool) → (if b then [] ∷ cut_lines cs else with_first c (cut_lines cs)) ≡ [] → ⊥
    by true e = absurd (cc e)
    by false e = first (cut_lines cs) e
      where
        first : (lines : List (List ℕ)) → with_first c lines ≡ [] → ⊥
        first [] e = absurd (cc e)
        first (line ∷ lines) e = absurd (cc e)

pub some_bytes : (text : List ℕ) → (length text == 0) ≡ false → 0 < length text
some_bytes [] some = absurd (cc some)
some_bytes (c ∷ cs) some = omega arith

-- one more column
pub from-next : (olds olds2 news news2 : List Column) (old new : Column) (number : ℕ) (lines : List (List ℕ)) (r : Replacement) (done : List Replacement)
    → olds ≡ old ∷ olds2 → news ≡ new ∷ news2 → replacement_at old new number lines ≡ Ok r
    → after done (replacements_from olds news number lines) ≡ after (done ++ r ∷ []) (replacements_from olds2 news2 (number + lines_of r) (drop (lines_of r) lines))
unfolding replacements_from
from-next olds olds2 news news2 old new number lines r done o n e = rw (o, n, e) (after-cons done r (replacements_from olds2 news2 (number + lines_of r) (drop (lines_of r) lines)))

pub from-fault : (olds olds2 news news2 : List Column) (old new : Column) (number : ℕ) (lines : List (List ℕ)) (fault : Fault) (done : List Replacement)
    → olds ≡ old ∷ olds2 → news ≡ new ∷ news2 → replacement_at old new number lines ≡ Err fault
    → after done (replacements_from olds news number lines) ≡ Err fault
unfolding replacements_from
from-fault olds olds2 news news2 old new number lines fault done o n e = rw (o, n, e) refl

pub from-missing : (olds olds2 news : List Column) (old : Column) (number : ℕ) (lines : List (List ℕ)) (done : List Replacement)
    → olds ≡ old ∷ olds2 → news ≡ [] → after done (replacements_from olds news number lines) ≡ Err (at_line 203 number)
unfolding replacements_from
from-missing olds olds2 news old number lines done o n = rw (o, n) refl

-- no column is left, and no new column or line should be
pub from-more : (olds news : List Column) (number : ℕ) (lines : List (List ℕ)) (done : List Replacement)
    → olds ≡ [] → 0 < length news → after done (replacements_from olds news number lines) ≡ Err (at_line 203 number)
unfolding replacements_from
from-more olds [] number lines done o some = absurd (omega (arith, some))
from-more olds (new ∷ news) number lines done o some = rw o refl

pub from-line : (olds news : List Column) (number : ℕ) (text : List ℕ) (done : List Replacement)
    → olds ≡ [] → news ≡ [] → 0 < length text → after done (replacements_from olds news number (cut_lines text)) ≡ Err (at_line 203 number)
unfolding replacements_from
from-line olds news number text done o n some = rw (o, n) (by (cut_lines text) (some_line text some))
  where
    by : (lines : List (List ℕ)) → lines ≢ [] → after done (replacements_from [] [] number lines) ≡ Err (at_line 203 number)
    by [] some = absurd (some refl)
    by (line ∷ lines) some = refl

pub from-end : (olds news : List Column) (number : ℕ) (text : List ℕ) (done : List Replacement)
    → olds ≡ [] → news ≡ [] → length text ≡ 0 → after done (replacements_from olds news number (cut_lines text)) ≡ Ok done
unfolding replacements_from cut_lines
from-end olds news number [] done o n none = rw (o, n) (ap Ok (append-nil done))
from-end olds news number (c ∷ text) done o n none = absurd (omega (arith, none))
