-- How far a program file was cut, one line after another.
use Rattle.std.proofs.Common.{◌≡◌, ◌∙◌, ℕ, ◌+◌, ◌-◌, ◌<◌, ◌≤◌, Bool, true, false, not, ◌&&◌, ◌⊎◌}
use Rattle.std.proofs.Common.{List, [], ◌∷◌, ◌++◌, length, take, cond, refl, sym, ap, inl, inr}
use Rattle.std.proofs.Common.{arith, append_assoc, append-nil, length-append}
use Rattle.std.specs.List.{list_all}
use Rattle.std.proofs.Math.Seq.{take-append_seam}
use Rattle.bw_text.specs.Lines.{cut_lines, is_line_feed, with_first, IsFirstLine}
use Rattle.bw_cert.specs.ProgramFile.{IsCut, before_divider, after_divider, number_after, divides}

-- a line in front of a line feed and a rest
feed_by : (b : Bool) (c : ℕ) (line : List ℕ) (rest : List ℕ) (lines : List (List ℕ)) → is_line_feed c ≡ b → (not b && list_all (λ x. not (is_line_feed x)) line) ≡ true
    → (list_all (λ x. not (is_line_feed x)) line ≡ true → lines ≡ line ∷ cut_lines rest) → cond b ([] ∷ lines) (with_first c lines) ≡ (c ∷ line) ∷ cut_lines rest
feed_by true c line rest lines e none is = cc
feed_by false c line rest lines e none is = rw (is none) refl

pub feed : (line rest : List ℕ) → list_all (λ x. not (is_line_feed x)) line ≡ true → cut_lines (line ++ (10 ∷ rest)) ≡ line ∷ cut_lines rest
unfolding cut_lines
feed [] rest none = refl
feed (c ∷ line) rest none = feed_by (is_line_feed c) c line rest (cut_lines (line ++ (10 ∷ rest))) refl none (feed line rest)

-- only nothing has no lines
with_some : (c : ℕ) (lines : List (List ℕ)) → with_first c lines ≡ [] → ⊥
with_some c [] e = cc
with_some c (line ∷ lines) e = cc

no_lines-by : (b : Bool) (c : ℕ) (lines : List (List ℕ)) → cond b ([] ∷ lines) (with_first c lines) ≡ [] → ⊥
no_lines-by true c lines e = cc
no_lines-by false c lines e = with_some c lines e

pub no_lines : (text : List ℕ) → cut_lines text ≡ [] → text ≡ []
unfolding cut_lines
no_lines [] e = refl
no_lines (c ∷ cs) e = absurd (no_lines-by (is_line_feed c) c (cut_lines cs) e)

-- this many bytes were read, all of lines that don't divide, and the rest begins with the line of
-- this number
pub record CutSoFar (file : List ℕ) (read : ℕ) (rest : List ℕ) (next : ℕ) : Type 0 where
  pub front : List ℕ
  pub whole : file ≡ front ++ rest
  pub count : read ≡ length front
  pub before : before_divider (cut_lines file) ≡ cut_lines front ++ before_divider (cut_lines rest)
  pub after : after_divider (cut_lines file) ≡ after_divider (cut_lines rest)
  pub number : number_after 1 (cut_lines file) ≡ number_after next (cut_lines rest)
  pub first : (1 ≤ next) × (next ≤ read + 1)
  pub more : (rest ≡ []) ⊎ ((tail : List ℕ) → cut_lines (front ++ tail) ≡ cut_lines front ++ cut_lines tail)

pub cut_none : (file : List ℕ) → CutSoFar file 0 file 1
unfolding cut_lines
cut_none file = record {
  front = [];
  whole = refl;
  count = refl;
  before = refl;
  after = refl;
  number = refl;
  first = (omega arith, omega arith);
  more = inr (λ tail. refl);
}

passed_before : (line : List ℕ) (lines : List (List ℕ)) → divides line ≡ false → before_divider (line ∷ lines) ≡ line ∷ before_divider lines
unfolding before_divider
passed_before line lines e = rw e refl

passed_after : (line : List ℕ) (lines : List (List ℕ)) → divides line ≡ false → after_divider (line ∷ lines) ≡ after_divider lines
unfolding after_divider
passed_after line lines e = rw e refl

passed_number : (n : ℕ) (line : List ℕ) (lines : List (List ℕ)) → divides line ≡ false → number_after n (line ∷ lines) ≡ number_after (n + 1) lines
unfolding number_after
passed_number n line lines e = rw e refl

pub nothing_fed : (line rest : List ℕ) → line ++ (10 ∷ rest) ≡ [] → ⊥
nothing_fed [] rest e = cc
nothing_fed (c ∷ line) rest e = cc

still_open : {A : Type 0} {text : List ℕ} → (text ≡ []) ⊎ A → ((text ≡ []) → ⊥) → A
still_open (inl e) other = absurd (other e)
still_open (inr a) other = a

nothing_cut : cut_lines [] ≡ []
unfolding cut_lines
nothing_cut = refl

cut_something : (line : List ℕ) (lines : List (List ℕ)) → line ∷ lines ≡ [] → ⊥
cut_something line lines e = cc

some_length : (text : List ℕ) → ((text ≡ []) → ⊥) → 0 < length text
some_length [] other = absurd (other refl)
some_length (c ∷ cs) other = omega arith

-- a line that doesn't divide is passed over, with its line feed
fed : (file : List ℕ) (read : ℕ) (text : List ℕ) (number : ℕ) (line rest : List ℕ) → CutSoFar file read text number → list_all (λ x. not (is_line_feed x)) line ≡ true
    → text ≡ line ++ (10 ∷ rest) → cut_lines text ≡ line ∷ cut_lines rest → divides line ≡ false → CutSoFar file (length file - length rest) rest (number + 1)
fed file read text number line rest s none is cut other =
    let open_text : (text ≡ []) → ⊥ = λ e. nothing_fed line rest (sym is ∙ e) in
    let goes : (tail : List ℕ) → cut_lines (s.front ++ tail) ≡ cut_lines s.front ++ cut_lines tail = still_open s.more open_text in
    let piece : List ℕ = line ++ (10 ∷ []) in
    let one : cut_lines (s.front ++ piece) ≡ cut_lines s.front ++ (line ∷ []) = goes piece ∙ ap (λ xs. cut_lines s.front ++ xs) (feed line [] none ∙ ap (λ xs. line ∷ xs) nothing_cut) in
    let all : file ≡ (s.front ++ piece) ++ rest = s.whole ∙ ap (λ xs. s.front ++ xs) (is ∙ sym (append_assoc line (10 ∷ []) rest)) ∙ sym (append_assoc s.front piece rest) in
    let total : length file ≡ length (s.front ++ piece) + length rest = ap length all ∙ length-append (s.front ++ piece) rest in
    let longer : length (s.front ++ piece) ≡ length s.front + (length line + 1) = length-append s.front piece ∙ ap (λ n. length s.front + n) (length-append line (10 ∷ [])) in
    record {
      front = s.front ++ piece;
      whole = all;
      count = omega (arith, total);
      before = s.before ∙ ap (λ xs. cut_lines s.front ++ before_divider xs) cut ∙ ap (λ xs. cut_lines s.front ++ xs) (passed_before line (cut_lines rest) other)
          ∙ sym (append_assoc (cut_lines s.front) (line ∷ []) (before_divider (cut_lines rest))) ∙ ap (λ xs. xs ++ before_divider (cut_lines rest)) (sym one);
      after = s.after ∙ ap after_divider cut ∙ passed_after line (cut_lines rest) other;
      number = s.number ∙ ap (number_after number) cut ∙ passed_number number line (cut_lines rest) other;
      first = (omega (arith, s.first.0), omega (arith, s.first.1, total, longer, s.count));
      more = inr (λ tail. ap cut_lines (append_assoc s.front piece tail) ∙ goes (piece ++ tail)
          ∙ ap (λ xs. cut_lines s.front ++ xs) (ap cut_lines (append_assoc line (10 ∷ []) tail) ∙ feed line tail none)
          ∙ sym (append_assoc (cut_lines s.front) (line ∷ []) (cut_lines tail)) ∙ ap (λ xs. xs ++ cut_lines tail) (sym one));
    }

-- and so is the last one, which has none
last : (file : List ℕ) (read : ℕ) (text : List ℕ) (number : ℕ) (line rest : List ℕ) → CutSoFar file read text number
    → text ≡ line → rest ≡ [] → cut_lines text ≡ line ∷ cut_lines rest → divides line ≡ false → CutSoFar file (length file - length rest) rest (number + 1)
unfolding before_divider
last file read text number line rest s is none cut other =
    let open_text : (text ≡ []) → ⊥ = λ e. cut_something line (cut_lines rest) (sym cut ∙ ap cut_lines e ∙ nothing_cut) in
    let goes : (tail : List ℕ) → cut_lines (s.front ++ tail) ≡ cut_lines s.front ++ cut_lines tail = still_open s.more open_text in
    let ended : cut_lines rest ≡ [] = ap cut_lines none ∙ nothing_cut in
    let all : cut_lines file ≡ cut_lines s.front ++ (line ∷ []) = ap cut_lines s.whole ∙ goes text ∙ ap (λ xs. cut_lines s.front ++ xs) (cut ∙ ap (λ xs. line ∷ xs) ended) in
    let short : length rest ≡ 0 = ap length none in
    let total : length file ≡ length s.front + length text = ap length s.whole ∙ length-append s.front text in
    let some : 0 < length text = some_length text open_text in
    record {
      front = file;
      whole = sym (append-nil file) ∙ ap (λ xs. file ++ xs) (sym none);
      count = omega (arith, short);
      before = s.before ∙ ap (λ xs. cut_lines s.front ++ before_divider xs) (cut ∙ ap (λ xs. line ∷ xs) ended)
          ∙ ap (λ xs. cut_lines s.front ++ xs) (passed_before line [] other) ∙ sym all ∙ sym (append-nil (cut_lines file))
          ∙ ap (λ xs. cut_lines file ++ before_divider xs) (sym ended);
      after = s.after ∙ ap after_divider cut ∙ passed_after line (cut_lines rest) other;
      number = s.number ∙ ap (number_after number) cut ∙ passed_number number line (cut_lines rest) other;
      first = (omega (arith, s.first.0), omega (arith, s.first.1, total, short, some, s.count));
      more = inl none;
    }

pub passed : (file : List ℕ) (read : ℕ) (text : List ℕ) (number : ℕ) (line rest : List ℕ) → CutSoFar file read text number → IsFirstLine text line rest
    → cut_lines text ≡ line ∷ cut_lines rest → divides line ≡ false → CutSoFar file (length file - length rest) rest (number + 1)
passed file read text number line rest s (none, inl is) cut other = fed file read text number line rest s none is cut other
passed file read text number line rest s (none, inr is) cut other = last file read text number line rest s is.0 is.1 cut other

-- at a line that divides
pub cut_there : (file : List ℕ) (read : ℕ) (text : List ℕ) (number : ℕ) (line rest : List ℕ) → CutSoFar file read text number
    → cut_lines text ≡ line ∷ cut_lines rest → divides line ≡ true → IsCut file (take read file) rest (number + 1)
unfolding before_divider after_divider number_after
cut_there file read text number line rest s cut divider =
    let front : take read file ≡ s.front = ap (λ n. take n file) s.count ∙ ap (take (length s.front)) s.whole ∙ take-append_seam s.front text in
    let here : before_divider (line ∷ cut_lines rest) ≡ [] = rw divider refl in
    let after : after_divider (line ∷ cut_lines rest) ≡ cut_lines rest = rw divider refl in
    let there : number_after number (line ∷ cut_lines rest) ≡ number + 1 = rw divider refl in
    record {
      before = ap cut_lines front ∙ sym (append-nil (cut_lines s.front)) ∙ ap (λ xs. cut_lines s.front ++ xs) (sym here) ∙ ap (λ xs. cut_lines s.front ++ before_divider xs) (sym cut) ∙ sym s.before;
      after = sym (s.after ∙ ap after_divider cut ∙ after);
      number = sym (s.number ∙ ap (number_after number) cut ∙ there);
    }

-- at the end, if no line did
pub cut_nowhere : (file : List ℕ) (read : ℕ) (text : List ℕ) (number : ℕ) → CutSoFar file read text number → cut_lines text ≡ [] → IsCut file file [] number
unfolding before_divider after_divider number_after
cut_nowhere file read text number s cut =
    let front : file ≡ s.front = s.whole ∙ ap (λ xs. s.front ++ xs) (no_lines text cut) ∙ append-nil s.front in
    record {
      before = ap cut_lines front ∙ sym (append-nil (cut_lines s.front)) ∙ ap (λ xs. cut_lines s.front ++ before_divider xs) (sym cut) ∙ sym s.before;
      after = nothing_cut ∙ ap after_divider (sym cut) ∙ sym s.after;
      number = ap (number_after number) (sym cut) ∙ sym s.number;
    }

-- what was read and what is left make the file, and each line takes some
pub within : (file : List ℕ) (read : ℕ) (text : List ℕ) (number : ℕ) → CutSoFar file read text number → read + length text ≡ length file
within file read text number s =
    let total : length file ≡ length s.front + length text = ap length s.whole ∙ length-append s.front text in
    omega (arith, total, s.count)

pub shorter : (text line rest : List ℕ) → IsFirstLine text line rest → cut_lines text ≡ line ∷ cut_lines rest → length rest < length text
shorter text line rest (none, inl is) cut =
    let total : length text ≡ length line + length (10 ∷ rest) = ap length is ∙ length-append line (10 ∷ rest) in
    omega (arith, total)
shorter text line rest (none, inr is) cut =
    let open_text : (text ≡ []) → ⊥ = λ e. cut_something line (cut_lines rest) (sym cut ∙ ap cut_lines e ∙ nothing_cut) in
    let some : 0 < length text = some_length text open_text in
    let short : length rest ≡ 0 = ap length is.1 in
    omega (arith, some, short)

pub numbered_within : (file : List ℕ) (read : ℕ) (text : List ℕ) (number : ℕ) → CutSoFar file read text number → (1 ≤ number) × (number ≤ length file + 1)
numbered_within file read text number s =
    let total : read + length text ≡ length file = within file read text number s in
    (s.first.0, omega (arith, s.first.1, total))
