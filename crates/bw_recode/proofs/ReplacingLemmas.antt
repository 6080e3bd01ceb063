-- Replaced values are those that the new columns admit.
use Rattle.std.proofs.Common.{◌≡◌, ◌∙◌, ℕ, zero, suc, ◌+◌, ◌<◌, List, [], ◌∷◌, length}
use Rattle.std.proofs.Common.{get_or, Option, Some, None, Result, Ok, Err, Bool, true, false, not}
use Rattle.std.proofs.Common.{◌&&◌, ◌||◌, refl, sym, ap, arith, ℤ, int_le, unsigned_abs, ◌-ℤ◌}
use Rattle.std.proofs.Common.{drop, codes, Vec}
use Rattle.std.specs.declared.alloc.Global.{Global}
use Rattle.std.specs.Option.{option_map}
use Rattle.std.proofs.lemmas.Bool.{and_from, cond_both, not-false}
use Rattle.std.proofs.lemmas.Int.{ints}
use Rattle.bw_text.specs.Text.{same_text}
use Rattle.bw_model.specs.declared.fault.Fault.{Fault}
use Rattle.bw_model.specs.Fault.{◌>>=◌, at_line}
use Rattle.bw_model.proofs.FaultLemmas.{bind_ok, not_refused}
use Rattle.bw_csv.specs.Rule.{allows, rule_of}
use Rattle.bw_csv.specs.Rows.{value_of_field}
use Rattle.bw_csv.proofs.RowLemmas.{value_admitted}
use Rattle.bw_model.specs.declared.column.Column.{Column}
use Rattle.bw_model.specs.Code.{code_of, span_of}
use Rattle.bw_model.specs.Column.{admits_value, admits_values}
use Rattle.bw_model.specs.Row.{Value}
use Rattle.bw_model.proofs.BitsLemmas.{both, code_in_span}
use Rattle.bw_recode.specs.Numbers.{Replacement, is_narrower, keeps_nulls, lines_of, on_line}
use Rattle.bw_recode.specs.Numbers.{value_of_line, values_of_lines, replacement_at, replacements_from}
use Rattle.bw_recode.specs.Recode.{IsReplacing, entry_of, replaced, replaced_at, replaced_row}
use Rattle.bw_recode.specs.Recode.{replacements_in}

-- a row that was replaced has a value for each column
pub length-replaced_row : (columns : List Column) (replacements : List Replacement) (values : List Value)
    → length replacements ≡ length columns → length values ≡ length columns → length (replaced_row columns replacements values) ≡ length columns
unfolding replaced_row
length-replaced_row [] replacements values same wide = refl
length-replaced_row (c ∷ columns) [] values same wide = absurd (omega (arith, same))
length-replaced_row (c ∷ columns) (r ∷ replacements) [] same wide = absurd (omega (arith, wide))
length-replaced_row (c ∷ columns) (r ∷ replacements) (value ∷ values) same wide =
    ap suc (length-replaced_row columns replacements values (omega (arith, same)) (omega (arith, wide)))

-- the value of a column in such a row
pub value_replaced : (columns : List Column) (replacements : List Replacement) (values : List Value) (col : ℕ)
    → length replacements ≡ length columns → length values ≡ length columns → col < length columns
    → get_or (replaced_row columns replacements values) col None ≡ replaced_at columns col (get_or replacements col None) (get_or values col None)
unfolding replaced_row
value_replaced [] replacements values col same wide lt = absurd (omega (arith, lt))
value_replaced (c ∷ columns) [] values col same wide lt = absurd (omega (arith, same))
value_replaced (c ∷ columns) (r ∷ replacements) [] col same wide lt = absurd (omega (arith, wide))
value_replaced (c ∷ columns) (None ∷ replacements) (value ∷ values) zero same wide lt = refl
value_replaced (c ∷ columns) (Some list ∷ replacements) (value ∷ values) zero same wide lt = refl
value_replaced (c ∷ columns) (r ∷ replacements) (value ∷ values) (suc col) same wide lt =
    value_replaced columns replacements values col (omega (arith, same)) (omega (arith, wide)) (omega (arith, lt))
    ∙ at_next c columns col (get_or replacements col None) (get_or values col None)
  where
    at_next : (c : Column) (columns : List Column) (col : ℕ) (r : Replacement) (value : Value) → replaced_at columns col r value ≡ replaced_at (c ∷ columns) (suc col) r value
    at_next c columns col None value = refl
    at_next c columns col (Some list) value = refl

-- the replacement that the code stores for a column
pub stored_at : (replacements : List (Option (Vec Value Global))) (col : ℕ) → get_or (replacements_in replacements) col None ≡ option_map (λ values. values.items) (get_or replacements col None)
stored_at [] col = refl
stored_at (r ∷ replacements) zero = refl
stored_at (r ∷ replacements) (suc col) = stored_at replacements col

-- a null that the old column may have is allowed in the new one
null_kept : (old new : Column) → keeps_nulls old new ≡ true → old.nullable ≡ true → new.nullable ≡ true
null_kept old new kept is = by old.nullable new.nullable kept is
  where
    by : (a b : Bool) → (not a || b) ≡ true → a ≡ true → b ≡ true
    by true b kept is = kept
    by false b kept is = absurd (cc is)

-- a column with wider bounds admits the same values
narrower_admits : (old new : Column) (value : Value) → keeps_nulls old new ≡ true → is_narrower old new ≡ true → admits_value old value ≡ true → admits_value new value ≡ true
narrower_admits old new None kept narrow is = null_kept old new kept is
narrower_admits old new (Some n) kept narrow is = within new.lo old.lo n old.hi new.hi narrow is
  where
    within : (a b n c d : ℤ) → (int_le a b && int_le c d) ≡ true → (int_le b n && int_le n c) ≡ true → (int_le a n && int_le n d) ≡ true
    within a b n c d narrow is = grind (arith, ints)

-- the values of lines are as many as wanted, and the new column admits each
values_admitted : (new : Column) (count number : ℕ) (lines : List (List ℕ)) (values : List Value) → values_of_lines (rule_of new) count number lines ≡ Ok values
    → (length values ≡ count) × ((code : ℕ) → code < count → admits_value new (get_or values code None) ≡ true)
unfolding values_of_lines
values_admitted new zero number lines values e =
    let same : ◌≡◌ {A = List Value} [] values = cc in
    rw (← same) (refl, λ code lt. absurd (omega (arith, lt)))
values_admitted new (suc count) number [] values e = absurd (cc e)
values_admitted new (suc count) number (line ∷ lines) values e =
    let one = bind_ok (value_of_line (rule_of new) number line) (λ value. values_of_lines (rule_of new) count (number + 1) lines >>= λ rest. Ok (value ∷ rest)) values e in
    let more = bind_ok (values_of_lines (rule_of new) count (number + 1) lines) (λ rest. Ok (one.0 ∷ rest)) values one.2 in
    let same : ◌≡◌ {A = List Value} (one.0 ∷ more.0) values = cc more.2 in
    let others = values_admitted new count (number + 1) lines more.0 more.1 in
    let first : admits_value new one.0 ≡ true = sym (allowed_alike new one.0) ∙ value_admitted 0 (rule_of new) line one.0 (on_line_ok number (value_of_field 0 (rule_of new) line) one.0 one.1) in
    rw (← same) (ap suc others.0, λ code lt. each new one.0 more.0 count first others.1 code lt)
  where
    allowed_alike : (column : Column) (value : Value) → allows (rule_of column) value ≡ admits_value column value
    allowed_alike column None = refl
    allowed_alike column (Some n) = refl

    on_line_ok : (number : ℕ) (r : Result Value Fault) (value : Value) → on_line number r ≡ Ok value → r ≡ Ok value
    on_line_ok number (Ok x) value e = e
    on_line_ok number (Err fault) value e = absurd (cc e)

    each : (new : Column) (value : Value) (values : List Value) (count : ℕ) → admits_value new value ≡ true
        → ((code : ℕ) → code < count → admits_value new (get_or values code None) ≡ true) → (code : ℕ) → code < suc count → admits_value new (get_or (value ∷ values) code None) ≡ true
    each new value values count first others zero lt = first
    each new value values count first others (suc code) lt = others code (omega (arith, lt))

-- an entry for a value that the old column admits is one that the new column admits
entry_admitted : (old new : Column) (list : List Value) (value : Value) → keeps_nulls old new ≡ true
    → ((code : ℕ) → code < span_of old + 1 → admits_value new (get_or list code None) ≡ true) → admits_value old value ≡ true → admits_value new (entry_of list (code_of old value)) ≡ true
entry_admitted old new list None kept each is = null_kept old new kept is
entry_admitted old new list (Some n) kept each is =
    rw is (each (unsigned_abs (n -ℤ old.lo)) (omega (arith, code_in_span old.lo old.hi n is)))

-- a replacement that lines spell fits
fits : (old new : Column) (number : ℕ) (lines : List (List ℕ)) (replacement : Replacement) → replacement_at old new number lines ≡ Ok replacement
    → (value : Value) → admits_value old value ≡ true → admits_value new (replaced old replacement value) ≡ true
unfolding replacement_at
fits old new number [] replacement e value is = absurd (cc e)
fits old new number (line ∷ lines) replacement e value is =
    let open_ = not_refused (not (keeps_nulls old new)) (at_line 206 number) _ replacement e in
    let kept : keeps_nulls old new ≡ true = not-false _ open_.0 in
    cond_both (same_text line (codes "KEEP")) _ _ (λ (r : Result Replacement Fault). r ≡ Ok replacement → admits_value new (replaced old replacement value) ≡ true)
    (λ keep e. let p = not_refused (not (is_narrower old new)) (at_line 205 number) (Ok None) replacement e in
    let same : ◌≡◌ {A = Replacement} None replacement = cc p.1 in rw (← same) (narrower_admits old new value kept (not-false _ p.0) is))
    (λ other e. cond_both (same_text line (codes "CODES")) _ _ (λ (r : Result Replacement Fault). r ≡ Ok replacement → admits_value new (replaced old replacement value) ≡ true)
    (λ listed e. let p = bind_ok (values_of_lines (rule_of new) (span_of old + 1) (number + 1) lines) (λ values. Ok (Some values)) replacement e in
    let same : ◌≡◌ {A = Replacement} (Some p.0) replacement = cc p.2 in
    rw (← same) (entry_admitted old new p.0 value kept (values_admitted new (span_of old + 1) (number + 1) lines p.0 p.1).1 is))
    (λ neither e. absurd (cc e)) e) open_.1

-- replacements that a text spells fit
pub replacing : (olds news : List Column) (number : ℕ) (lines : List (List ℕ)) (replacements : List Replacement) → replacements_from olds news number lines ≡ Ok replacements
    → IsReplacing olds news replacements
unfolding replacements_from replaced_row
replacing [] [] number [] replacements e =
    let same : ◌≡◌ {A = List Replacement} [] replacements = cc e in
    rw (← same) (record { each = refl; admitted = none })
  where
    none : (row : List Value) → admits_values [] row ≡ true → admits_values [] (replaced_row [] [] row) ≡ true
    none row is = refl
replacing [] [] number (line ∷ lines) replacements e = absurd (cc e)
replacing [] (new ∷ news) number lines replacements e = absurd (cc e)
replacing (old ∷ olds) [] number lines replacements e = absurd (cc e)
replacing (old ∷ olds) (new ∷ news) number lines replacements e =
    let one = bind_ok (replacement_at old new number lines) _ replacements e in
    let more = bind_ok (replacements_from olds news (number + lines_of one.0) (drop (lines_of one.0) lines)) (λ others. Ok (one.0 ∷ others)) replacements one.2 in
    let same : ◌≡◌ {A = List Replacement} (one.0 ∷ more.0) replacements = cc more.2 in
    let others = replacing olds news (number + lines_of one.0) (drop (lines_of one.0) lines) more.0 more.1 in
    rw (← same) (record {
      each = ap suc others.each;
      admitted = next old new olds news one.0 more.0 (fits old new number lines one.0 one.1) others.admitted;
    })
  where
    next : (old new : Column) (olds news : List Column) (r : Replacement) (rs : List Replacement)
        → ((value : Value) → admits_value old value ≡ true → admits_value new (replaced old r value) ≡ true)
        → ((row : List Value) → admits_values olds row ≡ true → admits_values news (replaced_row olds rs row) ≡ true)
        → (row : List Value) → admits_values (old ∷ olds) row ≡ true → admits_values (new ∷ news) (replaced_row (old ∷ olds) (r ∷ rs) row) ≡ true
    next old new olds news r rs first others [] is = absurd (cc is)
    next old new olds news r rs first others (value ∷ values) is =
        let p = both (admits_value old value) (admits_values olds values) is in
        and_from _ _ (first value p.0) (others values p.1)

-- an entry of a list, whatever stands for those past its end
pub entry_read : {A : Type 0} (xs : List A) (i : ℕ) (x default : A) → i < length xs → x ≡ get_or xs i x → get_or xs i default ≡ x
entry_read [] i x default lt e = absurd (omega (arith, lt))
entry_read (y ∷ ys) zero x default lt e = sym e
entry_read (y ∷ ys) (suc i) x default lt e = entry_read ys i x default (omega (arith, lt)) e
