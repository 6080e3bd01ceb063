-- What is read of a program text is spelled by it, and what is spelled is read; what is spelled is
-- a program that fits.
use Rattle.std.proofs.Common.{◌≡◌, ◌∙◌, refl, sym, ap, subst, ℕ, suc, ◌+◌, ◌<◌, ◌≤◌, Bool, true}
use Rattle.std.proofs.Common.{false, cond, List, [], ◌∷◌, ◌++◌, length, drop, Option, Some, None}
use Rattle.std.proofs.Common.{Result, Ok, Err, nat_le, arith, append_assoc, length-append, add-one}
use Rattle.std.specs.List.{list_all}
use Rattle.std.specs.Prelude.{IfOk, IsTrue}
use Rattle.std.proofs.lemmas.Bool.{and_from, lt-ltb, le-leb, leb-false, lt-leb}
use Rattle.std.proofs.lemmas.List.{append-nil, length-map, map-append}
use Rattle.bw_model.specs.declared.column.Column.{Column}
use Rattle.bw_model.specs.declared.fault.Fault.{Fault}
use Rattle.bw_model.specs.Fault.{MatchesUnlessOom, at_line, ◌>>=◌, refused_if}
use Rattle.bw_text.specs.Lines.{NumberedWords, lines_in, end_in, whole}
use Rattle.bw_program.specs.declared.instr.Instr.{Instr}
use Rattle.bw_program.specs.declared.parse.Placed.{Placed}
use Rattle.bw_text.specs.declared.opcode.Opcode.{Opcode}
use Rattle.bw_text.specs.declared.opcode.Opcode.TheVariants as op
use Rattle.bw_text.specs.Opcode.{opcode_of}
use Rattle.bw_program.specs.Program.{ProgramShape, most_instructions, is_sound, are_sound}
use Rattle.bw_program.specs.Program.{is_program, instr_fits, fits}
use Rattle.bw_text.specs.Register.{is_register, register_of}
use Rattle.bw_text.proofs.RegisterLemmas.{register_is}
use Rattle.bw_model.proofs.NameLemmas.{named_column_is_there}
use Rattle.bw_program.specs.ProgramText.{found_on, names_result, opcode_in, is_result_line}
use Rattle.bw_program.specs.ProgramText.{result_after, within_end, goes_past, instrs_of}
use Rattle.bw_program.specs.ProgramText.{program_within, program_with_result, instr_on, program_on, program_of}
use Rattle.bw_program.specs.ProgramText.{SpellsInstr, SpellsLines, result_line, instr_line}
use Rattle.bw_program.specs.ProgramText.{IsProgramText}
use Rattle.bw_program.specs.ProgramText as text
use Rattle.bw_program.proofs.InstrSpelling.{instr_spelled, spelled_instr}

-- no instruction goes past the end
abbrev pub AllWithin : ℕ → List Placed → Type 0
AllWithin end [] = Unit {0}
AllWithin end (p ∷ placed) = (goes_past end p.instr ≡ false) × AllWithin end placed

within_read : (end : ℕ) (placed : List Placed) (x y : ProgramShape) → within_end end placed x ≡ Ok y → AllWithin end placed × (x ≡ y)
unfolding within_end
within_read end [] x y e = (tt, cc e)
within_read end (p ∷ placed) x y e = go (goes_past end p.instr) refl e (within_read end placed x y)
  where
    go : (b : Bool) → goes_past end p.instr ≡ b → refused_if b (at_line 504 p.line) (within_end end placed x) ≡ Ok y → (within_end end placed x ≡ Ok y → AllWithin end placed × (x ≡ y)) →
        AllWithin end (p ∷ placed) × (x ≡ y)
    go true is e more = absurd (cc e)
    go false is e more = let rest = more e in ((is, rest.0), rest.1)

read_within : (end : ℕ) (placed : List Placed) (x : ProgramShape) → AllWithin end placed → within_end end placed x ≡ Ok x
unfolding within_end
read_within end [] x all = refl
read_within end (p ∷ placed) x all = rw all.0 (read_within end placed x all.1)

within_after : (end : ℕ) (before rest : List Placed) → AllWithin end (before ++ rest) → AllWithin end rest
within_after end [] rest all = all
within_after end (p ∷ before) rest all = within_after end before rest all.1

within_more : (end : ℕ) (before : List Placed) (p : Placed) → AllWithin end before → goes_past end p.instr ≡ false → AllWithin end (before ++ p ∷ [])
within_more end [] p all here = (here, tt)
within_more end (q ∷ before) p all here = (all.0, within_more end before p all.1 here)

-- what was read of lines after instructions: those, and then the instructions that the lines spell
record Read (columns : List Column) (before : List Placed) (lines : List NumberedWords) (program : ProgramShape) : Type 0 where
  rest : List Placed
  instrs : program.instrs ≡ instrs_of (before ++ rest)
  within_limit : length (before ++ rest) ≤ most_instructions
  within : AllWithin (length (before ++ rest)) (before ++ rest)
  spelled : SpellsLines columns (length (before ++ rest)) (length before) lines (instrs_of rest) program.result

pub result_spelled : (columns : List Column) (end number line : ℕ) (words : List (List ℕ)) (lines : List NumberedWords) (result : ℕ) → names_result (opcode_in words) ≡ true →
    result_after line (drop 1 words) ≡ Ok result → lines ≡ [] → SpellsLines columns end number (record { number = line; words = words } ∷ lines) [] result
result_spelled columns end number line (word ∷ r ∷ []) lines result is e last = go (opcode_of word) (register_of r) refl refl is e
  where
    go : (o : Option Opcode) (n : Option ℕ) → opcode_of word ≡ o → register_of r ≡ n → names_result o ≡ true → found_on 502 line n ≡ Ok result →
        SpellsLines columns end number (record { number = line; words = word ∷ r ∷ [] } ∷ lines) [] result
    go (Some op.Result) (Some n) o r is e = let same : n ≡ result = cc e in rw last (result_line {result = result} o (r ∙ ap Some same))
    go (Some op.Result) None o r is e = absurd (cc e)
    go _ n o r is e = absurd (cc is)
result_spelled columns end number line _ lines result is e last = absurd (cc e)

-- the lines after the result's line, and the end
finished_read : (columns : List Column) (before : List Placed) (line : NumberedWords) (lines : List NumberedWords) (program : ProgramShape) →
    is_result_line line ≡ true → length before ≤ most_instructions →
    (result_after line.number (drop 1 line.words) >>= λ result. program_with_result before lines result) ≡ Ok program → Read columns before (line ∷ lines) program
finished_read columns before line lines program is few e = go (result_after line.number (drop 1 line.words)) lines refl refl e
  where
    go : (r : Result ℕ Fault) (rest : List NumberedWords) → result_after line.number (drop 1 line.words) ≡ r → lines ≡ rest →
        (r >>= λ result. program_with_result before rest result) ≡ Ok program → Read columns before (line ∷ lines) program
    go (Ok result) [] read none e =
        let program_within = within_read (length before) before (record { instrs = instrs_of before; result = result }) program e in
        let same : before ++ [] ≡ before = append-nil before in
        let shape : ProgramShape = record { instrs = instrs_of before; result = result } in
        let spelled = result_spelled columns (length (before ++ [])) (length before) line.number line.words lines result is read none in
        subst (Read columns before (line ∷ lines)) program_within.1 (record {
          rest = [];
          instrs = ap instrs_of (sym same);
          within_limit = subst (λ (p : List Placed). length p ≤ most_instructions) (sym same) few;
          within = subst (λ (p : List Placed). AllWithin (length p) p) (sym same) program_within.0;
          spelled = spelled;
        })
    go _ _ read none e = absurd (cc e)

program_read : (columns : List Column) (before : List Placed) (lines : List NumberedWords) (end : ℕ) (program : ProgramShape) → length before ≤ most_instructions →
    program_on columns before lines end ≡ Ok program → Read columns before lines program
unfolding program_on
program_read columns before [] end program few e = absurd (cc e)
program_read columns before (line ∷ lines) end program few e =
    go (is_result_line line) refl e (λ instr room. program_read columns (before ++ record { line = line.number; instr = instr } ∷ []) lines end program room)
  where
    next : (r : Result Instr Fault) → instr_on columns (length before) line ≡ r → length before < most_instructions →
        (r >>= λ instr. program_on columns (before ++ record { line = line.number; instr = instr } ∷ []) lines end) ≡ Ok program →
        ((instr : Instr) → length (before ++ record { line = line.number; instr = instr } ∷ []) ≤ most_instructions →
        program_on columns (before ++ record { line = line.number; instr = instr } ∷ []) lines end ≡ Ok program → Read columns (before ++ record { line = line.number; instr = instr } ∷ []) lines program) →
        Read columns before (line ∷ lines) program
    next (Err fault) read room e more = absurd (cc e)
    next (Ok instr) read room e more =
        let p : Placed = record { line = line.number; instr = instr } in
        let longer = length-append before (p ∷ []) in
        let after = more instr (omega arith) e in
        let same : (before ++ p ∷ []) ++ after.rest ≡ before ++ (p ∷ after.rest) = append_assoc before (p ∷ []) after.rest in
        let within = subst (λ (all : List Placed). AllWithin (length all) all) same after.within in
        let here = within_after (length (before ++ (p ∷ after.rest))) before (p ∷ after.rest) within in
        let first = instr_spelled columns (length (before ++ (p ∷ after.rest))) (length before) line instr read here.0 in
        let end_same : length ((before ++ p ∷ []) ++ after.rest) ≡ length (before ++ (p ∷ after.rest)) = ap length same in
        let number_same : length (before ++ p ∷ []) ≡ suc (length before) = longer ∙ add-one (length before) in
        let others : SpellsLines columns (length (before ++ (p ∷ after.rest))) (suc (length before)) lines (instrs_of after.rest) program.result =
        subst (λ (k : ℕ). SpellsLines columns (length (before ++ (p ∷ after.rest))) k lines (instrs_of after.rest) program.result) number_same
        (subst (λ (k : ℕ). SpellsLines columns k (length (before ++ p ∷ [])) lines (instrs_of after.rest) program.result) end_same after.spelled) in
        record {
          rest = p ∷ after.rest;
          instrs = after.instrs ∙ ap instrs_of same;
          within_limit = subst (λ (all : List Placed). length all ≤ most_instructions) same after.within_limit;
          within = within;
          spelled = instr_line first others;
        }

    go : (b : Bool) → is_result_line line ≡ b →
        cond b (result_after line.number (drop 1 line.words) >>= λ result. program_with_result before lines result)
        (refused_if (nat_le most_instructions (length before)) (at_line 505 line.number)
        (instr_on columns (length before) line >>= λ instr. program_on columns (before ++ record { line = line.number; instr = instr } ∷ []) lines end)) ≡ Ok program →
        ((instr : Instr) → length (before ++ record { line = line.number; instr = instr } ∷ []) ≤ most_instructions →
        program_on columns (before ++ record { line = line.number; instr = instr } ∷ []) lines end ≡ Ok program → Read columns (before ++ record { line = line.number; instr = instr } ∷ []) lines program) →
        Read columns before (line ∷ lines) program
    go true is e more = finished_read columns before line lines program is few e
    go false is e more = room (nat_le most_instructions (length before)) refl e
      where
        room : (b : Bool) → nat_le most_instructions (length before) ≡ b →
            refused_if b (at_line 505 line.number) (instr_on columns (length before) line >>= λ instr. program_on columns (before ++ record { line = line.number; instr = instr } ∷ []) lines end) ≡ Ok program →
            Read columns before (line ∷ lines) program
        room true long e = absurd (cc e)
        room false short e = next (instr_on columns (length before) line) refl (leb-false most_instructions (length before) short) e more

pub text_spelled : (columns : List Column) (bytes : List ℕ) (program : ProgramShape) → program_of columns bytes ≡ Ok program → IsProgramText columns bytes program
text_spelled columns bytes program e =
    let read = program_read columns [] (lines_in (whole bytes)) (end_in (whole bytes)) program (omega arith) e in
    let count : length program.instrs ≡ length read.rest = ap length read.instrs ∙ length-map read.rest (λ (p : Placed). p.instr) in
    let few = read.within_limit in
    let instrs : instrs_of read.rest ≡ program.instrs = sym read.instrs in (
      omega arith,
      subst (λ (is : List Instr). SpellsLines columns (length program.instrs) 0 (lines_in (whole bytes)) is program.result) instrs
          (subst (λ (k : ℕ). SpellsLines columns k 0 (lines_in (whole bytes)) (instrs_of read.rest) program.result) (sym count) read.spelled),
    )

-- what is spelled is read
last_read : (columns : List Column) (end number : ℕ) (before : List Placed) (line : ℕ) (word r : List ℕ) (result e : ℕ) → opcode_of word ≡ Some op.Result → register_of r ≡ Some result →
    AllWithin (length before) before →
    program_on columns before (record { number = line; words = word ∷ r ∷ [] } ∷ []) e ≡ Ok (record { instrs = instrs_of before; result = result })
unfolding program_on
last_read columns end number before line word r result e o is within =
    rw (o, is) (read_within (length before) before (record { instrs = instrs_of before; result = result }) within)

no_result : (columns : List Column) (end number : ℕ) (words : List (List ℕ)) (instr : Instr) → SpellsInstr columns end number words instr → names_result (opcode_in words) ≡ false
no_result columns end number _ _ (text.load o r c b lt) = rw o refl
no_result columns end number _ _ (text.nulls o r c n) = rw o refl
no_result columns end number _ _ (text.fill o r b le) = rw o refl
no_result columns end number _ _ (text.conjunction o r a b) = rw o refl
no_result columns end number _ _ (text.disjunction o r a b) = rw o refl
no_result columns end number _ _ (text.difference o r a b) = rw o refl
no_result columns end number _ _ (text.negation o r a) = rw o refl
no_result columns end number _ _ (text.below o r c s lt b le) = rw o refl
no_result columns end number _ _ (text.same o r c s lt b le) = rw o refl
no_result columns end number _ _ (text.skip o a l f n) = rw o refl

spelled_read : (columns : List Column) (end number : ℕ) (lines : List NumberedWords) (instrs : List Instr) (result : ℕ) (before : List Placed) (e : ℕ) →
    SpellsLines columns end number lines instrs result → length before ≡ number → number + length instrs ≡ end → end ≤ most_instructions → AllWithin end before →
    program_on columns before lines e ≡ Ok (record { instrs = instrs_of before ++ instrs; result = result })
unfolding program_on
spelled_read columns end number _ _ result before e (result_line {line = line} {word = word} {r = r} o is) count all few within =
    let whole : length before ≡ end = omega arith in
    last_read columns end number before line word r result e o is (subst (λ (k : ℕ). AllWithin k before) (sym whole) within)
    ∙ ap (λ (is : List Instr). Ok (record { instrs = is; result = result })) (sym (append-nil (instrs_of before)))
spelled_read columns end number _ _ result before e (instr_line {line = line} {lines = lines} {instr = instr} {instrs = instrs} first others) count all few within =
    let p : Placed = record { line = line.number; instr = instr } in
    let read = spelled_instr columns end number line instr first in
    let at : instr_on columns (length before) line ≡ Ok instr = ap (λ (k : ℕ). instr_on columns k line) count ∙ read.0 in
    let none = no_result columns end number line.words instr first in
    let room : nat_le most_instructions (length before) ≡ false = lt-leb _ _ (omega arith) in
    let longer : length (before ++ p ∷ []) ≡ suc number = length-append before (p ∷ []) ∙ add-one (length before) ∙ ap suc count in
    let more = spelled_read columns end (suc number) lines instrs result (before ++ p ∷ []) e others longer (omega arith) few (within_more end before p within read.1) in
    let same : instrs_of (before ++ p ∷ []) ++ instrs ≡ instrs_of before ++ (instr ∷ instrs) =
    ap (λ (is : List Instr). is ++ instrs) (map-append (λ (q : Placed). q.instr) before (p ∷ [])) ∙ append_assoc (instrs_of before) (instr ∷ []) instrs in
    rw (none, room, at) (more ∙ ap (λ (is : List Instr). Ok (record { instrs = is; result = result })) same)

pub spelled_text : (columns : List Column) (bytes : List ℕ) (program : ProgramShape) → IsProgramText columns bytes program → program_of columns bytes ≡ Ok program
spelled_text columns bytes program is =
    spelled_read columns (length program.instrs) 0 (lines_in (whole bytes)) program.instrs program.result [] (end_in (whole bytes)) is.1 refl (omega arith) is.0 tt

instr_sound : (columns : List Column) (end number : ℕ) (words : List (List ℕ)) (instr : Instr) → SpellsInstr columns end number words instr →
    (is_sound end number instr ≡ true) × (instr_fits columns instr ≡ true)
instr_sound columns end number _ _ (text.load {r = r} {c = c} {register = n} {column = m} {bit = k} o rr cc' b lt) =
    (register_is r n rr, and_from _ _ (named_column_is_there columns c m cc') (lt-ltb _ _ lt))
instr_sound columns end number _ _ (text.nulls {r = r} {c = c} {register = n} {column = m} o rr cc' nullable) = (register_is r n rr, and_from _ _ (named_column_is_there columns c m cc') nullable)
instr_sound columns end number _ _ (text.fill {r = r} {register = n} o rr b le) = (register_is r n rr, refl)
instr_sound columns end number _ _ (text.conjunction {r = r} {a = a} {b = b} o x y z) = (and_from _ _ (and_from _ _ (register_is r _ x) (register_is a _ y)) (register_is b _ z), refl)
instr_sound columns end number _ _ (text.disjunction {r = r} {a = a} {b = b} o x y z) = (and_from _ _ (and_from _ _ (register_is r _ x) (register_is a _ y)) (register_is b _ z), refl)
instr_sound columns end number _ _ (text.difference {r = r} {a = a} {b = b} o x y z) = (and_from _ _ (and_from _ _ (register_is r _ x) (register_is a _ y)) (register_is b _ z), refl)
instr_sound columns end number _ _ (text.negation {r = r} {a = a} o x y) = (and_from _ _ (register_is r _ x) (register_is a _ y), refl)
instr_sound columns end number _ _ (text.below {r = r} {c = c} o x y s lt b le) = (and_from _ _ (register_is r _ x) (le-leb _ _ le), and_from _ _ (named_column_is_there columns c _ y) (lt-ltb _ _ lt))
instr_sound columns end number _ _ (text.same {r = r} {c = c} o x y s lt b le) = (and_from _ _ (register_is r _ x) (le-leb _ _ le), and_from _ _ (named_column_is_there columns c _ y) (lt-ltb _ _ lt))
instr_sound columns end number _ _ (text.skip {a = a} o x l forward near) = (and_from _ _ (and_from _ _ (register_is a _ x) (lt-ltb _ _ forward)) (le-leb _ _ near), refl)

lines_sound : (columns : List Column) (end number : ℕ) (lines : List NumberedWords) (instrs : List Instr) (result : ℕ) → SpellsLines columns end number lines instrs result →
    (are_sound end number instrs ≡ true) × (list_all (instr_fits columns) instrs ≡ true) × (is_register result ≡ true)
unfolding are_sound
lines_sound columns end number _ _ result (result_line {r = r} o is) = (refl, refl, register_is r result is)
lines_sound columns end number _ _ result (instr_line {line = line} {lines = lines} {instr = instr} {instrs = instrs} first others) =
    let here = instr_sound columns end number line.words instr first in
    let more = lines_sound columns end (suc number) lines instrs result others in
    (and_from _ _ here.0 more.0, and_from _ _ here.1 more.1, more.2)

pub text_is_program : (columns : List Column) (bytes : List ℕ) (program : ProgramShape) → IsProgramText columns bytes program → (is_program program ≡ true) × (fits columns program ≡ true)
unfolding fits
text_is_program columns bytes program is =
    let sound = lines_sound columns (length program.instrs) 0 (lines_in (whole bytes)) program.instrs program.result is.1 in
    (and_from _ _ (and_from _ _ (le-leb _ _ is.0) sound.2) sound.0, sound.1)

-- so a call that reads a text is exact
abbrev Told : List Column → List ℕ → Result ProgramShape Fault → Type 0
Told columns bytes result = MatchesUnlessOom (λ (program : ProgramShape). program) result (program_of columns bytes)

pub spelled_from : (columns : List Column) (bytes : List ℕ) (result : Result ProgramShape Fault) → Told columns bytes result → IfOk result (λ program. IsProgramText columns bytes program)
spelled_from columns bytes (Ok program) told = text_spelled columns bytes program told
spelled_from columns bytes (Err fault) told = tt

pub fits_from : (columns : List Column) (bytes : List ℕ) (result : Result ProgramShape Fault) → Told columns bytes result → IfOk result (λ program. IsTrue (fits columns program))
fits_from columns bytes (Ok program) told = (text_is_program columns bytes program (text_spelled columns bytes program told)).1
fits_from columns bytes (Err fault) told = tt

pub accepted_from : (columns : List Column) (bytes : List ℕ) (result : Result ProgramShape Fault) → Told columns bytes result → (program : ProgramShape) → IsProgramText columns bytes program →
    MatchesUnlessOom (λ (p : ProgramShape). p) result (Ok program)
accepted_from columns bytes (Ok p) told program is = sym (spelled_text columns bytes program is) ∙ told
accepted_from columns bytes (Err fault) told program is = λ aside. sym (spelled_text columns bytes program is) ∙ told aside
