-- A program text, one line or one instruction at a time.
use Rattle.std.proofs.Common.{◌≡◌, ◌∙◌, refl, sym, ap, ℕ, ◌+◌, ◌<◌, ◌≤◌, true, false, List, [], ◌∷◌}
use Rattle.std.proofs.Common.{◌++◌, length, drop, Result, Ok, Err, nat_le, get_or, add-one, IfOk}
use Rattle.std.proofs.Common.{IfErr, drop-cons}
use Rattle.std.proofs.lemmas.Bool.{lt-leb}
use Rattle.std.proofs.lemmas.List.{drop_all}
use Rattle.bw_model.specs.declared.column.Column.{Column}
use Rattle.bw_model.specs.declared.fault.Fault.{Fault}
use Rattle.bw_model.specs.Fault.{at_line, is_memory, ◌>>=◌}
use Rattle.bw_text.specs.Lines.{NumberedWords}
use Rattle.bw_program.specs.declared.instr.Instr.{Instr}
use Rattle.bw_program.specs.declared.parse.Placed.{Placed}
use Rattle.bw_program.specs.Program.{ProgramShape, most_instructions}
use Rattle.bw_program.specs.ProgramText.{within_end, goes_past, instr_on, is_result_line}
use Rattle.bw_program.specs.ProgramText.{result_after, program_with_result, program_on}

-- the skips from an instruction on, by whether it goes past the end itself
pub within_end-next : (end : ℕ) (placed : List Placed) (i : ℕ) (d : Placed) (x : ProgramShape) → i < length placed → goes_past end (get_or placed i d).instr ≡ false →
    within_end end (drop i placed) x ≡ within_end end (drop (i + 1) placed) x
unfolding within_end
within_end-next end placed i d x lt fits = rw (add-one, drop-cons placed i d lt, fits) refl

pub within_end-past : (end : ℕ) (placed : List Placed) (i : ℕ) (d : Placed) (x : ProgramShape) → i < length placed → goes_past end (get_or placed i d).instr ≡ true →
    within_end end (drop i placed) x ≡ Err (at_line 504 (get_or placed i d).line)
unfolding within_end
within_end-past end placed i d x lt past = rw (drop-cons placed i d lt, past) refl

pub within_end-all : (end : ℕ) (placed : List Placed) (i : ℕ) (x : ProgramShape) → length placed ≤ i → within_end end (drop i placed) x ≡ Ok x
unfolding within_end
within_end-all end placed i x le = rw (drop_all i placed le) refl

-- the lines to come, by the first of them
pub program_on-end : (columns : List Column) (before : List Placed) (lines : List NumberedWords) (end : ℕ) → lines ≡ [] → program_on columns before lines end ≡ Err (at_line 506 end)
unfolding program_on
program_on-end columns before lines end none = rw none refl

pub program_on-result : (columns : List Column) (before : List Placed) (lines rest : List NumberedWords) (line : NumberedWords) (end : ℕ) → lines ≡ line ∷ rest → is_result_line line ≡ true →
    program_on columns before lines end ≡ (result_after line.number (drop 1 line.words) >>= λ result. program_with_result before rest result)
unfolding program_on
program_on-result columns before lines rest line end e is = rw (e, is) refl

pub program_on-long : (columns : List Column) (before : List Placed) (lines rest : List NumberedWords) (line : NumberedWords) (end : ℕ) → lines ≡ line ∷ rest → is_result_line line ≡ false →
    nat_le most_instructions (length before) ≡ true → program_on columns before lines end ≡ Err (at_line 505 line.number)
unfolding program_on
program_on-long columns before lines rest line end e is long = rw (e, is, long) refl

pub program_on-next : (columns : List Column) (before : List Placed) (lines rest : List NumberedWords) (line : NumberedWords) (end : ℕ) → lines ≡ line ∷ rest → is_result_line line ≡ false →
    nat_le most_instructions (length before) ≡ false →
    program_on columns before lines end ≡ (instr_on columns (length before) line >>= λ instr. program_on columns (before ++ record { line = line.number; instr = instr } ∷ []) rest end)
unfolding program_on
program_on-next columns before lines rest line end e is room = rw (e, is, room) refl

-- the line of the result was read
pub result_read : (columns : List Column) (before : List Placed) (lines rest : List NumberedWords) (line : NumberedWords) (end : ℕ) (whole : Result ProgramShape Fault) (r : Result ℕ Fault) →
    whole ≡ program_on columns before lines end → lines ≡ line ∷ rest → is_result_line line ≡ true → r ≡ result_after line.number (drop 1 line.words) →
    IfOk r (λ register. whole ≡ program_with_result before rest register)
result_read columns before lines rest line end whole (Ok register) told e is read =
    told ∙ program_on-result columns before lines rest line end e is ∙ ap (λ r. r >>= λ result. program_with_result before rest result) (sym read)
result_read columns before lines rest line end whole (Err fault) told e is read = tt

pub result_refused : (columns : List Column) (before : List Placed) (lines rest : List NumberedWords) (line : NumberedWords) (end : ℕ) (whole : Result ProgramShape Fault) (r : Result ℕ Fault) →
    whole ≡ program_on columns before lines end → lines ≡ line ∷ rest → is_result_line line ≡ true → r ≡ result_after line.number (drop 1 line.words) →
    IfErr r (λ fault. is_memory fault ≡ false → whole ≡ Err fault)
result_refused columns before lines rest line end whole (Ok register) told e is read = tt
result_refused columns before lines rest line end whole (Err fault) told e is read = λ _.
    told ∙ program_on-result columns before lines rest line end e is ∙ ap (λ r. r >>= λ result. program_with_result before rest result) (sym read)

-- an instruction was read, or rejected
pub instr_read : (columns : List Column) (before : List Placed) (lines rest : List NumberedWords) (line : NumberedWords) (end : ℕ) (instr : Result Instr Fault) →
    lines ≡ line ∷ rest → is_result_line line ≡ false → length before < most_instructions → instr ≡ instr_on columns (length before) line →
    program_on columns before lines end ≡ (instr >>= λ i. program_on columns (before ++ record { line = line.number; instr = i } ∷ []) rest end)
instr_read columns before lines rest line end instr e is room read =
    let some : nat_le most_instructions (length before) ≡ false = lt-leb _ _ room in
    program_on-next columns before lines rest line end e is some
    ∙ ap (λ r. r >>= λ i. program_on columns (before ++ record { line = line.number; instr = i } ∷ []) rest end) (sym read)
