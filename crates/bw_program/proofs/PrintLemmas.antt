-- Canonical texts, one line at a time.
use Rattle.std.proofs.Common.{◌≡◌, refl, ℕ, ◌+◌, ◌<◌, ◌≤◌, List, ◌++◌, length, drop, get_or}
use Rattle.std.proofs.Common.{add-one}
use Rattle.std.proofs.lemmas.List.{drop_all}
use Rattle.std.proofs.Math.Seq.{drop-cons}
use Rattle.bw_model.specs.declared.column.Column.{Column}
use Rattle.bw_program.specs.declared.instr.Instr.{Instr}
use Rattle.bw_program.specs.PrintText.{instr_words, result_words, lines_text}
use Rattle.bw_text.specs.Printing.{line_text}

-- one more line is written
pub lines_text-next : (columns : List Column) (instrs : List Instr) (i result : ℕ) (d : Instr) → i < length instrs →
    lines_text columns (drop i instrs) result ≡ line_text (instr_words columns (get_or instrs i d)) ++ lines_text columns (drop (i + 1) instrs) result
unfolding lines_text
lines_text-next columns instrs i result d lt = rw (add-one, drop-cons instrs i d lt) refl

pub lines_text-end : (columns : List Column) (instrs : List Instr) (i result : ℕ) → length instrs ≤ i → lines_text columns (drop i instrs) result ≡ line_text (result_words result)
unfolding lines_text
lines_text-end columns instrs i result le = rw (drop_all i instrs le) refl
