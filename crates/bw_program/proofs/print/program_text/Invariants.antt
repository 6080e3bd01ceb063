use Rattle.std.proofs.Common.{◌≡◌, ◌++◌, drop}
use Rattle.bw_program.specs.PrintText.{lines_text}
use Rattle.bw_program.proofs.print.program_text.Given as goal

-- what is written so far, and then the lines that are left, are the whole text
abbrev pub invariant-loop-instr : goal.invariant-loop-instr
invariant-loop-instr l =
    l.text.items ++ lines_text l.schema.columns.items (drop l.instr-index l.instrs) l.answer
    ≡ lines_text l.schema.columns.items l.instrs l.answer
