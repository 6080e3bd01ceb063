use Rattle.std.proofs.Common.{◌≡◌, ◌≤◌, [], length}
use Rattle.bw_text.specs.Lines.{lines_in, end_in}
use Rattle.bw_program.specs.Program.{most_instructions}
use Rattle.bw_program.specs.ProgramText.{program_on}
use Rattle.bw_program.proofs.parse.read_lines.Given as goal

-- the program is that of the instructions so far and the lines to come
abbrev pub invariant-loop-line : goal.invariant-loop-line
invariant-loop-line l = record {
  within_limit : length l.placed.items ≤ most_instructions;
  told : program_on l.schema.columns.items [] (lines_in l.initial.lines) (end_in l.initial.lines)
      ≡ program_on l.schema.columns.items l.placed.items (lines_in l.lines) (end_in l.initial.lines);
  end : end_in l.initial.lines ≡ end_in l.lines;
}

abbrev pub decreases-loop-line : goal.decreases-loop-line
decreases-loop-line l = length (lines_in l.lines)
