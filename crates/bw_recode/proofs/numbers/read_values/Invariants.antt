use Rattle.std.proofs.Common.{◌≡◌, ◌+◌, ◌-◌, ◌≤◌, length, drop}
use Rattle.bw_text.specs.Lines.{cut_lines}
use Rattle.bw_csv.proofs.FieldLemmas.{after}
use Rattle.bw_recode.specs.Numbers.{values_of_lines}
use Rattle.bw_recode.proofs.numbers.read_values.Given as goal

-- the values are those so far, and then those of the lines to come
abbrev pub invariant-loop-lines : goal.invariant-loop-lines
invariant-loop-lines l = record {
  so_far : values_of_lines l.rule l.count l.initial.lines.number (cut_lines l.initial.lines.text)
      ≡ after l.values.items (values_of_lines l.rule (l.count - length l.values.items) l.lines.number (cut_lines l.lines.text));
  within : length l.values.items ≤ l.count;
  rest : cut_lines l.lines.text ≡ drop (length l.values.items) (cut_lines l.initial.lines.text);
  number : l.lines.number ≡ l.initial.lines.number + length l.values.items;
}

abbrev pub decreases-loop-lines : goal.decreases-loop-lines
decreases-loop-lines l = l.count - length l.values.items
