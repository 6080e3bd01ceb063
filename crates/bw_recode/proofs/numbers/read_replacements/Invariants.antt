use Rattle.std.proofs.Common.{◌≡◌, ◌≤◌, length, drop}
use Rattle.bw_text.specs.Lines.{cut_lines}
use Rattle.bw_csv.proofs.FieldLemmas.{after}
use Rattle.bw_recode.specs.Numbers.{replacements_from}
use Rattle.bw_recode.specs.Recode.{replacements_in, replacements_of}
use Rattle.bw_recode.proofs.numbers.read_replacements.Given as goal

-- the replacements are those so far, and then those of the columns to come
abbrev pub invariant-loop-i : goal.invariant-loop-i
invariant-loop-i l = record {
  so_far : replacements_of l.olds l.news l.numbers
      ≡ after (replacements_in l.replacements.items) (replacements_from (drop l.i l.olds) (drop l.i l.news) l.lines.number (cut_lines l.lines.text));
  within : l.i ≤ length l.news;
  far : l.i ≤ length l.olds;
}
