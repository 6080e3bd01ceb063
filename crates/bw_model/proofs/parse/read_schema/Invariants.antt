use Rattle.std.proofs.Common.{◌≡◌, ◌≤◌, [], length, map, IsTrue}
use Rattle.bw_text.specs.Lines.{lines_in, end_in}
use Rattle.bw_model.specs.Name.{are_apart}
use Rattle.bw_model.specs.Column.{names_of}
use Rattle.bw_model.specs.SchemaText.{columns_on, column_shape}
use Rattle.bw_model.proofs.parse.read_schema.Given as goal

-- the columns so far are those of the lines so far
abbrev pub invariant-loop-columns : goal.invariant-loop-columns
invariant-loop-columns l = record {
  limited : length l.columns.items ≤ 64;
  apart : IsTrue (are_apart (names_of l.columns.items));
  told : columns_on [] (lines_in l.initial.lines) ≡ columns_on (map column_shape l.columns.items) (lines_in l.lines);
  end : end_in l.initial.lines ≡ end_in l.lines;
}

abbrev pub decreases-loop-columns : goal.decreases-loop-columns
decreases-loop-columns l = length (lines_in l.lines)
