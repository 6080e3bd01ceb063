use Rattle.std.proofs.Common.{◌≡◌, ◌+◌, ◌-◌, ◌*◌, ◌≤◌, [], map, length, true}
use Rattle.bw_model.specs.Column.{names_of}
use Rattle.bw_model.specs.Name.{are_apart}
use Rattle.bw_model.specs.SchemaText.{column_shape}
use Rattle.bw_file.specs.Reading.{state_at, GoesOn}
use Rattle.bw_file.specs.TableReading.{columns}
use Rattle.bw_file.proofs.header.read_columns.Given as goal

-- the columns so far were read, and reading continues with the others
abbrev pub invariant-loop : goal.invariant-loop
invariant-loop g l = record {
  on : GoesOn (columns l.version [] l.count) (state_at (g.S.Source.state l.initial.source) l.initial.offset)
      (columns l.version (map column_shape l.found.items) (l.count - l.counter))
      (state_at (g.S.Source.state l.source) l.offset);
  failures : (g.S.Source.state l.source).failures ≡ (g.S.Source.state l.initial.source).failures;
  room : l.offset ≤ l.initial.offset + 273 * l.counter;
  many : length l.found.items ≡ l.counter;
  apart : are_apart (names_of l.found.items) ≡ true;
}
