-- Fields that the csv crate writes as they are, without quotes.
use Rattle.std.specs.Prelude.{ℕ, Bool, true, false, List, [], ◌∷◌, not}
use Rattle.csv.specs.Writing.{default_writer, needs_quotes, with_flexible}
use Rattle.csv.specs.declared.writer.WriterBuilder.{WriterBuilder}

-- the csv crate's settings: its defaults, but records may differ in length
abbrev pub answer_writer : WriterBuilder
answer_writer = with_flexible default_writer true

-- the field is written without quotes: it has a byte, and none that needs them
unfoldable pub needs_no_quotes : List ℕ → Bool
needs_no_quotes [] = false
needs_no_quotes (c ∷ cs) = not (needs_quotes answer_writer (c ∷ cs))
