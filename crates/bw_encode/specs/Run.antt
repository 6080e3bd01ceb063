-- How many bytes of a text only join the field at hand.
use Rattle.std.specs.Prelude.{ℕ, Bool, List, ◌==◌, ◌||◌, not}
use Rattle.std.specs.List.{prefix_len}
use Rattle.csv.specs.Machine.{carriage_return, is_byte, line_feed}
use Rattle.csv.specs.declared.parser.State.{State}
use Rattle.csv.specs.declared.parser.State.TheVariants as st
use Rattle.bw_encode.specs.declared.dialect.Dialect.{Dialect}

-- a byte that doesn't end an unquoted field
abbrev pub joins_bare : ℕ → ℕ → Bool
joins_bare separator c = not ((c == separator) || (c == carriage_return) || (c == line_feed))

-- a byte within quotation marks that is neither one nor an escape
abbrev pub joins_quoted : Dialect → ℕ → Bool
joins_quoted dialect c = not ((c == dialect.quote) || is_byte dialect.escape c)

-- the first bytes of a text that join an unquoted field, or one within quotation marks; none
-- elsewhere
abbrev pub run_length : Dialect → State → List ℕ → ℕ
run_length dialect st.InField text = prefix_len (joins_bare dialect.separator) text
run_length dialect st.InQuoted text = prefix_len (joins_quoted dialect) text
run_length dialect _ text = 0
