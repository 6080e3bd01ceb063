-- Limits of what is accepted. The numbers are this project's own.
use Rattle.std.specs.Prelude.{ℕ}

-- the most bytes of a schema text
abbrev pub longest_schema : ℕ
longest_schema = 65536

-- the most columns of a table
abbrev pub most_columns : ℕ
most_columns = 64

-- the most bytes of a name
abbrev pub longest_name : ℕ
longest_name = 63

-- the most bytes of a CSV text: 2^30
abbrev pub longest_csv : ℕ
longest_csv = 1073741824

-- the most rows of a table: 2^24
abbrev pub most_rows : ℕ
most_rows = 16777216
