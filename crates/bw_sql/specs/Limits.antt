-- The maximal sizes of a statement. The numbers are this project's own.
use Rattle.std.specs.Prelude.{ℕ}

-- bytes of a statement
abbrev pub longest_statement : ℕ
longest_statement = 65536

-- levels of brackets and NOT
abbrev pub deepest_nesting : ℕ
deepest_nesting = 100
