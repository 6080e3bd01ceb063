-- What may follow the beginning of a statement.
use Rattle.std.specs.Prelude.{ℕ, Bool, ◌==◌, List, [], ◌∷◌, ◌++◌, Option, Some, None, Result, Ok, Err}
use Rattle.std.specs.Prelude.{is_none, true}
use Rattle.bw_model.specs.declared.column.Column.{Column}
use Rattle.bw_model.specs.declared.cond.Op.TheVariants.{Eq}
use Rattle.bw_model.specs.declared.schema.Schema.{Schema}
use Rattle.bw_sql.specs.declared.expected.Expected.{Expected}
use Rattle.bw_sql.specs.declared.expected.Expected.TheVariants as expected
use Rattle.bw_sql.specs.QueryShape.{QueryShape}
use Rattle.bw_sql.specs.Reading.{Halt, statement_at}
use Rattle.bw_sql.specs.Token.{Lexeme, Name, Digits, Reserved, Compare, Punct}

-- the name of the first column
abbrev pub first_name : List Column → List ℕ
first_name [] = []
first_name (column ∷ columns) = column.name

-- a token of this kind; the end has none
abbrev pub sample : Schema → Expected → Option Lexeme
sample schema (expected.Keyword word) = Some (Reserved word)
sample schema (expected.Mark mark) = Some (Punct mark)
sample schema expected.Comparison = Some (Compare Eq)
sample schema expected.Table = Some (Name schema.name)
sample schema expected.Column = Some (Name (first_name schema.columns.items))
sample schema expected.Digits = Some (Digits (48 ∷ []))
sample schema expected.End = None

abbrev pub left_of : Result QueryShape Halt → Option ℕ
left_of (Ok query) = None
left_of (Err halt) = Some halt.left

-- how many tokens are left where reading stops; none, if the tokens spell a query
abbrev pub tokens_left : Schema → List Lexeme → Option ℕ
tokens_left schema tokens = left_of (statement_at schema tokens)

-- reading stops at the end of the tokens, or they spell a query
abbrev pub is_all_read : Option ℕ → Bool
is_all_read None = true
is_all_read (Some left) = left == 0

abbrev pub goes_on_with : Schema → List Lexeme → Option Lexeme → Bool
goes_on_with schema tokens None = is_none (tokens_left schema tokens)
goes_on_with schema tokens (Some t) = is_all_read (tokens_left schema (tokens ++ t ∷ []))

-- the sample is read after the tokens; or, for the end, the tokens spell a query
abbrev pub is_expected : Schema → List Lexeme → Expected → Bool
is_expected schema tokens what = goes_on_with schema tokens (sample schema what)
