-- Tokens as the grammar sees them.
use Rattle.std.specs.Prelude.{ℕ, List, map, Option, Some, None}
use Rattle.bw_model.specs.declared.cond.Op.{Op}
use Rattle.bw_text.specs.declared.keyword.Keyword.{Keyword}
use Rattle.bw_text.specs.Keyword.{keyword_of}
use Rattle.bw_sql.specs.declared.token.Mark.{Mark}
use Rattle.bw_sql.specs.declared.token.Token.{Token}
use Rattle.bw_sql.specs.declared.token.Token.TheVariants as token
use Rattle.bw_sql.specs.declared.token.PlacedToken.{PlacedToken}

-- a token, wherever its bytes lie in memory
pub data Lexeme : Type 0 where
  Name : List ℕ → Lexeme
  Digits : List ℕ → Lexeme
  Reserved : Keyword → Lexeme
  Compare : Op → Lexeme
  Punct : Mark → Lexeme

abbrev pub lexeme : Token → Lexeme
lexeme (token.Name text) = Name text.now
lexeme (token.Digits text) = Digits text.now
lexeme (token.Keyword word) = Reserved word
lexeme (token.Compare op) = Compare op
lexeme (token.Mark mark) = Punct mark

abbrev pub lexemes : List PlacedToken → List Lexeme
lexemes tokens = map (λ placed. lexeme placed.token) tokens

-- what a word is: a reserved word, ignoring case, or else a name
abbrev pub lexeme_or_name : List ℕ → Option Keyword → Lexeme
lexeme_or_name text (Some word) = Reserved word
lexeme_or_name text None = Name text

abbrev pub word_lexeme : List ℕ → Lexeme
word_lexeme text = lexeme_or_name text (keyword_of text)
