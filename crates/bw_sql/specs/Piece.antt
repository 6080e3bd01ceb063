-- The pieces of a text: gaps, which are blanks and comments, and tokens. The longest piece counts.
use Rattle.std.specs.Prelude.{◌≡◌, ◌≤◌, ℕ, Bool, false, List, [], ◌∷◌, ◌++◌, length, Some, None}
use Rattle.std.specs.Prelude.{IsTrue, ◌&&◌, ◌||◌, ◌==◌, not, codes}
use Rattle.std.specs.List.{list_all}
use Rattle.bw_model.specs.declared.cond.Op.{Op}
use Rattle.bw_model.specs.declared.cond.Op.TheVariants as op
use Rattle.bw_text.specs.Keyword.{keyword_of}
use Rattle.bw_text.specs.Number.{are_digits}
use Rattle.bw_text.specs.Text.{is_word}
use Rattle.bw_sql.specs.declared.token.Mark.{Mark}
use Rattle.bw_sql.specs.declared.token.Mark.TheVariants as mark
use Rattle.bw_sql.specs.Token.{Lexeme, Name, Digits, Reserved, Compare, Punct}

pub data Piece : Type 0 where
  Gap : Piece
  Token : Lexeme → Piece

-- a space, a tab, an LF or a CR
abbrev pub is_blank : ℕ → Bool
is_blank c = (c == 32) || (c == 9) || (c == 10) || (c == 13)

-- a byte of a comment, which runs to an LF or the end
abbrev pub is_in_comment : ℕ → Bool
is_in_comment c = not (c == 10)

-- a blank, or two dashes and the bytes of a comment
abbrev pub IsGap : List ℕ → Type 0
IsGap [] = ⊥
IsGap (c ∷ []) = IsTrue (is_blank c)
IsGap (c ∷ d ∷ inside) = (c ≡ 45) × (d ≡ 45) × IsTrue (list_all is_in_comment inside)

abbrev pub begins_comment : List ℕ → Bool
begins_comment [] = false
begins_comment (c ∷ []) = false
begins_comment (c ∷ d ∷ rest) = (c == 45) && (d == 45)

abbrev pub comparison_spelling : Op → List ℕ
comparison_spelling op.Eq = codes "="
comparison_spelling op.Ne = codes "<>"
comparison_spelling op.Lt = codes "<"
comparison_spelling op.Gt = codes ">"
comparison_spelling op.Le = codes "<="
comparison_spelling op.Ge = codes ">="

abbrev pub mark_spelling : Mark → List ℕ
mark_spelling mark.Open = codes "("
mark_spelling mark.Close = codes ")"
mark_spelling mark.Comma = codes ","
mark_spelling mark.Star = codes "*"
mark_spelling mark.Semicolon = codes ";"
mark_spelling mark.Plus = codes "+"
mark_spelling mark.Minus = codes "-"

-- the bytes are this delimiter: a comparison or a mark
abbrev pub IsDelimiter : List ℕ → Lexeme → Type 0
IsDelimiter bytes (Name text) = ⊥
IsDelimiter bytes (Digits text) = ⊥
IsDelimiter bytes (Reserved word) = ⊥
IsDelimiter bytes (Compare op) = bytes ≡ comparison_spelling op
IsDelimiter bytes (Punct mark) = bytes ≡ mark_spelling mark

-- the bytes are this piece: a word is a reserved word, ignoring case, or else a name
abbrev pub IsPiece : List ℕ → Piece → Type 0
IsPiece bytes Gap = IsGap bytes
IsPiece bytes (Token (Name text)) = (bytes ≡ text) × IsTrue (is_word bytes)
    × (keyword_of bytes ≡ None)
IsPiece bytes (Token (Digits text)) = (bytes ≡ text) × IsTrue (are_digits bytes)
IsPiece bytes (Token (Reserved word)) = IsTrue (is_word bytes) × (keyword_of bytes ≡ Some word)
IsPiece bytes (Token (Compare op)) = IsDelimiter bytes (Compare op)
IsPiece bytes (Token (Punct mark)) = IsDelimiter bytes (Punct mark)

-- the text is a thing's bytes followed by the rest, and no longer thing begins the text
pub record IsLongestOf {A : Type 0} (Is : List ℕ → A → Type 0) (text rest : List ℕ)
    (thing : A) : Type 0 where
  pub front : List ℕ
  pub cut : text ≡ front ++ rest
  pub is : Is front thing
  pub longest : (other after : List ℕ) (any : A) → text ≡ other ++ after → Is other any
      → length other ≤ length front

-- no thing begins the text
abbrev pub BeginsNone : {A : Type 0} → (List ℕ → A → Type 0) → List ℕ → Type 0
BeginsNone Is text = (front rest : List ℕ) (thing : _) → text ≡ front ++ rest → Is front thing → ⊥

abbrev pub IsLongest : List ℕ → List ℕ → Piece → Type 0
IsLongest text rest piece = IsLongestOf IsPiece text rest piece

abbrev pub BeginsNoPiece : List ℕ → Type 0
BeginsNoPiece text = BeginsNone IsPiece text

abbrev pub IsLongestDelimiter : List ℕ → List ℕ → Lexeme → Type 0
IsLongestDelimiter text rest t = IsLongestOf IsDelimiter text rest t

abbrev pub BeginsNoDelimiter : List ℕ → Type 0
BeginsNoDelimiter text = BeginsNone IsDelimiter text

-- a byte that is a delimiter, and two bytes that are one
abbrev pub is_short_delimiter : ℕ → Bool
is_short_delimiter c = (c == 40) || (c == 41) || (c == 42) || (c == 43) || (c == 44) || (c == 45)
    || (c == 59)
    || (c == 60) || (c == 61) || (c == 62)

abbrev pub is_long_delimiter : ℕ → ℕ → Bool
is_long_delimiter c d = ((c == 60) && ((d == 61) || (d == 62))) || ((c == 62) && (d == 61))
