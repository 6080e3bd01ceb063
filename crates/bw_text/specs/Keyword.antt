-- The reserved words of the query language.
use Rattle.std.specs.Prelude.{ℕ, Bool, List, [], ◌∷◌, Option, codes, find, is_some}
use Rattle.bw_text.specs.declared.keyword.Keyword.{Keyword}
use Rattle.bw_text.specs.declared.keyword.Keyword.TheVariants as word
use Rattle.bw_text.specs.Text.{same_text}

-- a reserved word in capitals
abbrev pub spelling : Keyword → List ℕ
spelling word.And = codes "AND"
spelling word.Between = codes "BETWEEN"
spelling word.Count = codes "COUNT"
spelling word.False = codes "FALSE"
spelling word.From = codes "FROM"
spelling word.In = codes "IN"
spelling word.Is = codes "IS"
spelling word.Max = codes "MAX"
spelling word.Min = codes "MIN"
spelling word.Not = codes "NOT"
spelling word.Null = codes "NULL"
spelling word.Or = codes "OR"
spelling word.Select = codes "SELECT"
spelling word.Sum = codes "SUM"
spelling word.True = codes "TRUE"
spelling word.Unknown = codes "UNKNOWN"
spelling word.Where = codes "WHERE"

-- the seventeen reserved words
abbrev pub reserved_words : List Keyword
reserved_words =
    word.And ∷ word.Between ∷ word.Count ∷ word.False ∷ word.From ∷ word.In ∷ word.Is ∷ word.Max
    ∷ word.Min ∷ word.Not
    ∷ word.Null ∷ word.Or ∷ word.Select ∷ word.Sum ∷ word.True ∷ word.Unknown ∷ word.Where ∷ []

-- the reserved word that a text is, ignoring case
unfoldable pub keyword_of : List ℕ → Option Keyword
keyword_of text = find (λ word. same_text (spelling word) text) reserved_words

abbrev pub is_reserved : List ℕ → Bool
is_reserved text = is_some (keyword_of text)
