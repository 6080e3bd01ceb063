-- How a text is cut into statements: after each semicolon outside a comment, and after each empty
-- line.
use Rattle.std.specs.Prelude.{◌≡◌, ℕ, ◌≤◌, Bool, true, false, List, [], ◌∷◌, ◌++◌, length, ◌==◌}
use Rattle.std.specs.Prelude.{◌&&◌, ◌||◌, not, if◌then◌else◌}
use Rattle.std.specs.List.{list_all}
use Rattle.bw_sql.specs.Piece.{begins_comment}

-- a space, a tab or a CR
abbrev pub is_blank : ℕ → Bool
is_blank byte = (byte == 32) || (byte == 9) || (byte == 13)

-- the last line of a text: the line so far, and then the text that continues it
unfoldable pub line_from : List ℕ → List ℕ → List ℕ
line_from line [] = line
line_from line (byte ∷ rest) = line_from (if byte == 10 then [] else line ++ byte ∷ []) rest

-- the last line of a text: what follows its last LF
abbrev pub last_line : List ℕ → List ℕ
last_line text = line_from [] text

-- a line has a comment, which begins with two dashes
unfoldable pub has_comment : List ℕ → Bool
has_comment [] = false
has_comment (first ∷ rest) = begins_comment (first ∷ rest) || has_comment rest

-- A byte ends the statement of these other bytes: a semicolon in a line without a comment, or the
-- LF of a line that is empty or blank.
abbrev pub ends_statement : List ℕ → ℕ → Bool
ends_statement bytes byte =
    ((byte == 59) && not (has_comment (last_line bytes)))
    || ((byte == 10) && list_all is_blank (last_line bytes))

-- no statement ends in these bytes
abbrev pub IsOpen : List ℕ → Type 0
IsOpen bytes = (front rest : List ℕ) (byte : ℕ) → bytes ≡ front ++ byte ∷ rest
    → ends_statement front byte ≡ false

-- these bytes are a statement with what ends it: none ends before the last byte, and it ends there
pub record IsWhole (bytes : List ℕ) : Type 0 where
  pub front : List ℕ
  pub last : ℕ
  pub is : bytes ≡ front ++ last ∷ []
  pub before : IsOpen front
  pub ended : ends_statement front last ≡ true

-- these bytes begin a statement: none ends before the last of them
pub record IsBegun (bytes : List ℕ) : Type 0 where
  pub front : List ℕ
  pub rest : List ℕ
  pub is : bytes ≡ front ++ rest
  pub short : length rest ≤ 1
  pub opened : IsOpen front
