-- How a text is cut into tokens.
use Rattle.std.specs.Prelude.{◌<◌, ℕ, ◌+◌, List, [], ◌∷◌, map, length, Option, Some, None}
use Rattle.bw_sql.specs.declared.token.PlacedToken.{PlacedToken}
use Rattle.bw_sql.specs.Piece.{Gap, Token, IsLongest, BeginsNoPiece}
use Rattle.bw_sql.specs.Token.{Lexeme, lexeme}

-- a token and the byte at which it begins
pub record Spot : Type 0 where
  pub token : Lexeme
  pub at : ℕ

abbrev pub spot : PlacedToken → Spot
spot placed = record { token = lexeme placed.token; at = placed.at }

abbrev pub spots : List PlacedToken → List Spot
spots tokens = map spot tokens

-- A text that begins at this byte is cut into tokens piece by piece, the longest first, up to its
-- end or to the first byte that begins no piece.
pub data IsCut : ℕ → List ℕ → List Spot → Option ℕ → Type 0 where
  ended : {at : ℕ} → IsCut at [] [] None
  stopped : {at : ℕ} {text : List ℕ} → 0 < length text → BeginsNoPiece text
      → IsCut at text [] (Some at)
  gap : {at : ℕ} {text rest : List ℕ} {tokens : List Spot} {stop : Option ℕ} →
      (longest : IsLongest text rest Gap) → IsCut (at + length longest.front) rest tokens stop
      → IsCut at text tokens stop
  token : {at : ℕ} {text rest : List ℕ} {tokens : List Spot} {stop : Option ℕ} → (t : Lexeme) →
      (longest : IsLongest text rest (Token t)) →
      IsCut (at + length longest.front) rest tokens stop →
      IsCut at text (record { token = t; at = at } ∷ tokens) stop

-- a text has nothing but blanks, line ends and comments: it is cut to its end, and has no token
abbrev pub HasNoToken : List ℕ → Type 0
HasNoToken text = IsCut 0 text [] None
