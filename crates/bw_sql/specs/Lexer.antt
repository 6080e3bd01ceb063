-- What the lexer found, as a piece.
use Rattle.bw_sql.specs.declared.lexer.LexedPiece.{LexedPiece as Found}
use Rattle.bw_sql.specs.declared.lexer.LexedPiece.TheVariants as found
use Rattle.bw_sql.specs.Piece.{Piece, Gap, Token}
use Rattle.bw_sql.specs.Token.{lexeme}

abbrev pub piece : Found → Piece
piece found.Gap = Gap
piece (found.Token token) = Token (lexeme token)
