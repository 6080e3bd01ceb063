-- The canonical text of a certificate: keywords in capitals, single blanks, names in the schema's
-- spelling, numbers without leading zeros, and one line feed after each line.
use Rattle.std.specs.Prelude.{ℕ, List, [], ◌∷◌, ◌++◌, map, Option, Some, None, codes}
use Rattle.std.specs.Prelude.{slice_index_or}
use Rattle.std.specs.Fmt.{decimal}
use Rattle.bw_model.specs.declared.column.Column as column
use Rattle.bw_model.specs.Column.{names_of, column_named}
use Rattle.bw_cert_text.specs.CertificateFields.{ColumnFields, One, Two, ChainFields, BodyFields}
use Rattle.bw_cert_text.specs.CertificateFields.{CertificateFields}
use Rattle.bw_text.specs.Printing.{line_text}
use Rattle.bw_text.specs.Register.{register_text}
use Rattle.bw_cert_text.specs.Token.{Token, Key, Number, Perhaps, Column, Register, node_tokens}
use Rattle.bw_cert_text.specs.Token.{chain_tokens, row_tokens, entry_tokens, end_tokens}

-- the canonical spelling of one item of a line
abbrev pub token_text : Token → List ℕ
token_text (Key key) = key
token_text (Number n) = decimal n
token_text (Perhaps (Some n)) = decimal n
token_text (Perhaps None) = codes "-"
token_text (Column column) = column
token_text (Register r) = register_text r

-- the words of a line, and the line
abbrev pub token_words : List Token → List (List ℕ)
token_words tokens = map token_text tokens

abbrev pub token_line : List Token → List ℕ
token_line tokens = line_text (token_words tokens)

-- a line for each item of a list
unfoldable pub lines_text : {A : Type 0} → (A → List Token) → List A → List ℕ
lines_text tokens [] = []
lines_text tokens (x ∷ xs) = token_line (tokens x) ++ lines_text tokens xs

-- all lines of a certificate
abbrev pub body_tokens : BodyFields → List Token
body_tokens body = entry_tokens body.entry

abbrev pub certificate_text : CertificateFields → List ℕ
certificate_text c =
    lines_text node_tokens c.nodes
    ++ (lines_text chain_tokens c.chains ++ (lines_text row_tokens c.products
    ++ (lines_text body_tokens c.body ++ token_line (end_tokens c.end))))

-- a word in the spelling of the column that it names, or the word itself if it names none
abbrev pub spelling_at : List column.Column → List ℕ → Option ℕ → List ℕ
spelling_at columns word None = word
spelling_at columns word (Some c) = slice_index_or (names_of columns) c []

abbrev pub schema_spelling : List column.Column → List ℕ → List ℕ
schema_spelling columns word = spelling_at columns word (column_named columns word)

-- a certificate with its columns in the schema's spelling
abbrev pub respelled_columns : List column.Column → ColumnFields → ColumnFields
respelled_columns columns (One kind word start len bound node prev) =
    One kind (schema_spelling columns word) start len bound node prev
respelled_columns columns (Two kind left right len node prev) =
    Two kind (schema_spelling columns left) (schema_spelling columns right) len node prev

abbrev pub respelled_chain : List column.Column → ChainFields → ChainFields
respelled_chain columns chain = record chain { columns = respelled_columns columns chain.columns }

abbrev pub respell : List column.Column → CertificateFields → CertificateFields
respell columns c = record c { chains = map (respelled_chain columns) c.chains }

-- the canonical text of a certificate under a schema's columns
abbrev pub print_text : List column.Column → CertificateFields → List ℕ
print_text columns c = certificate_text (respell columns c)
