-- The certificate that a canonical text spells: in the schema's spelling, its lines numbered one
-- after another.
use Rattle.std.specs.Prelude.{ℕ, ◌+◌, ◌^◌, Bool, true, ◌&&◌, List, [], ◌∷◌, length, Some, None}
use Rattle.std.specs.Prelude.{nat_lt}
use Rattle.std.specs.List.{list_all}
use Rattle.bw_cert_text.specs.declared.lines.NodeLine.{NodeLine}
use Rattle.bw_cert_text.specs.declared.lines.ProductLine.{ProductLine}
use Rattle.bw_cert_text.specs.CertificateFields.{ChainFields, BodyFields, CertificateFields}
use Rattle.bw_cert_text.specs.PrintText.{body_tokens}
use Rattle.bw_cert_text.specs.Token.{Token, Key, Number, Perhaps, Column, Register, node_tokens}
use Rattle.bw_cert_text.specs.Token.{chain_tokens, row_tokens, end_tokens}

-- a line of each section, with this number
abbrev pub node_at : ℕ → NodeLine → NodeLine
node_at line node = record { line = line; n = node.n; v = node.v; low = node.low; high = node.high }

abbrev pub chain_at : ℕ → ChainFields → ChainFields
chain_at line chain = record chain { line = line }

abbrev pub row_at : ℕ → ProductLine → ProductLine
row_at line row = record row { line = line }

abbrev pub body_at : ℕ → BodyFields → BodyFields
body_at line body = record { line = line; entry = body.entry }

-- lines numbered one after another, from this number on
unfoldable pub numbered_on : {A : Type 0} → (ℕ → A → A) → ℕ → List A → List A
numbered_on at first [] = []
numbered_on at first (x ∷ xs) = at first x ∷ numbered_on at (first + 1) xs

-- a certificate whose lines are numbered from this number on
abbrev pub renumber : ℕ → CertificateFields → CertificateFields
renumber first c =
    let chains : ℕ = first + length c.nodes in
    let rows : ℕ = chains + length c.chains in
    let body : ℕ = rows + length c.products in
    record {
      nodes = numbered_on node_at first c.nodes;
      chains = numbered_on chain_at chains c.chains;
      products = numbered_on row_at rows c.products;
      body = numbered_on body_at body c.body;
      end = record { line = body + length c.body; row = c.end.row };
    }

-- a number is below 2^64, or a register is one of the 64
abbrev pub is_small : Token → Bool
is_small (Key key) = true
is_small (Number n) = nat_lt n (2 ^ 64)
is_small (Perhaps None) = true
is_small (Perhaps (Some n)) = nat_lt n (2 ^ 64)
is_small (Column word) = true
is_small (Register r) = nat_lt r 64

-- each item of a line is so
abbrev pub are_small : List Token → Bool
are_small tokens = list_all is_small tokens

-- each line of a certificate is so
abbrev pub numbers_fit : CertificateFields → Bool
numbers_fit c =
    list_all (λ node. are_small (node_tokens node)) c.nodes
    && (list_all (λ chain. are_small (chain_tokens chain)) c.chains
    && (list_all (λ row. are_small (row_tokens row)) c.products
    && (list_all (λ body. are_small (body_tokens body)) c.body
    && are_small (end_tokens c.end))))
