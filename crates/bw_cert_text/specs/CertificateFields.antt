-- The lines of a certificate as lists and numbers, without the addresses of their words.
use Rattle.std.specs.Prelude.{ℕ, List, map, Option}
use Rattle.bw_diagram.specs.declared.chain.ChainKind.{ChainKind}
use Rattle.bw_diagram.specs.declared.chain.ChainColumns.{ChainColumns}
use Rattle.bw_diagram.specs.declared.chain.ChainColumns.TheVariants as columns
use Rattle.bw_cert_text.specs.declared.lines.NodeLine.{NodeLine}
use Rattle.bw_cert_text.specs.declared.lines.ChainLine.{ChainLine}
use Rattle.bw_cert_text.specs.declared.lines.ProductLine.{ProductLine}
use Rattle.bw_cert_text.specs.declared.lines.BodyLine.{BodyLine}
use Rattle.bw_cert_text.specs.declared.lines.Entry.{Entry}
use Rattle.bw_cert_text.specs.declared.lines.Entry.TheVariants as entry
use Rattle.bw_cert_text.specs.declared.lines.ConditionEntry.{ConditionEntry}
use Rattle.bw_cert_text.specs.declared.lines.InstructionEntry.{InstructionEntry}
use Rattle.bw_cert_text.specs.declared.lines.Keep.{Keep}
use Rattle.bw_cert_text.specs.declared.lines.EdgeProducts.{EdgeProducts}
use Rattle.bw_cert_text.specs.declared.lines.EndLine.{EndLine}
use Rattle.bw_cert_text.specs.CertificateShape.{CertificateShape}

-- what a chain compares: a column's bits with a number (kind, column, start, len, const, node,
-- prev), or two columns (kind, left, right, len, node, prev)
pub data ColumnFields : Type 0 where
  One : ChainKind → List ℕ → ℕ → ℕ → ℕ → ℕ → Option ℕ → ColumnFields
  Two : ChainKind → List ℕ → List ℕ → ℕ → ℕ → Option ℕ → ColumnFields

pub record ChainFields : Type 0 where
  pub line : ℕ
  pub n : ℕ
  pub columns : ColumnFields

pub record KeepFields : Type 0 where
  pub register : ℕ
  pub node : ℕ
  pub through : ℕ
  pub edges : List EdgeProducts

pub data EntryFields : Type 0 where
  Condition : ConditionEntry → EntryFields
  Instruction : InstructionEntry → EntryFields
  Join : ℕ → EntryFields
  Kept : KeepFields → EntryFields

pub record BodyFields : Type 0 where
  pub line : ℕ
  pub entry : EntryFields

-- nodes, chains and product rows, then the lines of conditions, instructions and joins, and the end
pub record CertificateFields : Type 0 where
  pub nodes : List NodeLine
  pub chains : List ChainFields
  pub products : List ProductLine
  pub body : List BodyFields
  pub end : EndLine

-- the fields of the code's lines
abbrev pub column_fields : ChainColumns → ColumnFields
column_fields (columns.One kind column start len bound node prev) = One kind column.now start len
    bound node prev
column_fields (columns.Two kind left right len node prev) = Two kind left.now right.now len node
    prev

abbrev pub chain_fields : ChainLine → ChainFields
chain_fields chain = record {
  line = chain.line;
  n = chain.n;
  columns = column_fields chain.columns;
}

abbrev pub keep_fields : Keep → KeepFields
keep_fields keep = record {
  register = keep.register;
  node = keep.node;
  through = keep.through;
  edges = keep.edges;
}

abbrev pub entry_fields : Entry → EntryFields
entry_fields (entry.Condition condition) = Condition condition
entry_fields (entry.Instruction instruction) = Instruction instruction
entry_fields (entry.Join target) = Join target
entry_fields (entry.Keep keep) = Kept (keep_fields keep)

abbrev pub body_fields : BodyLine → BodyFields
body_fields body = record { line = body.line; entry = entry_fields body.entry }

abbrev pub certificate_fields : CertificateShape → CertificateFields
certificate_fields certificate = record {
  nodes = certificate.nodes;
  chains = map chain_fields certificate.chains;
  products = certificate.products;
  body = map body_fields certificate.body;
  end = certificate.end;
}
