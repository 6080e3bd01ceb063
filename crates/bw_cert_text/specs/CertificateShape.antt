-- A certificate as its lines.
use Rattle.std.specs.Prelude.{List}
use Rattle.bw_cert_text.specs.declared.lines.NodeLine.{NodeLine}
use Rattle.bw_cert_text.specs.declared.lines.ChainLine.{ChainLine}
use Rattle.bw_cert_text.specs.declared.lines.ProductLine.{ProductLine}
use Rattle.bw_cert_text.specs.declared.lines.BodyLine.{BodyLine}
use Rattle.bw_cert_text.specs.declared.lines.EndLine.{EndLine}

-- nodes, chains and product rows, then the lines of conditions, instructions and joins, and the end
pub record CertificateShape : Type 0 where
  pub nodes : List NodeLine
  pub chains : List ChainLine
  pub products : List ProductLine
  pub body : List BodyLine
  pub end : EndLine
