-- The lines after the product rows that are still unread.
use Rattle.std.specs.Prelude.{List}
use Rattle.bw_cert_text.specs.declared.body.BodyLines.{BodyLines}
use Rattle.bw_cert_text.specs.declared.lines.BodyLine.{BodyLine}
use Rattle.bw_cert_text.specs.StoredLines.{lines_of}

unfoldable pub body_lines : BodyLines → List BodyLine
body_lines body = lines_of body.forms.now body.numbers.now body.pairs.now
