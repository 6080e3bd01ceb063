-- The fields of a line, as lists and numbers.
use Rattle.bw_cert_text.specs.declared.line.LineBeforeEnd.TheVariants as part
use Rattle.bw_cert_text.specs.declared.line.ParsedLine.TheVariants as said
use Rattle.bw_cert_text.specs.declared.line.LineBeforeEnd as declared_part
use Rattle.bw_cert_text.specs.declared.line.ParsedLine as declared_said
use Rattle.bw_cert_text.specs.CertificateFields.{chain_fields, body_fields}
use Rattle.bw_cert_text.specs.LineText.{LineBeforeEnd, Node, Chain, Row, Body, ParsedLine, Before, End}

abbrev pub fields_before_end : declared_part.LineBeforeEnd → LineBeforeEnd
fields_before_end (part.Node node) = Node node
fields_before_end (part.Chain chain) = Chain (chain_fields chain)
fields_before_end (part.Row row) = Row row
fields_before_end (part.Body body) = Body (body_fields body)

abbrev pub parsed_fields : declared_said.ParsedLine → ParsedLine
parsed_fields (said.Before part) = Before (fields_before_end part)
parsed_fields (said.End end) = End end
