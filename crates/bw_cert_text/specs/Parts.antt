-- The lines of a certificate that were read before its end.
use Rattle.std.specs.Prelude.{◌++◌, map}
use Rattle.bw_cert_text.specs.declared.parse.Parts.{Parts}
use Rattle.bw_cert_text.specs.CertificateFields.{CertificateFields, chain_fields, body_fields}

-- these lines, followed by those of a certificate
abbrev pub append_fields : Parts → CertificateFields → CertificateFields
append_fields parts rest = record {
  nodes = parts.nodes.items ++ rest.nodes;
  chains = map chain_fields parts.chains.items ++ rest.chains;
  products = parts.products.items ++ rest.products;
  body = map body_fields parts.body ++ rest.body;
  end = rest.end;
}
