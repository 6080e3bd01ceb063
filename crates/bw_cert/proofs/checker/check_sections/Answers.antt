-- What the lines state is of the schema's columns.
use Rattle.bw_cert.proofs.ValidLemmas.{stated_columns}
use Rattle.bw_cert.proofs.checker.check_sections.Goals as goal

pub known_at_end-requires : goal.known_at_end-requires
known_at_end-requires c = stated_columns c.args.schema.now.columns.items c.args.certificate.now _ c.in_ok-diagram.ensures.stated
