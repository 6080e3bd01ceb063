use Rattle.bw_cert_text.proofs.TextSpelling.{text_spelled, spelled_text}
use Rattle.bw_cert_text.proofs.parse.certificates_are_read_as_spelled.Goals as goal

pub returns : goal.returns
returns c = record { read = spelled_text; spelled = text_spelled }
