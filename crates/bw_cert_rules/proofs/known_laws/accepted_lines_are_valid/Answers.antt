-- Lines that are checked to be right are those of parts that obey.
use Rattle.bw_cert_rules.proofs.AcceptLemmas.{judged_accepts}
use Rattle.bw_cert_rules.proofs.known_laws.accepted_lines_are_valid.Goals as goal

pub returns : goal.returns
returns c = judged_accepts
