-- The lines of parts that obey are checked to be right.
use Rattle.bw_cert_rules.proofs.WrittenLemmas.{judged_written}
use Rattle.bw_cert_rules.proofs.known_laws.valid_lines_are_accepted.Goals as goal

pub returns : goal.returns
returns c = judged_written
