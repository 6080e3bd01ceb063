use Rattle.std.proofs.Common.{[]}
use Rattle.bw_cert_rules.specs.Known.{nothing_known}
use Rattle.bw_cert_rules.proofs.SameLemmas.{check_lines_from-same}
use Rattle.bw_cert_rules.proofs.known_laws.lines_are_checked_by_their_fields.Goals as goal

pub returns : goal.returns
returns c facts instrs end lines others say = check_lines_from-same facts end 0 [] instrs nothing_known lines others say
