-- A certificate is valid if and only if no line breaks a rule.
use Rattle.std.proofs.Common.{◌∙◌, sym, ap, ◌++◌, append-nil, length}
use Rattle.bw_model.specs.Fault.{◌>>=◌}
use Rattle.bw_model.proofs.FaultLemmas.{bind_ok}
use Rattle.bw_cert_rules.specs.Pair.{pair_of}
use Rattle.bw_cert_rules.specs.Accepted.{known_before, lines_of}
use Rattle.bw_cert_rules.specs.Known.{node_of}
use Rattle.bw_cert_rules.specs.Walk.{check_lines}
use Rattle.bw_cert.specs.StatedFacts.{facts_stated}
use Rattle.bw_cert.specs.Valid.{end_on}
use Rattle.bw_cert.proofs.ValidLemmas.{ended, ends}
use Rattle.bw_cert.proofs.laws.valid_exactly_where_checked.Goals as goal

pub returns-clause-sound : goal.returns-clause-sound
returns-clause-sound c = λ columns cond program certificate facts is.
    let end = certificate.end.line in
    let stated = bind_ok (facts_stated columns certificate) _ facts is in
    let read = bind_ok (pair_of columns stated.0 end cond certificate.body) _ facts stated.2 in
    let taken = bind_ok (check_lines stated.0 program.instrs end read.0.1) _ facts read.2 in
    let accepts = c.accepted_lines_are_valid.ensures stated.0 program.instrs end read.0.1 taken.0 taken.1 in
    let last = ended stated.0 facts end taken.0 program.result read.0.0.yes certificate.end.row taken.2 in
    record {
      facts = stated.0;
      stated = stated.1;
      pair = read.0.0;
      rest = read.0.1;
      paired = read.1;
      parts = accepts.parts;
      valid_parts = accepts.valid_parts;
      spelled = accepts.spelled ∙ ap (λ rest. lines_of 0 accepts.parts ++ rest) last.none ∙ append-nil (lines_of 0 accepts.parts);
      node = last.node;
      known = ap (λ known. node_of known program.result) (sym accepts.known) ∙ last.known;
      ended = last.zero;
    }

pub returns-clause-complete : goal.returns-clause-complete
returns-clause-complete c = λ columns cond program certificate valid.
    let end = certificate.end.line in
    let facts = valid.facts in
    let lines = ap (check_lines facts program.instrs end) valid.spelled ∙ c.valid_lines_are_accepted.ensures facts program.instrs valid.parts end valid.valid_parts in
    ap (λ r. r >>= λ facts. pair_of columns facts end cond certificate.body >>= λ read. check_lines facts program.instrs end read.1 >>= λ taken. end_on facts end taken program.result read.0.yes certificate.end.row) valid.stated
    ∙ ap (λ r. r >>= λ read. check_lines facts program.instrs end read.1 >>= λ taken. end_on facts end taken program.result read.0.yes certificate.end.row) valid.paired
    ∙ ap (λ r. r >>= λ taken. end_on facts end taken program.result valid.pair.yes certificate.end.row) lines
    ∙ ends facts end (known_before facts program.instrs valid.parts (length program.instrs)) program.result valid.pair.yes certificate.end.row valid.node valid.known valid.ended
