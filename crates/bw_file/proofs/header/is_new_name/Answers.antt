use Rattle.bw_file.proofs.HeaderLemmas.{apart_from}
use Rattle.bw_file.proofs.header.is_new_name.Goals as goal

pub returns-then-is_name-clause-apart : goal.returns-then-is_name-clause-apart
returns-then-is_name-clause-apart c = λ h. apart_from _ _ _ c.has_name.ensures h
