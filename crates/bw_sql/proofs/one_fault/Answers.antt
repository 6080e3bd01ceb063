-- A text is read in one way.
use Rattle.bw_sql.proofs.Texts.{same_fault, spelled_or_refused}
use Rattle.bw_sql.proofs.one_fault.Goals as goal

pub returns-clause-one : goal.returns-clause-one
returns-clause-one c = same_fault

pub returns-clause-none_spelled : goal.returns-clause-none_spelled
returns-clause-none_spelled c = spelled_or_refused
