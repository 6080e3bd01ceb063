-- A file is of one table, and a statement is read in one way under its schema.
use Rattle.bw_laws.proofs.OneTableLemmas.{one_answer}
use Rattle.bw_laws.proofs.one_table.a_table_has_one_answer.Goals as goal

pub returns : goal.returns
returns c = one_answer
