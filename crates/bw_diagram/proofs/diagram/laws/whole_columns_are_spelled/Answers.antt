-- The numbers of all bits of a column.
use Rattle.bw_diagram.proofs.ChainLemmas.{padded_number-whole, number_spelled-whole}
use Rattle.bw_diagram.proofs.diagram.laws.whole_columns_are_spelled.Goals as goal

pub returns-clause-padded : goal.returns-clause-padded
returns-clause-padded c = padded_number-whole

pub returns-clause-whole : goal.returns-clause-whole
returns-clause-whole c = number_spelled-whole
