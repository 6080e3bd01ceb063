-- Each column was read or is blank.
use Rattle.bw_memory.proofs.FileColumnsLemmas.{table_is}
use Rattle.bw_memory.proofs.file_columns.FileColumnsColumnStore.table.Goals as goal

pub returns-clause-of : goal.returns-clause-of
returns-clause-of g c =
    let self = c.args.self.now in
    table_is (g.D.RandomAccess.state self.device).known self.columnar self.states.items self.have self.blank
