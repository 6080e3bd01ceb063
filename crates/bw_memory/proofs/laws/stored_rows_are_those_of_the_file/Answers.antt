use Rattle.bw_memory.proofs.StoredRows.{rows_stored, shape_stored}
use Rattle.bw_memory.proofs.laws.stored_rows_are_those_of_the_file.Goals as goal

pub returns : goal.returns
returns c = λ bytes layout schema rows columnar wanted stored file opened has. (
  shape_stored bytes layout schema rows file columnar opened has.table wanted has.columns,
  rows_stored bytes layout schema rows file columnar opened has.table wanted has.columns stored has.are,
)
