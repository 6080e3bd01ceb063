use Rattle.bw_csv.proofs.BareLemmas.{rows_are}
use Rattle.bw_csv.proofs.rows.bare_rows_are_rows.Goals as goal

pub returns : goal.returns
returns c = λ columns number records rows e admitted. rows_are columns number records rows e admitted
