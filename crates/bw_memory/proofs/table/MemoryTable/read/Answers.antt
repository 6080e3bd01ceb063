-- A table file is rejected by a failed read or out of memory alone.
use Rattle.bw_memory.proofs.table.MemoryTable.read.Goals as goal
use Rattle.bw_model.proofs.ErrLemmas.{err_passed_on}

pub returns-in_err-reader-clause-accepted : goal.returns-in_err-reader-clause-accepted
returns-in_err-reader-clause-accepted g c =
    let refused = c.in_err-reader.ensures.refused in
    rw (err_passed_on _ c.from_residual.ensures.1) (λ bytes layout schema rows known file. c.a_file_is_read_whole.ensures.faults bytes layout schema rows file _ _ _ _ known refused.1)
