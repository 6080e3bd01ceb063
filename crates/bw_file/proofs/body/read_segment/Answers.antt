use Rattle.bw_segment.proofs.SoundLemmas.{length-rows_spelled}
use Rattle.bw_file.specs.Blocks.{form_of}
use Rattle.bw_file.proofs.BodyLemmas.{segment_read, segment_stops}
use Rattle.bw_file.proofs.ReadingLemmas.{stops_memory}
use Rattle.bw_file.proofs.body.read_segment.Goals as goal
use Rattle.bw_model.proofs.ErrLemmas.{err_passed_on}

pub returns-in_err-read_blocks-clause-reads : goal.returns-in_err-read_blocks-clause-reads
returns-in_err-read_blocks-clause-reads g c =
    rw (err_passed_on _ c.from_residual-in_err-read_blocks.ensures.1, ← c.deref-2.ensures) (segment_stops _ _ _ _ _ _ c.in_err-read_blocks.ensures.reads)

pub returns-in_err-shared-clause-reads : goal.returns-in_err-shared-clause-reads
returns-in_err-shared-clause-reads g c =
    rw (err_passed_on _ c.from_residual-in_err-shared.ensures.1, c.in_err-shared.ensures.only_oom, ← c.deref-2.ensures) (stops_memory _ _ _ _ (segment_read _ _ _ _ _ _ c.in_ok-read_blocks.ensures.reads))

pub returns-clause-reads : goal.returns-clause-reads
returns-clause-reads g c =
    rw (c.of_blocks.ensures.rows, c.in_ok-same.ensures.cases, ← c.deref-2.ensures, c.in_ok-shared.ensures.bytes) (segment_read _ _ _ _ _ _ c.in_ok-read_blocks.ensures.reads)

pub returns-clause-count : goal.returns-clause-count
returns-clause-count g c = rw c.of_blocks.ensures.rows (length-rows_spelled (form_of c.args.layout) _ _ _)
