use Rattle.bw_file.specs.TableReading.{front}
use Rattle.bw_file.proofs.HeaderLemmas.{magic_read, version_read, layout_read, count_read}
use Rattle.bw_file.proofs.HeaderLemmas.{front_read}
use Rattle.bw_file.proofs.ReadingLemmas.{begins, stops}
use Rattle.bw_file.proofs.header.read_front.Goals as goal
use Rattle.bw_model.proofs.ErrLemmas.{err_passed_on}

pub returns-in_err-read_field-clause-reads : goal.returns-in_err-read_field-clause-reads
unfolding front
returns-in_err-read_field-clause-reads g c =
    rw (err_passed_on _ c.from_residual.ensures.1) (stops (front c.args.order) _ _ _ _ _ _ (begins (front c.args.order) _) c.in_err-read_field.ensures.reads)

pub returns-in_err-version-clause-reads : goal.returns-in_err-version-clause-reads
returns-in_err-version-clause-reads g c =
    rw (err_passed_on _ c.from_residual-in_err-version.ensures.1) (stops _ _ _ _ _ _ _ (magic_read _ _ _ c.in_ok-read_field.ensures.reads) c.in_err-version.ensures.reads)

pub returns-in_err-layout-clause-reads : goal.returns-in_err-layout-clause-reads
returns-in_err-layout-clause-reads g c =
    rw (err_passed_on _ c.from_residual-in_err-layout.ensures.1) (stops _ _ _ _ _ _ _ (version_read _ _ _ _ _ c.in_ok-read_field.ensures.reads c.in_ok-version.ensures.reads) c.in_err-layout.ensures.reads)

pub returns-in_err-columns-clause-reads : goal.returns-in_err-columns-clause-reads
returns-in_err-columns-clause-reads g c =
    rw (err_passed_on _ c.from_residual-in_err-columns.ensures.1) (stops _ _ _ _ _ _ _ (layout_read _ _ _ _ _ _ _ c.in_ok-read_field.ensures.reads c.in_ok-version.ensures.reads c.in_ok-layout.ensures.reads) c.in_err-columns.ensures.reads)

pub returns-in_err-rows-clause-reads : goal.returns-in_err-rows-clause-reads
returns-in_err-rows-clause-reads g c =
    rw (err_passed_on _ c.from_residual-in_err-rows.ensures.1) (stops _ _ _ _ _ _ _ (count_read _ _ _ _ _ _ _ _ _ c.in_ok-read_field.ensures.reads c.in_ok-version.ensures.reads c.in_ok-layout.ensures.reads c.in_ok-columns.ensures.reads) c.in_err-rows.ensures.reads)

pub returns-clause-reads : goal.returns-clause-reads
returns-clause-reads g c =
    front_read _ _ _ _ _ _ _ _ _ _ _ c.in_ok-read_field.ensures.reads c.in_ok-version.ensures.reads c.in_ok-layout.ensures.reads c.in_ok-columns.ensures.reads c.in_ok-rows.ensures.reads
