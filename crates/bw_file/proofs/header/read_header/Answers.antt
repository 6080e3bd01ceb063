use Rattle.std.proofs.Common.{arith}
use Rattle.bw_file.specs.TableReading.{header_in}
use Rattle.bw_file.proofs.HeaderLemmas.{header_fronted, header_named, header_read}
use Rattle.bw_file.proofs.ReadingLemmas.{begins, stops}
use Rattle.bw_file.proofs.header.read_header.Goals as goal
use Rattle.bw_model.proofs.ErrLemmas.{err_passed_on}

pub returns-in_err-front-clause-reads : goal.returns-in_err-front-clause-reads
unfolding header_in
returns-in_err-front-clause-reads g c =
    rw (err_passed_on _ c.from_residual.ensures.1) (stops (header_in c.args.order) _ _ _ _ _ _ (begins (header_in c.args.order) _) c.in_err-front.ensures.reads)

pub returns-in_err-name-clause-reads : goal.returns-in_err-name-clause-reads
returns-in_err-name-clause-reads g c =
    rw (err_passed_on _ c.from_residual-in_err-name.ensures.1) (stops _ _ _ _ _ _ _ (header_fronted _ _ _ _ c.in_ok-front.ensures.reads) c.in_err-name.ensures.reads)

pub read_columns-requires-clause-capacity : goal.read_columns-requires-clause-capacity
read_columns-requires-clause-capacity g c = omega (arith, c.in_ok-front.ensures.advanced, c.in_ok-name.ensures.advanced)

pub returns-in_err-columns-clause-reads : goal.returns-in_err-columns-clause-reads
returns-in_err-columns-clause-reads g c =
    rw (err_passed_on _ c.from_residual-in_err-columns.ensures.1) (stops _ _ _ _ _ _ _ (header_named _ _ _ _ _ _ c.in_ok-front.ensures.reads c.in_ok-name.ensures.reads) c.in_err-columns.ensures.reads)

pub returns-clause-reads : goal.returns-clause-reads
returns-clause-reads g c = header_read _ _ _ _ _ _ _ _ c.in_ok-front.ensures.reads c.in_ok-name.ensures.reads c.in_ok-columns.ensures.reads
