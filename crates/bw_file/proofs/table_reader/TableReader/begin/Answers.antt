use Rattle.std.proofs.Common.{refl, arith}
use Rattle.bw_file.specs.TableReading.{header}
use Rattle.bw_file.specs.declared.order.FileOrder.TheVariants.{ByRows}
use Rattle.bw_file.proofs.FaultLemmas.{refused_by, header_own}
use Rattle.bw_file.proofs.ReaderLemmas.{header_refused}
use Rattle.bw_file.proofs.table_reader.TableReader.begin.Goals as goal
use Rattle.bw_model.proofs.ErrLemmas.{err_passed_on}

pub returns-in_err-version-clause-refused : goal.returns-in_err-version-clause-refused
returns-in_err-version-clause-refused g c =
    rw (err_passed_on _ c.from_residual.ensures.1) (c.read_header.new.offset, header_refused _ _ _ refl c.in_err-version.ensures.reads)

pub returns-in_err-version-clause-head : goal.returns-in_err-version-clause-head
returns-in_err-version-clause-head g c =
    rw (err_passed_on _ c.from_residual.ensures.1) (c.read_header.new.offset, c.in_err-version.ensures.reads)

pub returns-in_err-version-clause-fault : goal.returns-in_err-version-clause-fault
returns-in_err-version-clause-fault g c =
    rw (err_passed_on _ c.from_residual.ensures.1) (refused_by header _ _ _ (header_own ByRows) c.in_err-version.ensures.reads)

pub invariant_of-result-clause-capacity : goal.invariant_of-result-clause-capacity
invariant_of-result-clause-capacity g c = λ _. omega (arith, c.in_ok-version.ensures.advanced, c.in_ok-version.ensures.within_limit)
