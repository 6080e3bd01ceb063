use Rattle.std.proofs.Common.{FitsSigned, w64, rules}
use Rattle.std.proofs.lemmas.Int.{to_z-of_z}
use Rattle.bw_model.specs.Column.{names_of}
use Rattle.bw_model.proofs.ErrLemmas.{err_passed_on}
use Rattle.bw_file.specs.TableReading.{column}
use Rattle.bw_file.proofs.HeaderLemmas.{column_named, column_bounded, column_read}
use Rattle.bw_file.proofs.ReadingLemmas.{begins, stops}
use Rattle.bw_file.proofs.header.read_column.Goals as goal

pub returns-in_err-name-clause-reads : goal.returns-in_err-name-clause-reads
unfolding column
returns-in_err-name-clause-reads g c =
    rw (err_passed_on _ c.from_residual.ensures.1) (stops (column c.args.version (names_of c.args.before.now)) _ _ _ _ _ _ (begins (column c.args.version (names_of c.args.before.now)) _) c.in_err-name.ensures.reads)

pub returns-in_err-bounds-clause-reads : goal.returns-in_err-bounds-clause-reads
returns-in_err-bounds-clause-reads g c =
    rw (err_passed_on _ c.from_residual-in_err-bounds.ensures.1) (stops _ _ _ _ _ _ _ (column_named _ _ _ _ _ c.in_ok-name.ensures.reads) c.in_err-bounds.ensures.reads)

pub returns-in_err-nullable-clause-reads : goal.returns-in_err-nullable-clause-reads
returns-in_err-nullable-clause-reads g c =
    rw (err_passed_on _ c.from_residual-in_err-nullable.ensures.1) (stops _ _ _ _ _ _ _ (column_bounded _ _ _ _ _ _ _ c.in_ok-name.ensures.reads c.in_ok-bounds.ensures.reads) c.in_err-nullable.ensures.reads)

pub returns-clause-reads : goal.returns-clause-reads
returns-clause-reads g c =
    let lo_fits : FitsSigned w64 c.in_ok-bounds.bounds.lo = search rules in
    let hi_fits : FitsSigned w64 c.in_ok-bounds.bounds.hi = search rules in
    column_read _ _ _ _ _ _ _ _ _ _ _ (to_z-of_z w64 _ lo_fits) (to_z-of_z w64 _ hi_fits) c.in_ok-name.ensures.reads c.in_ok-bounds.ensures.reads c.in_ok-nullable.ensures.reads
