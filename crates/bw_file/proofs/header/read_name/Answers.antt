use Rattle.std.proofs.Common.{arith, length-take}
use Rattle.bw_model.specs.Column.{names_of}
use Rattle.bw_model.proofs.ErrLemmas.{err_passed_on}
use Rattle.bw_file.proofs.HeaderLemmas.{name_begins, name_judged, name_taken, name_refused}
use Rattle.bw_file.proofs.HeaderLemmas.{name_stops}
use Rattle.bw_file.proofs.ReadingLemmas.{stops, stops_memory}
use Rattle.bw_file.proofs.header.read_name.Goals as goal

pub returns-in_err-take-clause-reads : goal.returns-in_err-take-clause-reads
returns-in_err-take-clause-reads g c =
    rw (err_passed_on _ c.from_residual.ensures.1) (stops _ _ _ _ _ _ _ (name_begins (names_of c.args.before.now) _) c.in_err-take.ensures.reads)

pub returns-in_err-take-2-clause-reads : goal.returns-in_err-take-2-clause-reads
returns-in_err-take-2-clause-reads g c =
    rw (err_passed_on _ c.from_residual-in_err-take-2.ensures.1) (name_stops _ _ _ _ _ _ _ c.in_ok-take.ensures.reads c.in_err-take-2.ensures.reads (simp length-take (omega (arith, c.from.ensures))))

pub returns-then-not-is_new_name-clause-reads : goal.returns-then-not-is_new_name-clause-reads
returns-then-not-is_new_name-clause-reads g c =
    rw c.at_byte.ensures (name_refused _ _ _ _ (name_judged _ _ _ _ _ _ _ c.in_ok-take.ensures.reads c.in_ok-take-2.ensures.reads (simp length-take (omega (arith, c.from.ensures)))) c.if-not-is_new_name.ensures.says)

pub returns-in_err-new-clause-reads : goal.returns-in_err-new-clause-reads
returns-in_err-new-clause-reads g c =
    rw (err_passed_on _ c.from_residual-in_err-new.ensures.1) (stops_memory _ _ _ _ (name_judged _ _ _ _ _ _ _ c.in_ok-take.ensures.reads c.in_ok-take-2.ensures.reads (simp length-take (omega (arith, c.from.ensures)))))

pub returns-clause-reads : goal.returns-clause-reads
returns-clause-reads g c =
    rw c.in_ok-new.ensures (name_taken _ _ _ _ (name_judged _ _ _ _ _ _ _ c.in_ok-take.ensures.reads c.in_ok-take-2.ensures.reads (simp length-take (omega (arith, c.from.ensures)))) c.if-not-is_new_name.ensures.says)
