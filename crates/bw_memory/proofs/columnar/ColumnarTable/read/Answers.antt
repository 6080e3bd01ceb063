-- All columns were read, or one has an error.
use Rattle.std.proofs.Common.{subst, ℕ, List, Option, true, inr}
use Rattle.bw_model.proofs.ErrLemmas.{err_passed_on}
use Rattle.bw_memory.specs.Columnar.{HasDamage}
use Rattle.bw_memory.proofs.ReadColumnsLemmas.{opened_same}
use Rattle.bw_memory.proofs.columnar.ColumnarTable.read.Goals as goal

pub returns-in_err-read_all-clause-refused : goal.returns-in_err-read_all-clause-refused
returns-in_err-read_all-clause-refused g c =
    let known = (g.D.RandomAccess.state c.args.device.now).known in
    let old = c.in_ok-columnar.columnar in
    let new = c.read_all.new.self in
    let fault = c.in_err-read_all.field-0.0 in
    rw (err_passed_on _ c.from_residual-in_err-read_all.ensures.1) (λ own. inr (
      new,
      opened_same known old new c.in_err-read_all.ensures.header c.in_ok-columnar.ensures.opened,
      subst (λ (known : Option (List ℕ)). HasDamage known (λ _. true) new fault) c.in_ok-columnar.ensures.same c.in_err-read_all.ensures.refused,
    ))
