-- The first error after the rows so far is that of the whole, and an error of the reader's own is
-- after them.
use Rattle.bw_csv.proofs.RowLemmas.{led-fault, led-stops}
use Rattle.bw_csv.proofs.rows.hand_rows.Goals as goal
use Rattle.bw_model.proofs.ErrLemmas.{err_passed_on}

pub returns-in_err-next_row-clause-handed : goal.returns-in_err-next_row-clause-handed
returns-in_err-next_row-clause-handed g c =
    rw (err_passed_on _ c.from_residual.ensures.1) (λ aside. led-fault _ _ _ _ _ _ _ _ c.rows.invariant.so_far (c.in_err-next_row.ensures.row aside))

pub returns-in_err-next_row-clause-reader : goal.returns-in_err-next_row-clause-reader
returns-in_err-next_row-clause-reader g c =
    rw (err_passed_on _ c.from_residual.ensures.1) (λ own. led-stops _ _ _ _ _ _ _ _ c.rows.invariant.so_far c.in_err-next_row.ensures.place own)
