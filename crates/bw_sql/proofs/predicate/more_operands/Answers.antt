-- Each operand goes after those before it.
use Rattle.std.proofs.Common.{sym, arith}
use Rattle.bw_sql.proofs.Repeats.{ends, halts, steps}
use Rattle.bw_sql.proofs.predicate.more_operands.Goals as goal
use Rattle.bw_model.proofs.ErrLemmas.{err_passed_on}

pub returns-in_err-item-clause-read : goal.returns-in_err-item-clause-read
returns-in_err-item-clause-read c =
    rw (err_passed_on _ c.from_residual.ensures.1) (halts c.loop-next.invariant.read c.in_err-item.field-0.0 (sym c.in-Some.ensures.is)
    c.in_err-item.ensures.read (omega (arith, c.in-Some.ensures.consumes_input)))

pub loop-next-preserved : goal.loop-next-preserved
loop-next-preserved c = record {
  shorter = omega (arith, c.in-Some.ensures.consumes_input, c.in_ok-item.ensures.consumes_input);
  read = steps c.loop-next.invariant.read (sym c.in-Some.ensures.is) c.in_ok-item.ensures.read c.in_ok-push.ensures.items
      (omega (arith, c.in-Some.ensures.consumes_input, c.in_ok-item.ensures.consumes_input));
}

pub returns-clause-read : goal.returns-clause-read
returns-clause-read c = ends c.loop-next.invariant.read (sym c.in_default.ensures.is)
