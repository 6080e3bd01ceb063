-- One line after another.
use Rattle.std.proofs.Common.{◌∙◌, arith}
use Rattle.bw_cert.proofs.StatedFactLemmas.{with_step, with_all}
use Rattle.bw_cert.proofs.stated_facts.add_lines.Goals as goal
use Rattle.bw_model.proofs.ErrLemmas.{err_passed_on}

pub returns-in_err-add_to-clause-stated : goal.returns-in_err-add_to-clause-stated
returns-in_err-add_to-clause-stated g c =
    rw (err_passed_on _ c.from_residual.ensures.1) (λ aside. c.loop-line.invariant.told ∙ with_step _ _ c.args.lines.now c.loop-line.line-index _ (omega (arith, c.loop-line-test.true)) c.line-item.is _ (c.in_err-add_to.ensures.stated aside))

pub loop-line-preserved : goal.loop-line-preserved
loop-line-preserved g c = record { told = c.loop-line.invariant.told ∙ with_step _ _ c.args.lines.now c.loop-line.line-index _ (omega (arith, c.loop-line-test.true)) c.line-item.is _ c.in_ok-add_to.ensures.stated }

pub returns-clause-stated : goal.returns-clause-stated
returns-clause-stated g c = c.loop-line.invariant.told ∙ with_all _ _ c.args.lines.now c.loop-line.line-index (omega (arith, c.loop-line-test.false))
