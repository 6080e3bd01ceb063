-- Each turn passes one more instruction.
use Rattle.std.proofs.Common.{◌∙◌, sym, ap, Err, length}
use Rattle.bw_program.proofs.TextLemmas.{within_end-next, within_end-past, within_end-all}
use Rattle.bw_program.proofs.parse.check_targets.Goals as goal

pub returns-then-goes_past-clause-past : goal.returns-then-goes_past-clause-past
returns-then-goes_past-clause-past c = λ x.
    c.loop-each.invariant x ∙ within_end-past (length c.args.placed.now) c.args.placed.now c.loop-each.each-index _ x c.loop-each-test.true (sym c.goes_past.ensures ∙ c.if-goes_past.true)
    ∙ ap Err (sym c.at_line.ensures)

pub loop-each-preserved : goal.loop-each-preserved
loop-each-preserved c = λ x.
    c.loop-each.invariant x ∙ within_end-next (length c.args.placed.now) c.args.placed.now c.loop-each.each-index _ x c.loop-each-test.true (sym c.goes_past.ensures ∙ c.if-goes_past.false)

pub returns-clause-within : goal.returns-clause-within
returns-clause-within c = λ x.
    c.loop-each.invariant x ∙ within_end-all (length c.args.placed.now) c.args.placed.now c.loop-each.each-index x c.loop-each-test.false
