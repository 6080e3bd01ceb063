use Rattle.std.proofs.Common.{◌≡◌, length, sym, ◌∙◌, arith}
use Rattle.bw_file.proofs.BodyLemmas.{padding_here, padding_next, padding_past}
use Rattle.bw_file.proofs.body.padding_place.Goals as goal

pub returns-then-has_padding-clause-place : goal.returns-then-has_padding-clause-place
returns-then-has_padding-clause-place c =
    sym (c.loop-at.invariant ∙ padding_here c.args.layout c.args.placement.now.schema.columns.items c.args.rows c.args.col c.args.block.now c.loop-at.at c.loop-at-test.true
    (sym c.if-has_padding.ensures))

pub loop-at-preserved : goal.loop-at-preserved
loop-at-preserved c =
    c.loop-at.invariant ∙ padding_next c.args.layout c.args.placement.now.schema.columns.items c.args.rows c.args.col c.args.block.now c.loop-at.at c.loop-at-test.true
    (sym c.if-has_padding.ensures)

pub returns-clause-place : goal.returns-clause-place
returns-clause-place c =
    let end : c.loop-at.at ≡ length c.args.block.now = omega (arith, c.loop-at.auto.at-end, c.loop-at-test.false) in
    sym (c.loop-at.invariant ∙ padding_past c.args.layout c.args.placement.now.schema.columns.items c.args.rows c.args.col c.args.block.now c.loop-at.at (omega (arith, end)) ∙ end)
