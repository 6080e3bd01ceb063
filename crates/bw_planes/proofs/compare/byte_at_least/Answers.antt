use Rattle.std.proofs.Common.{◌∙◌, map, not, arith}
use Rattle.bw_planes.specs.Planes.{planes_codes}
use Rattle.bw_planes.proofs.CompareLemmas.{by_eighths}
use Rattle.bw_planes.proofs.compare.byte_at_least.Goals as goal

pub returns-then-c-eq0 : goal.returns-then-c-eq0
returns-then-c-eq0 c =
    let same = by_eighths c.args.low c.args.count c.args.c c.from-then-c-eq0.result (omega (arith, c.if-count-ne8.false)) (omega (arith, c.if-c-eq0.true)) (omega (arith, c.from-then-c-eq0.ensures)) in
    c.low_at_least.ensures ∙ (λ i. map (λ code. not (same code i)) (planes_codes c.args.width c.args.bytes.now))
