use Rattle.std.proofs.Common.{sym, ap, ◌/◌, ◌%◌, ◌^◌, false, not, ltb, lt-ltb}
use Rattle.bw_lanes.proofs.WordLemmas.{zeros_are_zero}
use Rattle.bw_planes.specs.Planes.{planes_codes}
use Rattle.bw_planes.proofs.CodeLemmas.{codes_long}
use Rattle.bw_planes.proofs.CompareLemmas.{everywhere, above_all}
use Rattle.bw_planes.proofs.compare.at_least.Goals as goal

pub returns-then-c-count-ne0 : goal.returns-then-c-count-ne0
returns-then-c-count-ne0 c =
    let width = c.args.width in
    let bytes = c.args.bytes.now in
    everywhere (planes_codes width bytes) (λ code. not (ltb (code / 2 ^ c.args.low % 2 ^ c.args.count) c.args.c)) false _ (codes_long width bytes) zeros_are_zero
    (λ code. sym (ap not (lt-ltb _ _ (above_all (code / 2 ^ c.args.low) c.args.count c.args.c c.if-c-count-ne0.true))))

pub returns-then-count-eq8 : goal.returns-then-count-eq8
returns-then-count-eq8 c = rw c.if-count-eq8.true c.low_at_least.ensures
