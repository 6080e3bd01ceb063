use Rattle.std.proofs.Common.{◌∙◌, ap, sym, ◌-◌, not, arith}
use Rattle.std.specs.List.{list_all}
use Rattle.bw_planes.specs.Planes.{planes_codes}
use Rattle.bw_planes.proofs.CodeLemmas.{codes_small}
use Rattle.bw_planes.proofs.NearLemmas.{none_near}
use Rattle.bw_planes.proofs.planes.none_is_near.Goals as goal

pub returns : goal.returns
returns c = λ clear.
    let width = c.args.width in
    none_near width (width - 14) 14 c.args.most (omega arith) (planes_codes width c.args.bytes.now) (codes_small width c.args.bytes.now) (sym (ap (list_all not) c.at_least.ensures) ∙ sym c.is_zero.ensures ∙ clear)
