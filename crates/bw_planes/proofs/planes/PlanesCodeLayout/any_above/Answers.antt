use Rattle.std.proofs.Common.{◌∙◌, sym, ap, not, ltb, map}
use Rattle.std.specs.List.{list_all}
use Rattle.bw_lanes.proofs.AnyLemmas.{any_is, any_mapped}
use Rattle.bw_planes.specs.Planes.{planes_codes}
use Rattle.bw_planes.proofs.planes.PlanesCodeLayout.any_above.Goals as goal

pub returns-then-not-none_is_near : goal.returns-then-not-none_is_near
returns-then-not-none_is_near c =
    let codes = planes_codes c.args.width c.args.bytes.now in
    ap not (c.is_zero.ensures ∙ ap (list_all not) c.above.ensures) ∙ sym (any_is (map (ltb c.args.most) codes)) ∙ any_mapped (ltb c.args.most) codes
