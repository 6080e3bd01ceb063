use Rattle.std.proofs.Common.{◌∙◌, ap, map, not, ◌==◌}
use Rattle.bw_slices.specs.Slices.{slices_codes}
use Rattle.bw_slices.proofs.CodeLemmas.{used_is}
use Rattle.bw_slices.proofs.layout.SlicesCodeLayout.nonzero_lanes.Goals as goal

pub returns : goal.returns
returns c =
    c.not.ensures ∙ ap (map not) c.bytes_none.ensures ∙ used_is c.args.bytes.now c.slices_in.result
    ∙ ap (λ count. map (λ code. not (code == 0)) (slices_codes count c.args.bytes.now)) c.slices_in.ensures.slices
