use Rattle.std.proofs.Common.{◌∙◌, ap, ◌-◌, ◌&&◌, count_by, ℕ}
use lib.Lanes.{zip2}
use Rattle.bw_lanes.specs.Lanes.{lanes_of_words}
use Rattle.bw_model.specs.Code.{has_bit}
use Rattle.bw_segment.proofs.SelectedLemmas.{count_both}
use Rattle.bw_planes.specs.Planes.{planes_codes}
use Rattle.bw_planes.proofs.sum.ones_in_plane.Goals as goal

pub returns-clause-ones : goal.returns-clause-ones
returns-clause-ones c =
    let rows = lanes_of_words c.args.lanes.now in
    let codes = planes_codes c.args.width c.args.bytes.now in
    let test = λ (code : ℕ). has_bit code (c.args.width - 1 - c.args.plane) in
    c.count_and.ensures.ones ∙ ap (λ plane. count_by (λ lane. lane) (zip2 (λ a b. a && b) rows plane)) c.plane_of.ensures ∙ count_both test rows codes
