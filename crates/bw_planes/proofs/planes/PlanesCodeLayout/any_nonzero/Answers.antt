use Rattle.std.proofs.Common.{◌∙◌, sym, ap, ℕ, not, ◌==◌, ◌&&◌, map}
use Rattle.std.specs.List.{list_all}
use lib.Lanes.{zip2}
use Rattle.bw_lanes.specs.Lanes.{lanes_of_words}
use Rattle.bw_lanes.proofs.AnyLemmas.{any_is}
use Rattle.bw_planes.specs.Planes.{planes_codes}
use Rattle.bw_segment.proofs.SelectedLemmas.{any_selected}
use Rattle.bw_planes.proofs.planes.PlanesCodeLayout.any_nonzero.Goals as goal

pub returns : goal.returns
returns c =
    let lanes = lanes_of_words c.args.lanes.now in
    let test = λ (code : ℕ). not (code == 0) in
    let codes = planes_codes c.args.width c.args.bytes.now in
    ap (λ b. not b) (c.is_zero.ensures ∙ ap (list_all not) (c.and.ensures ∙ ap (zip2 (λ x y. x && y) lanes) c.nonzero_lanes.ensures)) ∙ sym (any_is (zip2 (λ x y. x && y) lanes (map test codes)))
    ∙ any_selected test lanes codes
