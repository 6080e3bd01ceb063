use Rattle.std.proofs.Common.{◌∙◌, sym, ap, ◌-◌, ◌^◌, ◌<◌, ◌&&◌, map, not, arith}
use Rattle.std.specs.List.{list_all}
use lib.Lanes.{zip2}
use Rattle.bw_lanes.specs.Lanes.{lanes_of_words}
use Rattle.bw_lanes.proofs.AnyLemmas.{any_is}
use Rattle.bw_model.specs.Selection.{selected_items}
use Rattle.bw_segment.proofs.SelectedLemmas.{all_selected, any_selected}
use Rattle.bw_planes.specs.Planes.{planes_codes}
use Rattle.bw_segment.specs.Selected.{is_greatest}
use Rattle.bw_planes.proofs.CodeLemmas.{codes_small}
use Rattle.bw_planes.proofs.NearLemmas.{is_near, none_beyond}
use Rattle.bw_planes.proofs.planes.are_far.Goals as goal

pub returns : goal.returns
returns c = λ clear.
    let width = c.args.width in
    let lanes = lanes_of_words c.args.lanes.now in
    let codes = planes_codes width c.args.bytes.now in
    let low = width - c.args.digits in
    let test = is_near (is_greatest c.args.which) low c.args.digits c.args.other in
    let none = sym (ap (list_all not) (c.and.ensures ∙ ap (zip2 (λ x y. x && y) lanes) c.near.ensures)) ∙ sym c.is_zero.ensures ∙ clear in
    none_beyond (is_greatest c.args.which) width low c.args.digits c.args.other (omega arith) (selected_items lanes codes)
    (all_selected (λ code. code < 2 ^ width) lanes codes (codes_small width c.args.bytes.now))
    (sym (any_selected test lanes codes) ∙ any_is (zip2 (λ x y. x && y) lanes (map test codes)) ∙ ap not none)
