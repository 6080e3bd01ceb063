use Rattle.std.proofs.Common.{◌∙◌, sym, ap, ap₂, ◌*◌, ◌&&◌, not, map}
use Rattle.std.specs.List.{list_all}
use lib.Lanes.{zip2}
use Rattle.bw_lanes.specs.Lanes.{lanes_of_words}
use Rattle.bw_lanes.proofs.WordLemmas.{length-lanes_of_words}
use Rattle.bw_segment.proofs.FaultLemmas.{padding_is_clear, padding_is_set}
use Rattle.bw_segment.proofs.block.is_padding_clear.Goals as goal

pub returns : goal.returns
returns c =
    let nulls = lanes_of_words c.args.nulls.now in
    let used = lanes_of_words c.args.used.now in
    let long_nulls = length-lanes_of_words c.args.nulls.now ∙ ap (λ k. 64 * k) c.told-nulls in
    let long_used = length-lanes_of_words c.args.used.now ∙ ap (λ k. 64 * k) c.told-used in
    let shown = c.is_zero.ensures ∙ ap (list_all not) (c.and.ensures ∙ ap₂ (zip2 (λ x y. x && y)) c.or.ensures (c.not.ensures ∙ ap (map not) c.mask.ensures)) in
    record {
      clear = λ is row from to. padding_is_clear c.args.rows nulls used c.requires long_nulls long_used (sym shown ∙ is) row from to;
      set = λ is. padding_is_set c.args.rows nulls used c.requires long_nulls long_used (sym shown ∙ is);
    }
