-- By what the planes are in each lane.
use Rattle.std.proofs.Common.{◌∙◌, ap, ap₂, not, ◌&&◌, ◌||◌, false, get_or, slice_index}
use Rattle.bw_lanes.specs.Lanes.{lanes_of_words}
use Rattle.bw_segment.specs.Keys.{number_of_key}
use Rattle.bw_rowwise.proofs.TruthLemmas.{compared_yes, compared_maybe}
use Rattle.bw_rowwise.proofs.column_lanes.ColumnLanes.compare.Goals as goal

pub returns : goal.returns
returns c =
    let x = c.args.self.now in
    let y = c.args.other.now in
    record {
      yes = λ lane within.
          c.both_lanes.ensures.each lane within
          ∙ ap₂ (λ a b. a && b) (c.lanes_holding-holds.ensures lane within) (c.other_lanes.ensures lane within ∙ ap not (c.either_lanes-none.ensures lane within))
          ∙ compared_yes c.args.op (get_or (lanes_of_words x.none) lane false) (get_or (lanes_of_words y.none) lane false) (number_of_key (slice_index x.keys lane)) (number_of_key (slice_index y.keys lane));
      maybe = λ lane within.
          c.either_lanes.ensures lane within ∙ ap₂ (λ a b. a || b) (c.lanes_holding-holds.ensures lane within) (c.either_lanes-none.ensures lane within)
          ∙ compared_maybe c.args.op (get_or (lanes_of_words x.none) lane false) (get_or (lanes_of_words y.none) lane false) (number_of_key (slice_index x.keys lane)) (number_of_key (slice_index y.keys lane));
    }
