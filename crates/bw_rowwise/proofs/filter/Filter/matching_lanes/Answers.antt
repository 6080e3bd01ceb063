use Rattle.bw_model.specs.Groups.{group_size}
use Rattle.bw_rowwise.proofs.filter.Filter.matching_lanes.Goals as goal

pub matching_rows-requires : goal.matching_rows-requires
unfolding group_size
matching_rows-requires g c = c.rows_in.ensures.bounds.1
