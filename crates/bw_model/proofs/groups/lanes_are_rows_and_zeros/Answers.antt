use Rattle.bw_model.proofs.GroupLemmas.{lanes_of-length, lanes_of-row, lanes_of-padding}
use Rattle.bw_model.proofs.groups.lanes_are_rows_and_zeros.Goals as goal

pub returns : goal.returns
returns c = record { count = lanes_of-length; row = lanes_of-row; padding = lanes_of-padding }
