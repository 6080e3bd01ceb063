use Rattle.bw_segment.proofs.LaneLemmas.{nulls_in_lanes, bits_in_lanes, bytes_in_lanes}
use Rattle.bw_segment.proofs.lanes.lanes_hold_codes.Goals as goal

pub returns : goal.returns
returns c = record { nulls = nulls_in_lanes; bits = bits_in_lanes; bytes = bytes_in_lanes }
