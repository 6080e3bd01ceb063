use Rattle.std.proofs.Common.{◌≡◌, ℕ, List, None, map, length, nat_lt}
use Rattle.bw_lanes.specs.Lanes.{lanes_of_words}
use Rattle.bw_model.specs.Groups.{group_size}
use Rattle.bw_segment.specs.BlockFault.{first_fault, TellsCodes}
use Rattle.bw_segment.proofs.FaultLemmas.{of_rows}
use Rattle.bw_segment.proofs.block.fault_of_lanes.Given as goal

-- none of the rows so far has an error
abbrev pub invariant-loop-row : goal.invariant-loop-row
invariant-loop-row l = (span : ℕ) (codes : List ℕ) → length codes ≡ group_size → TellsCodes l.rows (lanes_of_words l.nulls) codes (lanes_of_words l.used)
    → lanes_of_words l.above ≡ map (nat_lt span) codes → first_fault (of_rows span l.rows (lanes_of_words l.nulls) codes) l.row ≡ None
