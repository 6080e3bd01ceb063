use Rattle.std.proofs.Common.{◌≡◌}
use Rattle.bw_lanes.specs.Lanes.{lanes_of_words}
use Rattle.bw_lanes.specs.Shifted.{with_bit}
use Rattle.bw_lanes.proofs.WordLemmas.{written}
use Rattle.bw_lanes.proofs.row_bits.push_bit.Given as goal

-- the bytes so far have their bits
abbrev pub invariant-loop-word : goal.invariant-loop-word
invariant-loop-word l = l.bytes ≡ written with_bit l.word l.fn.bytes (lanes_of_words l.plane)
