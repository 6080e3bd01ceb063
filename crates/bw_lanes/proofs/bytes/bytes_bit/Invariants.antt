use Rattle.std.proofs.Common.{◌≡◌, ◌==◌, take, length}
use Rattle.std.specs.Int.{bit_at}
use Rattle.bw_lanes.specs.Lanes.{lanes_of_words}
use Rattle.bw_lanes.proofs.WordLemmas.{tests_to}
use Rattle.bw_lanes.proofs.bytes.bytes_bit.Given as goal

abbrev pub invariant-loop-word : goal.invariant-loop-word
invariant-loop-word l = record { eight : length l.words ≡ 8; lanes : lanes_of_words (take l.word l.words) ≡ tests_to (λ byte. bit_at byte l.bit == 1) l.word l.bytes }
