use Rattle.std.proofs.Common.{◌≡◌, ◌+◌, ◌-◌, nat_lt, take, length}
use Rattle.bw_lanes.specs.Lanes.{lanes_of_words}
use Rattle.bw_lanes.proofs.WordLemmas.{tests_to}
use Rattle.bw_lanes.proofs.bytes.bytes_lt.Given as goal

abbrev pub invariant-loop-word : goal.invariant-loop-word
invariant-loop-word l = record { eight : length l.words ≡ 8; lanes : lanes_of_words (take l.word l.words) ≡ tests_to (λ byte. nat_lt byte (l.c - 1 + 1)) l.word l.bytes }
