use Rattle.std.proofs.Common.{◌≡◌, ◌==◌, take, length}
use Rattle.bw_lanes.specs.Lanes.{lanes_of_words}
use Rattle.bw_lanes.proofs.WordLemmas.{zips_to}
use Rattle.bw_lanes.proofs.codes.codes_eq.Given as goal

abbrev pub invariant-loop-word : goal.invariant-loop-word
invariant-loop-word l = record { eight : length l.words ≡ 8; lanes : lanes_of_words (take l.word l.words) ≡ zips_to (λ x y. x == y) l.word l.xs l.ys }
