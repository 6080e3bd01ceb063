use Rattle.std.proofs.Common.{◌≡◌, length, ltb, take}
use Rattle.bw_lanes.specs.Lanes.{lanes_of_words}
use Rattle.bw_lanes.proofs.WordLemmas.{tests_to}
use Rattle.bw_slices.specs.Slices.{slices_codes}
use Rattle.bw_slices.proofs.codes_above.above_by.Given as goal

abbrev pub invariant-loop-word : goal.invariant-loop-word
invariant-loop-word l = record { eight : length l.words ≡ 8; lanes : lanes_of_words (take l.word l.words) ≡ tests_to (ltb l.most) l.word (slices_codes l.slices l.bytes) }
