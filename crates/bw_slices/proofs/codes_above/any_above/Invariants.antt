use Rattle.std.proofs.Common.{◌≡◌, ◌*◌, ◌==◌, not, ltb, take}
use Rattle.std.specs.List.{list_any}
use Rattle.bw_slices.specs.Slices.{slices_codes}
use Rattle.bw_slices.proofs.codes_above.any_above.Given as goal

-- whether one of the codes so far is above
abbrev pub invariant-loop-word : goal.invariant-loop-word
invariant-loop-word l = list_any (λ byte. not (byte == 0)) l.any ≡ list_any (ltb l.most) (take (64 * l.word) (slices_codes l.slices l.bytes))
