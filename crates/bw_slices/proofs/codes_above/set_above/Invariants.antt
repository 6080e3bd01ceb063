use Rattle.std.proofs.Common.{◌≡◌, ◌==◌, not, map}
use Rattle.std.specs.List.{range_with_len}
use Rattle.bw_slices.proofs.AboveLemmas.{above_in}
use Rattle.bw_slices.proofs.codes_above.set_above.Given as goal

-- which rows are above in the lowest bytes, this many
abbrev pub invariant-loop-slice : goal.invariant-loop-slice
invariant-loop-slice l = map (λ byte. not (byte == 0)) l.set ≡ map (above_in l.bytes l.slices l.most l.slice) (range_with_len l.first 64)
