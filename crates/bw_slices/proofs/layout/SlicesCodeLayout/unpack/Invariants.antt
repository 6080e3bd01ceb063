use Rattle.std.proofs.Common.{◌≡◌, ◌+◌, ◌-◌, ◌/◌}
use Rattle.bw_segment.proofs.ByteLemmas.{codes_from}
use Rattle.bw_slices.specs.Slices.{slices_codes}
use Rattle.bw_slices.proofs.layout.SlicesCodeLayout.unpack.Given as goal

-- what the bytes so far spell
abbrev pub invariant-loop-place : goal.invariant-loop-place
invariant-loop-place l = l.codes ≡ codes_from (l.slices - l.place) (slices_codes ((l.width + 7) / 8) l.bytes)
