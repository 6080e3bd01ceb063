use Rattle.std.proofs.Common.{◌≡◌}
use Rattle.bw_slices.proofs.CodeLemmas.{front_code}
use Rattle.bw_slices.proofs.layout.SlicesCodeLayout.code.Given as goal

abbrev pub invariant-loop-place : goal.invariant-loop-place
invariant-loop-place l = l.code ≡ front_code l.place l.lane l.bytes
