use Rattle.std.proofs.Common.{◌≡◌, ◌++◌, ◌-◌}
use Rattle.bw_slices.specs.Slices.{slices_bytes}
use Rattle.bw_slices.proofs.layout.SlicesCodeLayout.push_codes.Given as goal

-- what is there and what is to come
abbrev pub invariant-loop-place : goal.invariant-loop-place
invariant-loop-place l = l.bytes.items ++ slices_bytes (l.slices - l.place) l.codes ≡ l.initial.bytes.items ++ slices_bytes l.slices l.codes
