use Rattle.std.proofs.Common.{◌≡◌}
use Rattle.bw_file.specs.TableReading.{plane_has_padding}
use Rattle.bw_file.proofs.BodyLemmas.{bits_from}
use Rattle.bw_file.proofs.body.plane_has_padding.Given as goal

-- no bit so far is one of a padding row
abbrev pub invariant-loop-bit : goal.invariant-loop-bit
invariant-loop-bit l = plane_has_padding l.rows l.at l.byte ≡ bits_from l.rows l.at l.byte l.bit
