use Rattle.std.proofs.Common.{◌∙◌, ap, count_by, bit_and, arith}
use Rattle.std.proofs.lemmas.Nat.{and_le_l}
use Rattle.bw_lanes.proofs.BitLemmas.{bits_of_and}
use Rattle.bw_lanes.proofs.WordLemmas.{ones_in_bits}
use Rattle.bw_planes.proofs.sum.ones_in.Goals as goal

pub returns-clause-ones : goal.returns-clause-ones
returns-clause-ones c = ones_in_bits 64 (bit_and c.args.a c.args.b) (omega (arith, and_le_l c.args.a c.args.b, c.ranges.a.fits)) ∙ ap (count_by (λ lane. lane)) (bits_of_and 64 c.args.a c.args.b)
