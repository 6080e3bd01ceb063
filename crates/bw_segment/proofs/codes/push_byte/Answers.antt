use Rattle.std.proofs.Common.{◌∙◌, sym, arith, ext_get_or}
use Rattle.std.proofs.lemmas.Simd.{length-zip2, get_or-zip2}
use lib.Lanes.{zip2}
use Rattle.bw_segment.proofs.ByteLemmas.{with_byte}
use Rattle.bw_segment.proofs.codes.push_byte.Goals as goal

pub returns : goal.returns
returns c =
    let old = c.args.codes.now in
    let bytes = c.args.bytes.now in
    let so_far = c.loop-lane.invariant in
    ext_get_or 0 c.loop-lane.codes (zip2 with_byte old bytes) (so_far.all ∙ sym (length-zip2 with_byte old bytes (c.told-codes ∙ sym c.told-bytes) ∙ c.told-codes))
    (λ lane there. so_far.shifted lane (omega arith) ∙ sym (get_or-zip2 with_byte old bytes lane 0 0 0 (omega (arith, c.told-codes, so_far.all)) (omega (arith, c.told-bytes, so_far.all))))
