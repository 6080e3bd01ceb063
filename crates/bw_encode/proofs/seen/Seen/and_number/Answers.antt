use Rattle.std.proofs.Common.{rules, FitsSigned, w64, ◌≡◌, true, false}
use Rattle.std.specs.Int.{int_min, int_max}
use Rattle.std.proofs.lemmas.Int.{to_z-of_z}
use Rattle.bw_encode.proofs.SeenLemmas.{first_number, next_number}
use Rattle.bw_encode.proofs.seen.Seen.and_number.Goals as goal

pub returns-then-not-self : goal.returns-then-not-self
returns-then-not-self c = λ values seen.
    let fits : FitsSigned w64 c.args.n = search rules in
    let first : c.args.self.has_number ≡ false = search rules in
    rw (to_z-of_z w64 c.args.n fits) (first_number values c.args.self c.args.n first seen)

pub returns : goal.returns
returns c = λ values seen.
    let more : c.args.self.has_number ≡ true = search rules in
    let n : FitsSigned w64 c.args.n = search rules in
    let lo : FitsSigned w64 c.args.self.lo = search rules in
    let hi : FitsSigned w64 c.args.self.hi = search rules in
    let low : FitsSigned w64 c.min.result = search rules in
    let high : FitsSigned w64 c.max.result = search rules in
    let least : c.min.result ≡ int_min c.args.self.lo c.args.n = rw (to_z-of_z w64 c.args.self.lo lo, to_z-of_z w64 c.args.n n) at c.min.ensures.value in
    let most : c.max.result ≡ int_max c.args.self.hi c.args.n = rw (to_z-of_z w64 c.args.self.hi hi, to_z-of_z w64 c.args.n n) at c.max.ensures.value in
    rw (to_z-of_z w64 c.min.result low, to_z-of_z w64 c.max.result high, least, most) (next_number values c.args.self c.args.n more seen)
