use Rattle.std.proofs.Common.{rules, FitsSigned, w64}
use Rattle.std.proofs.lemmas.Int.{to_z-of_z}
use Rattle.bw_encode.proofs.SeenLemmas.{null_more}
use Rattle.bw_encode.proofs.seen.Seen.and.Goals as goal

pub returns-in-None : goal.returns-in-None
returns-in-None c = λ values seen.
    let lo : FitsSigned w64 c.args.self.lo = search rules in
    let hi : FitsSigned w64 c.args.self.hi = search rules in
    rw (c.in-None.is, to_z-of_z w64 c.args.self.lo lo, to_z-of_z w64 c.args.self.hi hi) (null_more values c.args.self seen)
