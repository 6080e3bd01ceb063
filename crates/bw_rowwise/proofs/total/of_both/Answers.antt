use Rattle.std.proofs.Common.{arith, rules, ap, Some, FitsSigned, w64}
use Rattle.std.proofs.lemmas.Int.{ints, clamps}
use Rattle.bw_rowwise.proofs.TotalLemmas.{adds, small_sum, small_greatest}
use Rattle.bw_rowwise.proofs.total.of_both.Goals as goal

pub returns-in-Max-clause-small : goal.returns-in-Max-clause-small
returns-in-Max-clause-small c = λ rows small.
    let fits : FitsSigned w64 c.args.n = search rules in
    small_greatest rows c.args.total c.args.n c.max.result _ small fits (omega (arith, ints, clamps)) (ap Some (omega (arith, ints)))

pub returns-in-Plain : goal.returns-in-Plain
returns-in-Plain c =
    let same = adds c.args.item c.args.total c.args.n c.in-Plain.is in
    let sum = c.plus.ensures.sum in
    let fits : FitsSigned w64 c.args.n = search rules in
    record {
      value = omega (arith, ints);
      fits = search rules;
      small = λ rows small. small_sum rows c.args.total c.args.n c.plus.result _ small fits (omega (arith, ints)) (ap Some (omega (arith, ints)));
    }
