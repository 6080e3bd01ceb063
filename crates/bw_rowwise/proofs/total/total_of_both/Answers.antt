use Rattle.std.proofs.Common.{arith}
use Rattle.std.proofs.lemmas.Int.{ints}
use Rattle.bw_rowwise.proofs.TotalLemmas.{adds, small_both}
use Rattle.bw_rowwise.proofs.total.total_of_both.Goals as goal

pub returns-in-Plain : goal.returns-in-Plain
returns-in-Plain c =
    let same = adds c.args.item c.args.a c.args.b c.in-Plain.is in
    let sum = c.sum_of_both.ensures in
    record {
      value = omega (arith, ints);
      small = λ rows more small other. small_both rows more c.args.a c.args.b _ small other (omega (arith, ints));
    }
