use Rattle.std.proofs.Common.{arith, refl}
use Rattle.std.proofs.lemmas.Int.{ints}
use Rattle.bw_rowwise.proofs.total.plus.Goals as goal

pub overflow_add-result : goal.overflow_add-result
overflow_add-result c =
    let small = c.requires c.args.sum refl in
    omega (arith, ints)

pub returns-clause-sum : goal.returns-clause-sum
returns-clause-sum c =
    let small = c.requires c.args.sum refl in
    omega (arith, ints)
