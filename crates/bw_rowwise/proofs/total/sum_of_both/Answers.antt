use Rattle.std.proofs.Common.{arith, refl}
use Rattle.std.proofs.lemmas.Int.{ints}
use Rattle.bw_rowwise.proofs.total.sum_of_both.Goals as goal

pub overflow_add-result : goal.overflow_add-result
overflow_add-result c =
    let few = c.requires.within_limit c.args.a refl in
    let others = c.requires.others c.args.b refl in
    omega (arith, ints)

pub returns : goal.returns
returns c =
    let few = c.requires.within_limit c.args.a refl in
    let others = c.requires.others c.args.b refl in
    omega (arith, ints)
