-- A condition's parts name only columns that it names itself.
use Rattle.std.proofs.Common.{rules, length}
use Rattle.bw_model.specs.declared.cond.Cond.TheViews.{the_lemmas}
use Rattle.bw_model.proofs.CondLemmas.{names_within-And, names_within-Or, names_within-Not}
use Rattle.bw_model.proofs.CondLemmas.{names_within-Test}
use Rattle.bw_rowwise.proofs.condition.+truth.Goals as goal

pub truth-all_of-requires : goal.truth-all_of-requires
truth-all_of-requires t c =
    (search (rules, the_lemmas), let parts = names_within-And (length c.args.row.now.values.items) c.in-And.parts in cc)

pub truth-any_of-requires : goal.truth-any_of-requires
truth-any_of-requires t c =
    (search (rules, the_lemmas), let parts = names_within-Or (length c.args.row.now.values.items) c.in-Or.parts in cc)

pub truth-truth-requires : goal.truth-truth-requires
truth-truth-requires t c =
    (search (rules, the_lemmas), let part = names_within-Not (length c.args.row.now.values.items) c.in-Not.part in cc)

pub truth-truth-requires-in-Test : goal.truth-truth-requires-in-Test
truth-truth-requires-in-Test t c =
    (search (rules, the_lemmas), let part = names_within-Test (length c.args.row.now.values.items) c.in-Test.part c.in-Test.wanted in cc)
