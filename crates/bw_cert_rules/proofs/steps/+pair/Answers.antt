-- A condition's parts name only columns that it names itself.
use Rattle.std.proofs.Common.{rules, length}
use Rattle.bw_model.specs.declared.cond.Cond.TheViews.{the_lemmas}
use Rattle.bw_model.proofs.CondLemmas.{names_within-And, names_within-Or, names_within-Not}
use Rattle.bw_model.proofs.CondLemmas.{names_within-Test}
use Rattle.bw_cert_rules.proofs.steps.+pair.Goals as goal

pub pair-combine_parts-requires : goal.pair-combine_parts-requires
pair-combine_parts-requires t c =
    (search (rules, the_lemmas), let parts = names_within-And (length c.args.schema.now.columns.items) c.in-And.parts in cc)

pub pair-combine_parts-requires-in-Or : goal.pair-combine_parts-requires-in-Or
pair-combine_parts-requires-in-Or t c =
    (search (rules, the_lemmas), let parts = names_within-Or (length c.args.schema.now.columns.items) c.in-Or.parts in cc)

pub pair-pair-requires : goal.pair-pair-requires
pair-pair-requires t c =
    (search (rules, the_lemmas), let part = names_within-Not (length c.args.schema.now.columns.items) c.in-Not.part in cc)

pub pair-pair-requires-in-Test : goal.pair-pair-requires-in-Test
pair-pair-requires-in-Test t c =
    (search (rules, the_lemmas), let part = names_within-Test (length c.args.schema.now.columns.items) c.in-Test.part c.in-Test.wanted in cc)
