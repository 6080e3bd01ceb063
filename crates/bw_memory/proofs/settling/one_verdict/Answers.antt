-- Each group has the verdict.
use Rattle.std.proofs.Common.{◌∙◌, subst, sym}
use Rattle.bw_memory.specs.Settled.{HaveVerdicts}
use Rattle.bw_memory.proofs.SettleLemmas.{filled, same_verdicts}
use Rattle.bw_memory.proofs.settling.one_verdict.Goals as goal

pub returns-clause-verdicts : goal.returns-clause-verdicts
returns-clause-verdicts c =
    subst (HaveVerdicts c.args.cond.now c.args.table.now) (sym (c.in_ok-resize.ensures.items ∙ filled c.div_ceil-groups.result _ c.args.verdict c.in_ok-verdicts.verdicts.items c.in_ok-verdicts.ensures.items c.in_ok-verdicts.ensures.len))
    (same_verdicts c.args.cond.now c.args.table.now c.args.verdict c.requires c.div_ceil-groups.result)
