-- What is printed is what the checker reads, and the given text spells it.
use Rattle.std.proofs.Common.{subst}
use Rattle.bw_program.specs.ProgramText.{IsProgramText}
use Rattle.bw_laws.proofs.PrintedPlanLemmas.{shown_is}
use Rattle.bw_laws.proofs.printed_plan.a_certified_program_is_the_given_one.Goals as goal

pub returns : goal.returns
returns c = λ schema_text sql text file certified.
    let columns = certified.schema.columns.items in
    let made = certified.made in
    subst (λ program. IsProgramText columns made.given program)
    (shown_is columns certified.query.cond file made.program made.certificate made.printed made.certifies) made.same
