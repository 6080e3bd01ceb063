-- What is accepted is spelled under the schema that was read, and its condition has the tree of the
-- query's.
use Rattle.bw_model.proofs.ErrLemmas.{err_passed_on}
use Rattle.bw_shell.proofs.TextLemmas.{numbers_given, accepted_so}
use Rattle.bw_shell.proofs.check_call.check_text.Goals as goal

pub returns-in_err-parsed-clause-accepts : goal.returns-in_err-parsed-clause-accepts
returns-in_err-parsed-clause-accepts c = λ accepted is.
    let memory = c.in_err-parsed.ensures.accepts is.schema is.query (record { spelled = is.spelled; asked = is.asked }) in
    rw (err_passed_on _ c.from_residual.ensures.1) (λ aside. absurd (cc (memory aside)))

pub returns-clause-accepted : goal.returns-clause-accepted
returns-clause-accepted c =
    let parsed = c.in_ok-parsed.parsed in
    let read = c.in_ok-parsed.ensures.read in
    accepted_so c.args.schema.now c.args.sql.now c.args.file.now parsed.schema parsed.query read.spelled read.asked c.numbers.result c.numbers.ensures.valid

pub returns-clause-accepts : goal.returns-clause-accepts
returns-clause-accepts c = λ accepted is.
    let parsed = c.in_ok-parsed.parsed in
    let same = c.in_ok-parsed.ensures.accepts is.schema is.query (record { spelled = is.spelled; asked = is.asked }) in
    numbers_given c.args.schema.now c.args.sql.now c.args.file.now accepted is parsed.schema parsed.query same c.numbers.result c.numbers.ensures.accepted
