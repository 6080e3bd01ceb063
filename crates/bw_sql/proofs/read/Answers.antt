-- What the tokens give is what the text is read as.
use Rattle.std.proofs.Common.{refl}
use Rattle.bw_sql.proofs.Texts.{read_so, refused_so}
use Rattle.bw_sql.proofs.read.Goals as goal

pub returns-in-Err-clause-exact : goal.returns-in-Err-clause-exact
returns-in-Err-clause-exact c short =
    refused_so c.args.schema.now c.args.text.now c.in_ok-lexed.lexed.tokens.items c.in_ok-lexed.lexed.stopped c.in_ok-lexed.ensures
    c.in-Err.stop c.refusal.result (rw c.as_slice.ensures.value at c.in-Err.ensures) c.refusal.ensures.is

pub returns-in-Some-clause-exact : goal.returns-in-Some-clause-exact
returns-in-Some-clause-exact c short =
    let read = rw c.as_slice.ensures.value at c.in-Ok.ensures in
    rw c.at_byte-in-Some.ensures (λ m. read_so c.args.schema.now c.args.text.now c.in_ok-lexed.lexed.tokens.items
    c.in_ok-lexed.lexed.stopped c.in_ok-lexed.ensures _ _ read (rw c.in-Some.is refl))

pub returns-clause-exact : goal.returns-clause-exact
returns-clause-exact c short =
    let read = rw c.as_slice.ensures.value at c.in-Ok.ensures in
    read_so c.args.schema.now c.args.text.now c.in_ok-lexed.lexed.tokens.items c.in_ok-lexed.lexed.stopped c.in_ok-lexed.ensures
    _ _ read (rw c.in-None.is refl)
