use Rattle.std.proofs.Common.{◌≡◌, sym, ◌∙◌, false, true, arith}
use Rattle.bw_io.specs.Sink.{is_write_fault}
use Rattle.bw_session.specs.Session.{AsksNothing}
use Rattle.bw_session.proofs.WriteLemmas.{answer_failed, answered_line, asks_something, count_kept}
use Rattle.bw_session.proofs.WriteLemmas.{count_same, refused, silent}
use Rattle.bw_session.proofs.session.answer_one.Goals as goal

pub returns-then-asks_nothing-clause-answers : goal.returns-then-asks_nothing-clause-answers
returns-then-asks_nothing-clause-answers g c =
    let asks : AsksNothing c.args.sql.now = c.asks_nothing.ensures.0 c.if-asks_nothing.true in
    silent _ _ (g.K.Sink.state c.args.sink.now) (g.L.Listener.told c.args.listener.now) asks

pub returns-then-is_write_fault-clause-answers : goal.returns-then-is_write_fault-clause-answers
returns-then-is_write_fault-clause-answers g c =
    let write : is_write_fault c.in-Err.fault ≡ true = sym c.is_write_fault.ensures ∙ c.if-is_write_fault.true in
    let answer = c.in-Err.ensures.answer in
    answer_failed _ _ _ _ _ answer.0 c.in-Err.fault answer.1 answer.2 write

pub end_line-requires : goal.end_line-requires
end_line-requires g c =
    let answer = c.in-Ok.ensures.answer in
    omega (arith, count_same _ _ _ answer.0 c.in-Ok.served answer.2, c.requires.sink)

pub end_line-requires-in-Err : goal.end_line-requires-in-Err
end_line-requires-in-Err g c =
    let other : is_write_fault c.in-Err.fault ≡ false = sym c.is_write_fault.ensures ∙ c.if-is_write_fault.false in
    let answer = c.in-Err.ensures.answer in
    omega (arith, count_kept _ _ _ answer.0 c.in-Err.fault answer.2 other, c.requires.sink)

pub returns-in-Ok-clause-answers : goal.returns-in-Ok-clause-answers
returns-in-Ok-clause-answers g c =
    let answer = c.in-Ok.ensures.answer in
    let found = c.in-Ok.ensures.served in
    answered_line _ _ answer.0 _ _ (g.K.Sink.state c.end_line.new.sink) _ _ c.in-Ok.served c.end_line.result answer.2 found
    c.note_served.ensures c.end_line.ensures

pub returns-else-is_write_fault-clause-answers : goal.returns-else-is_write_fault-clause-answers
returns-else-is_write_fault-clause-answers g c =
    let asks = asks_something _ _ c.asks_nothing.ensures c.if-asks_nothing.false in
    let other : is_write_fault c.in-Err.fault ≡ false = sym c.is_write_fault.ensures ∙ c.if-is_write_fault.false in
    let answer = c.in-Err.ensures.answer in
    refused _ _ answer.0 _ _ (g.K.Sink.state c.end_line-in-Err.new.sink) _ _ c.in-Err.fault c.end_line-in-Err.result asks c.requires.stored
    answer.1 answer.2 other c.note_refusal.ensures c.end_line-in-Err.ensures
