-- The totals of all items are a record.
use Rattle.std.proofs.Common.{◌≡◌, List, map, take, subst, arith}
use Rattle.std.proofs.lemmas.List.{take_all}
use Rattle.std.proofs.lemmas.Result.{on_ok_weaker}
use Rattle.bw_model.specs.declared.query.Item.{Item}
use Rattle.bw_answer.specs.Aggregates.{answer_for}
use Rattle.bw_answer.specs.Answer.{value_text}
use Rattle.bw_answer.specs.Draft.{Holds}
use Rattle.bw_answer.proofs.PlainFields.{begun_map}
use Rattle.bw_answer.proofs.totals.push_totals.Goals as goal

pub returns-clause-record : goal.returns-clause-record
returns-clause-record c =
    let items = c.args.items.now in
    let field = λ (item : Item). value_text (answer_for c.args.totals.now item) in
    let all : take c.loop-item.item-index items ≡ items = take_all c.loop-item.item-index items (omega arith) in
    on_ok_weaker c.end_record.result
    (λ ends ended held. ends ended (map field items) (begun_map field items (omega (arith, c.requires)))
    (subst (λ (those : List Item). Holds c.loop-item.text ended (map field those)) all (c.loop-item.invariant ended held)))
    c.end_record.ensures.ended
