-- The headings of all items are a record.
use Rattle.std.proofs.Common.{◌≡◌, List, map, take, subst, arith}
use Rattle.std.proofs.lemmas.List.{take_all}
use Rattle.std.proofs.lemmas.Result.{on_ok_weaker}
use Rattle.bw_model.specs.Column.{names_of}
use Rattle.bw_model.specs.declared.query.Item.{Item}
use Rattle.bw_answer.specs.Answer.{heading_of}
use Rattle.bw_answer.specs.Draft.{Holds}
use Rattle.bw_answer.proofs.PlainFields.{begun_map}
use Rattle.bw_answer.proofs.heading.push_heading.Goals as goal

pub returns-clause-heading : goal.returns-clause-heading
returns-clause-heading c =
    let items = c.args.items.now in
    let headings = map (heading_of (names_of c.args.columns.now)) items in
    let all : take c.loop-item.item-index items ≡ items = take_all c.loop-item.item-index items (omega arith) in
    on_ok_weaker c.end_record.result
    (λ ends ended held. ends ended headings (begun_map (heading_of (names_of c.args.columns.now)) items c.requires.nonempty)
    (subst (λ (those : List Item). Holds c.loop-item.text ended (map (heading_of (names_of c.args.columns.now)) those)) all (c.loop-item.invariant ended held)))
    c.end_record.ensures.ended
