-- The text as it is, or with the record of totals.
use Rattle.std.proofs.Common.{◌∙◌, ◌++◌, ℕ, List, map, sym, ap}
use Rattle.std.proofs.lemmas.Result.{IfOk-weaker}
use Rattle.bw_model.specs.declared.query.Item.{Item}
use Rattle.bw_answer.specs.Aggregates.{answer_for}
use Rattle.bw_answer.specs.Answer.{record_text, totals_record, value_text}
use Rattle.bw_answer.proofs.AnswerLemmas.{meaning_with_rows, meaning_with_totals, totals_fields}
use Rattle.bw_answer.proofs.output.Output.into_text.Goals as goal

pub returns-in-Listing-clause-text : goal.returns-in-Listing-clause-text
returns-in-Listing-clause-text c = λ names rows over.
    let of_items = rw c.in-Listing.is at c.requires.of_items in
    over.written ∙ sym (meaning_with_rows names c.args.query.now rows of_items.0)

pub returns-clause-text : goal.returns-clause-text
returns-clause-text c =
    let query = c.args.query.now in
    let of_items = rw c.in-Totals.is at c.requires.of_items in
    rw c.in-Totals.is (IfOk-weaker c.with_totals.result _ _ (λ text record_ names rows over.
    let fields = totals_fields query c.deref.result.now rows of_items.1 (c.deref.ensures.value ∙ over.totalled of_items.0) in
    let items = c.deref-in-Totals.ensures.value in
    record_ ∙ ap (λ (those : List Item). c.args.text.items ++ record_text (map (λ item. value_text (answer_for c.deref.result.now item)) those)) items
    ∙ ap (λ (those : List (List ℕ)). c.args.text.items ++ record_text those) fields
    ∙ ap (λ (before : List ℕ). before ++ record_text (totals_record query rows)) over.written ∙ sym (meaning_with_totals names query rows of_items.0)) c.with_totals.ensures.record)
