-- An aggregate that is there changes nothing, and another one comes last.
use Rattle.std.proofs.Common.{◌∙◌, ◌∷◌, [], ap, sym, map}
use Rattle.std.specs.List.{list_any}
use Rattle.std.proofs.lemmas.List.{map-append}
use Rattle.bw_rowwise.specs.Accumulator.{Tally, tally_of}
use Rattle.bw_answer.specs.Aggregates.{aggregates_of, is_same}
use Rattle.bw_answer.proofs.AggregateLemmas.{another_last, is_aggregate-unless_plain}
use Rattle.bw_answer.proofs.AggregateLemmas.{known_left_out}
use Rattle.bw_answer.proofs.totals.include.Goals as goal

pub returns-then-has_total-clause-totals : goal.returns-then-has_total-clause-totals
returns-then-has_total-clause-totals c = λ items is.
    let item = c.args.item in
    let found = ap (list_any (λ (tally : Tally). is_same tally.item item)) (sym (c.deref.ensures.value ∙ is)) ∙ sym c.has_total.ensures ∙ c.if-has_total.true in
    is ∙ ap (map (λ item. tally_of item [])) (sym (known_left_out items item (is_aggregate-unless_plain item c.in_default.not-Plain) found))

pub returns-clause-totals : goal.returns-clause-totals
returns-clause-totals c = λ items is.
    let item = c.args.item in
    let none = ap (list_any (λ (tally : Tally). is_same tally.item item)) (sym (c.deref.ensures.value ∙ is)) ∙ sym c.has_total.ensures ∙ c.if-has_total.false in
    let last = another_last items item (is_aggregate-unless_plain item c.in_default.not-Plain) none in
    c.in_ok-push.ensures.items ∙ rw (is, c.new.ensures) (sym (map-append (λ item. tally_of item []) (aggregates_of items) (item ∷ [])) ∙ ap (map (λ item. tally_of item [])) (sym last))
