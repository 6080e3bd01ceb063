use Rattle.std.proofs.Common.{◌≡◌, ◌∙◌, sym, ap, ap₂, w64, to_z, of_z, pos, ◌+ℤ◌, ◌*ℤ◌, Some, sum}
use Rattle.std.proofs.Common.{arith}
use Rattle.std.specs.List.{reduce}
use Rattle.std.proofs.lemmas.Int.{ints}
use Rattle.bw_lanes.specs.Lanes.{lanes_of_words}
use Rattle.bw_model.specs.Code.{value_at}
use Rattle.bw_segment.specs.Selected.{codes_in}
use Rattle.bw_aggregate.specs.Selected.{values_in}
use Rattle.bw_segment.proofs.SelectedCodes.{codes_counted}
use Rattle.bw_aggregate.proofs.ValueLemmas.{sum_of_none, sum_of_some}
use Rattle.bw_aggregate.proofs.column.sum.Goals as goal

pub returns-then-number-eq0-clause-sum : goal.returns-then-number-eq0-clause-sum
returns-then-number-eq0-clause-sum g c =
    let meaning = g.S.Segment.meaning c.args.segment.now in
    let group = g.met.S.Segment.is_group c.args.segment.now in
    let number = codes_counted meaning c.args.col c.args.rows.now group c.told-rows in
    sum_of_none (value_at meaning.columns c.args.col) (codes_in meaning c.args.col (lanes_of_words c.args.rows.now)) (sym number ∙ sym c.count-number.ensures.ones ∙ c.if-number-eq0.true)

pub returns-clause-sum : goal.returns-clause-sum
returns-clause-sum g c =
    let meaning = g.S.Segment.meaning c.args.segment.now in
    let group = g.met.S.Segment.is_group c.args.segment.now in
    let codes = codes_in meaning c.args.col (lanes_of_words c.args.rows.now) in
    let lo = c.lowest.result in
    let number = c.count-number.ensures.ones ∙ codes_counted meaning c.args.col c.args.rows.now group c.told-rows in
    let value : Some (lo *ℤ pos c.count-number.result +ℤ pos (sum codes)) ≡ reduce (λ a b. a +ℤ b) (values_in meaning c.args.col (lanes_of_words c.args.rows.now)) =
    sum_of_some lo (value_at meaning.columns c.args.col) c.count-number.result codes c.lowest.ensures number (omega arith) in
    let low : to_z w64 (of_z w64 lo) ≡ lo = omega (arith, ints) in
    let total : c.sum_of_values.result ≡ lo *ℤ pos c.count-number.result +ℤ pos (sum codes) = c.sum_of_values.ensures.sum ∙ ap₂ (λ a b. a *ℤ pos c.count-number.result +ℤ pos b) low c.sum_of_codes-codes.ensures.sum in
    ap Some (omega (arith, ints)) ∙ ap Some total ∙ value
