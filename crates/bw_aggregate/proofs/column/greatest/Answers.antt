use Rattle.std.proofs.Common.{◌∙◌, sym, ap, pos, ◌+ℤ◌, Some, arith}
use Rattle.std.specs.Option.{option_map}
use Rattle.std.proofs.lemmas.Int.{ints}
use Rattle.bw_lanes.specs.Lanes.{lanes_of_words}
use Rattle.bw_model.specs.Code.{value_at}
use Rattle.bw_segment.specs.Selected.{codes_in}
use Rattle.bw_aggregate.proofs.ValueLemmas.{greatest_value}
use Rattle.bw_aggregate.proofs.column.greatest.Goals as goal

pub returns-clause-greatest : goal.returns-clause-greatest
returns-clause-greatest g c =
    let meaning = g.S.Segment.meaning c.args.segment.now in
    let lo = c.lowest.result in
    ap Some (omega (arith, ints)) ∙ ap (option_map (λ code. lo +ℤ pos code)) c.in_ok-code.ensures.greatest
    ∙ sym (greatest_value lo (value_at meaning.columns c.args.col) (codes_in meaning c.args.col (lanes_of_words c.args.rows.now)) c.lowest.ensures)
