use Rattle.std.proofs.Common.{◌≡◌, ◌∙◌, rules, sym, ap, pos, ◌+ℤ◌, length, Some, arith}
use Rattle.std.specs.List.{reduce}
use Rattle.std.specs.Int.{int_min, int_max}
use Rattle.std.proofs.lemmas.Int.{ints}
use Rattle.std.proofs.lemmas.Bool.{ltb-true}
use Rattle.bw_lanes.specs.Lanes.{lanes_of_words}
use Rattle.bw_model.specs.declared.query.Item.{Item}
use Rattle.bw_model.specs.Total.{total, present, item_within}
use Rattle.bw_aggregate.specs.Selected.{values_in, selected_rows}
use Rattle.bw_aggregate.proofs.ColumnLemmas.{values_counted, values_are_codes}
use Rattle.bw_aggregate.proofs.selected.total_by_columns.Goals as goal

pub returns-in-Count-clause-total : goal.returns-in-Count-clause-total
returns-in-Count-clause-total g c =
    let meaning = g.S.Segment.meaning c.args.segment.now in
    let group = g.met.S.Segment.is_group c.args.segment.now in
    let lanes = lanes_of_words c.args.selection.now in
    let there = ltb-true c.in-Count.col (length meaning.columns) (sym (ap (item_within (length meaning.columns)) c.in-Count.is) ∙ c.requires.column) in
    let eight : length c.present.result ≡ 8 = search rules in
    let number : c.count.result ≡ length (present c.in-Count.col (selected_rows meaning lanes)) = c.count.ensures.ones ∙ values_counted meaning c.in-Count.col lanes c.present.result group there c.requires.selection eight c.present.ensures in
    ap Some (omega (arith, ints, c.from-in-Count.ensures)) ∙ ap (λ k. Some (pos k)) number ∙ ap (λ (item : Item). total item (selected_rows meaning lanes)) (sym c.in-Count.is)

pub returns-in-Sum-clause-total : goal.returns-in-Sum-clause-total
returns-in-Sum-clause-total g c =
    let meaning = g.S.Segment.meaning c.args.segment.now in
    let group = g.met.S.Segment.is_group c.args.segment.now in
    let lanes = lanes_of_words c.args.selection.now in
    let there = ltb-true c.in-Sum.col (length meaning.columns) (sym (ap (item_within (length meaning.columns)) c.in-Sum.is) ∙ c.requires.column) in
    c.sum.ensures.sum ∙ ap (λ l. reduce (λ a b. a +ℤ b) (values_in meaning c.in-Sum.col l)) c.present-in-Sum.ensures
    ∙ ap (reduce (λ a b. a +ℤ b)) (sym (values_are_codes meaning c.in-Sum.col lanes group there c.requires.selection)) ∙ ap (λ (item : Item). total item (selected_rows meaning lanes)) (sym c.in-Sum.is)

pub returns-in-Min-clause-total : goal.returns-in-Min-clause-total
returns-in-Min-clause-total g c =
    let meaning = g.S.Segment.meaning c.args.segment.now in
    let group = g.met.S.Segment.is_group c.args.segment.now in
    let lanes = lanes_of_words c.args.selection.now in
    let there = ltb-true c.in-Min.col (length meaning.columns) (sym (ap (item_within (length meaning.columns)) c.in-Min.is) ∙ c.requires.column) in
    c.least.ensures.least ∙ ap (λ l. reduce int_min (values_in meaning c.in-Min.col l)) c.present-in-Min.ensures
    ∙ ap (reduce int_min) (sym (values_are_codes meaning c.in-Min.col lanes group there c.requires.selection)) ∙ ap (λ (item : Item). total item (selected_rows meaning lanes)) (sym c.in-Min.is)

pub returns-in-Max-clause-total : goal.returns-in-Max-clause-total
returns-in-Max-clause-total g c =
    let meaning = g.S.Segment.meaning c.args.segment.now in
    let group = g.met.S.Segment.is_group c.args.segment.now in
    let lanes = lanes_of_words c.args.selection.now in
    let there = ltb-true c.in-Max.col (length meaning.columns) (sym (ap (item_within (length meaning.columns)) c.in-Max.is) ∙ c.requires.column) in
    c.greatest.ensures.greatest ∙ ap (λ l. reduce int_max (values_in meaning c.in-Max.col l)) c.present-in-Max.ensures
    ∙ ap (reduce int_max) (sym (values_are_codes meaning c.in-Max.col lanes group there c.requires.selection)) ∙ ap (λ (item : Item). total item (selected_rows meaning lanes)) (sym c.in-Max.is)
