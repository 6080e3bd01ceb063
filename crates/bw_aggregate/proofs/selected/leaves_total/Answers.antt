use Rattle.std.proofs.Common.{◌≡◌, ◌∙◌, sym, ap, subst, length, false, None}
use Rattle.std.proofs.lemmas.Bool.{ltb-true}
use Rattle.bw_lanes.specs.Lanes.{lanes_of_words}
use Rattle.bw_model.specs.declared.query.Item.{Item}
use Rattle.bw_model.specs.Total.{combine_totals, total, item_within}
use Rattle.bw_segment.specs.Selected.{is_beyond}
use Rattle.bw_aggregate.specs.Selected.{selected_rows}
use Rattle.bw_aggregate.proofs.ColumnLemmas.{maximum_left, minimum_left, none_in_present}
use Rattle.bw_aggregate.proofs.selected.leaves_total.Goals as goal

pub returns-then-none_beyond : goal.returns-then-none_beyond
returns-then-none_beyond g c = λ is.
    let meaning = g.S.Segment.meaning c.args.segment.now in
    let lanes = lanes_of_words c.args.selection.now in
    let there = ltb-true c.in-Min.col (length meaning.columns) (sym (ap (item_within (length meaning.columns)) c.in-Min.is) ∙ c.requires.column) in
    let found = c.none_beyond.ensures is in
    subst (λ (item : Item). combine_totals item c.args.so_far None ≡ combine_totals item c.args.so_far (total item (selected_rows meaning lanes))) (sym c.in-Min.is)
    (minimum_left meaning c.in-Min.col found.1 found.0 c.args.so_far lanes (g.met.S.Segment.is_group c.args.segment.now) there c.requires.selection found.2 found.3 (none_in_present (is_beyond false found.1) meaning c.in-Min.col lanes found.4))

pub returns-then-not-are_few : goal.returns-then-not-are_few
returns-then-not-are_few g c = λ is.
    let meaning = g.S.Segment.meaning c.args.segment.now in
    let lanes = lanes_of_words c.args.selection.now in
    let there = ltb-true c.in-Min.col (length meaning.columns) (sym (ap (item_within (length meaning.columns)) c.in-Min.is) ∙ c.requires.column) in
    let found = c.no_value_below.ensures is in
    subst (λ (item : Item). combine_totals item c.args.so_far None ≡ combine_totals item c.args.so_far (total item (selected_rows meaning lanes))) (sym c.in-Min.is)
    (minimum_left meaning c.in-Min.col found.1 found.0 c.args.so_far lanes (g.met.S.Segment.is_group c.args.segment.now) there c.requires.selection found.2 found.3 found.4)

pub returns-then-nullable-2 : goal.returns-then-nullable-2
returns-then-nullable-2 g c = λ is.
    let meaning = g.S.Segment.meaning c.args.segment.now in
    let lanes = lanes_of_words c.args.selection.now in
    let there = ltb-true c.in-Min.col (length meaning.columns) (sym (ap (item_within (length meaning.columns)) c.in-Min.is) ∙ c.requires.column) in
    let found = c.no_value_below-then-nullable-2.ensures is in
    subst (λ (item : Item). combine_totals item c.args.so_far None ≡ combine_totals item c.args.so_far (total item (selected_rows meaning lanes))) (sym c.in-Min.is)
    (minimum_left meaning c.in-Min.col found.1 found.0 c.args.so_far lanes (g.met.S.Segment.is_group c.args.segment.now) there c.requires.selection found.2 found.3 found.4)

pub returns-in-Max : goal.returns-in-Max
returns-in-Max g c = λ is.
    let meaning = g.S.Segment.meaning c.args.segment.now in
    let lanes = lanes_of_words c.args.selection.now in
    let there = ltb-true c.in-Max.col (length meaning.columns) (sym (ap (item_within (length meaning.columns)) c.in-Max.is) ∙ c.requires.column) in
    let found = c.none_beyond-in-Max.ensures is in
    subst (λ (item : Item). combine_totals item c.args.so_far None ≡ combine_totals item c.args.so_far (total item (selected_rows meaning lanes))) (sym c.in-Max.is)
    (maximum_left meaning c.in-Max.col found.1 found.0 c.args.so_far lanes (g.met.S.Segment.is_group c.args.segment.now) there c.requires.selection found.2 found.3 found.4)
