-- The row in the lane is added if it is selected.
use Rattle.std.proofs.Common.{◌≡◌, ◌∙◌, ◌+◌, ◌<◌, ◌++◌, ◌∷◌, [], ℕ, List, true, false, arith, get_or}
use Rattle.std.proofs.Common.{count_by, length, subst, take, sym, ap, inl, inr, true≢false}
use Rattle.std.proofs.lemmas.Bool.{cases_lt}
use Rattle.std.proofs.lemmas.List.{length-map, length-take-le, take_all, take_more}
use Rattle.bw_lanes.specs.Lanes.{lanes_of_words}
use Rattle.bw_lanes.proofs.WordLemmas.{length-lanes_of_words}
use Rattle.bw_model.specs.Row.{Value}
use Rattle.bw_model.specs.Selection.{selected_items}
use Rattle.bw_model.specs.Total.{total}
use Rattle.bw_model.specs.declared.query.Item.{Item}
use Rattle.bw_rowwise.specs.Accumulator.{IsTotalOfRows, Tally, tally_of, value_for}
use Rattle.bw_rowwise.specs.Columns.{numbers_of, row_at}
use Rattle.bw_rowwise.specs.declared.columns.LaneColumn.{LaneColumn}
use Rattle.bw_aggregate.proofs.GatheredLemmas.{counted_none, counted_one, not_selected, one_selected}
use Rattle.bw_aggregate.proofs.GatheredLemmas.{read_within, value_read}
use Rattle.bw_aggregate.proofs.gathered.total_of_values.Goals as goal
use Rattle.bw_aggregate.proofs.gathered.total_of_values.Goals.{then-lane, else-lane}

pub loop-row-preserved : goal.loop-row-preserved
loop-row-preserved c =
    let bits = lanes_of_words c.args.selection.now in
    let item = c.args.item in
    let i = c.loop-row.row in
    let total = c.loop-row.total in
    let so_far = c.loop-row.invariant in
    let long : i < length bits = omega (arith, c.loop-row-test.true, length-lanes_of_words c.args.selection.now, c.told-selection) in
    let size : length (take i bits) ≡ i = length-take-le i bits (omega (arith, long)) in
    let more = take_more bits i false long in
    elim c.if-lane.branch [
      | then-lane w ↦
          let one : get_or bits i false ≡ true = sym c.lane.ensures ∙ w.if-lane.true in
          let next : take (i + 1) bits ≡ take i bits ++ true ∷ [] = more ∙ ap (λ b. take i bits ++ b ∷ []) one in
          record {
            item = rw (w.total-is, w.add.ensures.step) so_far.item;
            few = rw (w.total-is, w.add.ensures.step) (omega (arith, so_far.few));
            count = rw (w.total-is, w.add.ensures.step, next) (ap (λ n. n + 1) so_far.count ∙ sym (counted_one (take i bits)));
            sums = λ rows have within.
                let below : i < length rows = elim (cases_lt i (length rows)) [ inl lt ↦ lt | inr past ↦ absurd (true≢false (sym one ∙ within i past)) ] in
                let those = selected_items (take i bits) rows in
                let row = row_at rows i in
                let value = w.value.ensures ∙ value_read item rows c.args.columns.now c.args.place i c.requires.place c.loop-row-test.true have c.requires.values
                ∙ ap (λ (x : Item). value_for x row) (sym so_far.item) in
                let before = so_far.sums rows have within ∙ ap (λ (x : Item). tally_of x those) (sym so_far.item) in
                let all : selected_items (take (i + 1) bits) rows ≡ those ++ row ∷ [] =
                ap (λ l. selected_items l rows) next ∙ one_selected (take i bits) rows (omega (arith, size, below)) ∙ ap (λ k. those ++ row_at rows k ∷ []) size in
                w.total-is ∙ w.add.ensures.total those row value before ∙ ap (λ (x : Item). tally_of x (those ++ row ∷ [])) so_far.item
                ∙ ap (λ (l : List (List Value)). tally_of item l) (sym all);
          }
      | else-lane w ↦
          let none : get_or bits i false ≡ false = sym c.lane.ensures ∙ w.if-lane.false in
          let next : take (i + 1) bits ≡ take i bits ++ false ∷ [] = more ∙ ap (λ b. take i bits ++ b ∷ []) none in
          record {
            item = rw w.total-is so_far.item;
            few = rw w.total-is (omega (arith, so_far.few));
            count = rw (w.total-is, next) (so_far.count ∙ sym (counted_none (take i bits)));
            sums = λ rows have within. w.total-is ∙ so_far.sums rows have within
                ∙ ap (λ (l : List (List Value)). tally_of item l) (sym (ap (λ l. selected_items l rows) next ∙ not_selected (take i bits) rows));
          }
    ]

pub returns : goal.returns
returns c =
    let bits = lanes_of_words c.args.selection.now in
    let so_far = c.loop-row.invariant in
    let all : take c.loop-row.row bits ≡ bits = take_all c.loop-row.row bits (omega (arith, c.loop-row-test.false, length-lanes_of_words c.args.selection.now, c.told-selection)) in
    record {
      total = λ rows have within. c.finish.ensures ∙ ap (λ (t : Tally). t.answer) (so_far.sums rows have within) ∙ ap (λ l. total c.args.item (selected_items l rows)) all;
      small = rw c.finish.ensures (subst (λ n. IsTotalOfRows n c.loop-row.total.answer) (so_far.count ∙ ap (count_by (λ lane. lane)) all) c.has_small_total.ensures);
    }

pub value-requires-clause-place : goal.value-requires-clause-place
value-requires-clause-place c =
    omega (
      arith,
      read_within c.args.item (numbers_of c.args.columns.now) c.args.place c.requires.values c.requires.place,
      length-map c.args.columns.now.columns.items (λ (column : LaneColumn). column.number),
    )
