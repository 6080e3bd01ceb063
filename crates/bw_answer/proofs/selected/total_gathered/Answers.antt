-- The total at hand is as it was; then it has the selected rows.
use Rattle.std.proofs.Common.{◌≡◌, ◌∙◌, ◌<◌, ℕ, ap, arith, count_by, get_or, length, length-set}
use Rattle.std.proofs.Common.{set, subst, sym, inl, inr}
use Rattle.std.proofs.lemmas.Bool.{cases_eq}
use Rattle.std.proofs.lemmas.List.{get_or-map, get_or-set_other, get_or-set_same, get_or_default}
use Rattle.std.proofs.lemmas.List.{length-map}
use Rattle.std.proofs.lemmas.List.Edits.{map_over_more}
use Rattle.bw_aggregate.specs.Gathered.{Reads}
use Rattle.bw_aggregate.specs.Selected.{with_selected}
use Rattle.bw_lanes.specs.Lanes.{lanes_of_words}
use Rattle.bw_model.specs.Selection.{selected_items}
use Rattle.bw_model.specs.declared.query.Item.{Item}
use Rattle.bw_model.specs.declared.query.Item.TheVariants.{CountAll}
use Rattle.bw_rowwise.specs.Accumulator.{Tally}
use Rattle.bw_rowwise.specs.Columns.{numbers_of}
use Rattle.bw_answer.proofs.GatheredLemmas.{Counts, items_counted, totals_counted}
use Rattle.bw_answer.proofs.TotalsLemmas.{all_added}
use Rattle.bw_answer.proofs.selected.total_gathered.Goals as goal

pub loop-place-preserved : goal.loop-place-preserved
loop-place-preserved c =
    let bits = lanes_of_words c.args.selection.now in
    let number = count_by (λ lane. lane) bits in
    let old = c.args.totals.now in
    let totals = c.loop-place.totals in
    let i = c.loop-place.place in
    let d = c.index-totals-place.result in
    let new = c.add_gathered.new.total in
    let so_far = c.loop-place.invariant in
    let within = c.loop-place-test.true in
    let there = λ (e : Tally). get_or_default totals i d e (omega (arith, within, so_far.many)) ∙ so_far.rest i e (omega arith) in
    record {
      many = length-set totals i new ∙ so_far.many;
      rest = λ k e from. get_or-set_other totals i k new e (λ is. omega (arith, from, is)) ∙ so_far.rest k e (omega (arith, from));
      done = λ k e below. elim (cases_eq k i) [
        | inl same ↦
            let here : Counts number (get_or old i e) new = record {
              item = c.add_gathered.ensures.item ∙ ap (λ (t : Tally). t.item) (there e);
              count = omega (arith, c.add_gathered.ensures.count, ap (λ (t : Tally). t.count) (there e), c.count-number.ensures.ones);
            } in
            subst (λ m. Counts number (get_or old m e) (get_or (set totals i new) m e)) (sym same)
            (subst (Counts number (get_or old i e)) (sym (get_or-set_same totals i new e (omega (arith, within, so_far.many)))) here)
        | inr other ↦ subst (Counts number (get_or old k e)) (sym (get_or-set_other totals i k new e other)) (so_far.done k e (omega (arith, below, other)))
      ];
      step = λ rows have inside.
          rw (c.add_gathered.ensures.total rows have inside)
          (map_over_more (λ (tally : Tally). with_selected tally (selected_items bits rows)) old totals i (get_or totals i d) within (so_far.step rows have inside) (ap (λ (e : Tally). get_or totals i e) c.index-totals-place.is));
    }

pub add_gathered-requires-clause-place : goal.add_gathered-requires-clause-place
add_gathered-requires-clause-place c =
    let old = c.args.totals.now in
    let i = c.loop-place.place in
    let d = c.index-totals-place.result in
    let item = λ (tally : Tally). tally.item in
    let numbers = numbers_of c.args.summed.now.columns in
    let places = c.args.summed.now.places.items in
    let at : c.index.result.now ≡ get_or places i 0 =
    c.index.ensures ∙ get_or_default places i c.index.result.now 0 (omega (arith, c.loop-place-test.true, length-map old item, c.requires.places.many)) in
    subst (λ (place : ℕ). Reads numbers (get_or c.loop-place.totals i d).item place) (sym at)
    (subst (λ (x : Item). Reads numbers x (get_or places i 0))
    (get_or-map item old i d CountAll c.loop-place-test.true ∙ ap item (sym (c.loop-place.invariant.rest i d (omega arith))))
    (c.requires.places.each i (omega (arith, c.loop-place-test.true, length-map old item))))

pub add_gathered-requires-clause-capacity : goal.add_gathered-requires-clause-capacity
add_gathered-requires-clause-capacity c =
    let i = c.loop-place.place in
    let d = c.index-totals-place.result in
    omega (arith, c.requires.capacity i d c.loop-place-test.true, ap (λ (t : Tally). t.count) (c.loop-place.invariant.rest i d (omega arith)), c.count-number.ensures.ones)

pub returns : goal.returns
returns c =
    let bits = lanes_of_words c.args.selection.now in
    let number = count_by (λ lane. lane) bits in
    let old = c.args.totals.now in
    let totals = c.loop-place.totals in
    let so_far = c.loop-place.invariant in
    let each = λ (k : ℕ) (e : Tally) (below : k < length old). so_far.done k e (omega (arith, below, c.loop-place-test.false)) in
    record {
      items = items_counted number old totals so_far.many each;
      counts = λ width rows e. totals_counted width rows number old totals so_far.many each e;
      totals = λ rows have inside. all_added (λ (tally : Tally). with_selected tally (selected_items bits rows)) old totals c.loop-place.place (omega (arith, c.loop-place-test.false)) (so_far.step rows have inside);
    }
