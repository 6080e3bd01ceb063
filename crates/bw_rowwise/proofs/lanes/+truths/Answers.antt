-- One more part; and no other if every lane is settled. A condition's columns are those of its parts.
use Rattle.std.proofs.Common.{rules, ◌≡◌, ◌∙◌, ◌&&◌, ℕ, ap, length, sym, true}
use Rattle.std.proofs.lemmas.Bool.{and_parts}
use Rattle.bw_model.specs.Cond.{is_within}
use Rattle.bw_rowwise.specs.Columns.{row_in}
use Rattle.bw_rowwise.specs.Prepared.{items_within, places_within, prepared_truth}
use Rattle.bw_rowwise.specs.declared.prepared.Prepared.TheViews.{the_lemmas}
use Rattle.bw_rowwise.proofs.PreparedLemmas.{places-Among, places-And, places-Between, places-Cmp}
use Rattle.bw_rowwise.proofs.PreparedLemmas.{places-IsNull, places-Not, places-Or, places-Test}
use Rattle.bw_rowwise.proofs.TruthLemmas.{alike, all_false, all_more, any_more, any_true}
use Rattle.bw_rowwise.proofs.lanes.+truths.Goals as goal

pub all_of-loop-part-preserved : goal.all_of-loop-part-preserved
all_of-loop-part-preserved t c =
    let f = λ (lane : ℕ). prepared_truth (row_in c.args.columns.now lane) in
    alike _ _ _ (c.both-least.ensures _ _ c.loop-part.invariant c.truths.ensures) (λ lane within. all_more (f lane) c.args.parts.now c.loop-part.part-index c.part-item.result c.loop-part-test.true c.part-item.is)

pub all_of-returns-then-are_false : goal.all_of-returns-then-are_false
all_of-returns-then-are_false t c =
    let f = λ (lane : ℕ). prepared_truth (row_in c.args.columns.now lane) in
    alike _ _ _ c.loop-part.invariant (λ lane within.
    let no = c.are_false.ensures c.if-are_false.true _ c.loop-part.invariant lane within in
    no ∙ all_false (f lane) c.args.parts.now c.loop-part.part-index no)

pub any_of-loop-part-preserved : goal.any_of-loop-part-preserved
any_of-loop-part-preserved t c =
    let f = λ (lane : ℕ). prepared_truth (row_in c.args.columns.now lane) in
    alike _ _ _ (c.either-greatest.ensures _ _ c.loop-part.invariant c.truths.ensures) (λ lane within. any_more (f lane) c.args.parts.now c.loop-part.part-index c.part-item.result c.loop-part-test.true c.part-item.is)

pub any_of-returns-then-are_true : goal.any_of-returns-then-are_true
any_of-returns-then-are_true t c =
    let f = λ (lane : ℕ). prepared_truth (row_in c.args.columns.now lane) in
    alike _ _ _ c.loop-part.invariant (λ lane within.
    let yes = c.are_true.ensures c.if-are_true.true _ c.loop-part.invariant lane within in
    yes ∙ any_true (f lane) c.args.parts.now c.loop-part.part-index yes)

pub truths-compare-requires-clause-left : goal.truths-compare-requires-clause-left
truths-compare-requires-clause-left t c =
    let n = length c.args.columns.now.columns.items in
    let all = sym (places-Cmp n c.in-Cmp.op c.in-Cmp.x c.in-Cmp.y) ∙ ap (places_within n) (sym c.in-Cmp.is) ∙ c.requires in
    (and_parts (is_within n c.in-Cmp.x) (is_within n c.in-Cmp.y) all).0

pub truths-compare-requires-clause-right : goal.truths-compare-requires-clause-right
truths-compare-requires-clause-right t c =
    let n = length c.args.columns.now.columns.items in
    let all = sym (places-Cmp n c.in-Cmp.op c.in-Cmp.x c.in-Cmp.y) ∙ ap (places_within n) (sym c.in-Cmp.is) ∙ c.requires in
    (and_parts (is_within n c.in-Cmp.x) (is_within n c.in-Cmp.y) all).1

pub truths-between-requires-clause-x : goal.truths-between-requires-clause-x
truths-between-requires-clause-x t c =
    let n = length c.args.columns.now.columns.items in
    let all = sym (places-Between n c.in-Between.x c.in-Between.y c.in-Between.z) ∙ ap (places_within n) (sym c.in-Between.is) ∙ c.requires in
    (and_parts (is_within n c.in-Between.x) (is_within n c.in-Between.y) (and_parts (is_within n c.in-Between.x && is_within n c.in-Between.y) (is_within n c.in-Between.z) all).0).0

pub truths-between-requires-clause-y : goal.truths-between-requires-clause-y
truths-between-requires-clause-y t c =
    let n = length c.args.columns.now.columns.items in
    let all = sym (places-Between n c.in-Between.x c.in-Between.y c.in-Between.z) ∙ ap (places_within n) (sym c.in-Between.is) ∙ c.requires in
    (and_parts (is_within n c.in-Between.x) (is_within n c.in-Between.y) (and_parts (is_within n c.in-Between.x && is_within n c.in-Between.y) (is_within n c.in-Between.z) all).0).1

pub truths-between-requires-clause-z : goal.truths-between-requires-clause-z
truths-between-requires-clause-z t c =
    let n = length c.args.columns.now.columns.items in
    let all = sym (places-Between n c.in-Between.x c.in-Between.y c.in-Between.z) ∙ ap (places_within n) (sym c.in-Between.is) ∙ c.requires in
    (and_parts (is_within n c.in-Between.x && is_within n c.in-Between.y) (is_within n c.in-Between.z) all).1

pub truths-among-requires-clause-x : goal.truths-among-requires-clause-x
truths-among-requires-clause-x t c =
    let n = length c.args.columns.now.columns.items in
    let all = sym (places-Among n c.in-Among.x c.in-Among.items) ∙ ap (places_within n) (sym c.in-Among.is) ∙ c.requires in
    (and_parts (is_within n c.in-Among.x) (items_within n c.in-Among.items) all).0

pub truths-among-requires-clause-items : goal.truths-among-requires-clause-items
truths-among-requires-clause-items t c =
    let n = length c.args.columns.now.columns.items in
    let all = sym (places-Among n c.in-Among.x c.in-Among.items) ∙ ap (places_within n) (sym c.in-Among.is) ∙ c.requires in
    (and_parts (is_within n c.in-Among.x) (items_within n c.in-Among.items) all).1

pub truths-test_null-requires : goal.truths-test_null-requires
truths-test_null-requires t c =
    let n = length c.args.columns.now.columns.items in
    let all = sym (places-IsNull n c.in-IsNull.x) ∙ ap (places_within n) (sym c.in-IsNull.is) ∙ c.requires in
    all

pub truths-all_of-requires : goal.truths-all_of-requires
truths-all_of-requires t c =
    (search (rules, the_lemmas), let parts = places-And (length c.args.columns.now.columns.items) c.in-And.parts in cc)

pub truths-any_of-requires : goal.truths-any_of-requires
truths-any_of-requires t c =
    (search (rules, the_lemmas), let parts = places-Or (length c.args.columns.now.columns.items) c.in-Or.parts in cc)

pub truths-truths-requires : goal.truths-truths-requires
truths-truths-requires t c =
    (search (rules, the_lemmas), let parts = places-Not (length c.args.columns.now.columns.items) c.in-Not.part in cc)

pub truths-truths-requires-in-Test : goal.truths-truths-requires-in-Test
truths-truths-requires-in-Test t c =
    (search (rules, the_lemmas), let parts = places-Test (length c.args.columns.now.columns.items) c.in-Test.part c.in-Test.wanted in cc)
