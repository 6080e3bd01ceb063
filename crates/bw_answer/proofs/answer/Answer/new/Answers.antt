-- An answer over no rows.
use Rattle.std.proofs.Common.{◌≡◌, ◌∙◌, sym, subst, List, ℕ, refl, true, length, arith}
use Rattle.std.specs.List.{list_all}
use Rattle.bw_model.specs.declared.query.Item.{Item}
use Rattle.bw_model.specs.Total.{item_within}
use Rattle.bw_model.specs.Column.{names_of}
use Rattle.bw_answer.proofs.AnswerLemmas.{heading_first}
use Rattle.std.proofs.lemmas.Bool.{eq-eqb}
use Rattle.bw_answer.proofs.answer.Answer.new.Goals as goal

-- each item is within this many columns
within : (width columns : ℕ) (items : List Item) → width ≡ columns → list_all (item_within columns) items ≡ true → list_all (item_within width) items ≡ true
within width columns items same = subst (λ (n : ℕ). list_all (item_within n) items ≡ true) (sym same)

pub invariant_of-result-clause-items : goal.invariant_of-result-clause-items
invariant_of-result-clause-items c = within _ _ c.args.query.now.items.items c.len-width.ensures c.requires.items

pub invariant_of-result-clause-of_items : goal.invariant_of-result-clause-of_items
invariant_of-result-clause-of_items c = rw c.deref-3.ensures.value at c.in_ok-new-2.ensures.of_items

pub invariant_of-result-clause-capacity : goal.invariant_of-result-clause-capacity
invariant_of-result-clause-capacity c =
    (rw c.deref-3.ensures.value at c.in_ok-new-2.ensures.counts) c.len-width.result (within _ _ c.args.query.now.items.items c.len-width.ensures c.requires.items)

pub invariant_of-result-clause-alone : goal.invariant_of-result-clause-alone
invariant_of-result-clause-alone c = rw c.deref-4.ensures.value at c.count_all_alone.ensures

pub returns-clause-takes : goal.returns-clause-takes
returns-clause-takes c = λ row admitted.
    let long = c.admitted_rows_have_each_value.ensures c.args.schema.now.columns.items row admitted in
    eq-eqb (length row) c.len-width.result (omega (arith, long, c.args.schema.now.columns.ok.0, c.len-width.ensures))

pub returns-clause-covers : goal.returns-clause-covers
returns-clause-covers c =
    let names = names_of c.args.schema.now.columns.items in
    let query = c.args.query.now in (
      refl,
      record {
        written = rw (c.deref.ensures.value, c.deref-2.ensures.value) at c.in_ok-heading_text.ensures.heading ∙ heading_first names query;
        totalled = λ e. (rw c.deref-3.ensures.value at c.in_ok-new-2.ensures.totals) e;
      },
    )
