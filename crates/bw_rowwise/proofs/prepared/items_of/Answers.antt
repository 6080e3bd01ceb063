-- One more number, one more column, or NULL.
use Rattle.std.proofs.Common.{rules, ◌≡◌, ◌≤◌, ◌∙◌, ◌++◌, List, length, map, take, ap, w64, arith}
use Rattle.std.proofs.Common.{take_all}
use Rattle.std.proofs.lemmas.Int.{to_z-of_z}
use Rattle.bw_model.specs.Cond.{operand_value}
use Rattle.bw_model.specs.Row.{Value, value_in}
use Rattle.bw_model.specs.Truth.{in_list, greatest}
use Rattle.bw_model.specs.declared.cond.Operand.{Operand}
use Rattle.bw_model.specs.declared.cond.Truth.{Truth}
use Rattle.bw_rowwise.specs.Columns.{numbers_of, values_in}
use Rattle.bw_rowwise.specs.Numbers.{among_numbers}
use Rattle.bw_rowwise.specs.Prepared.{null_truth}
use Rattle.bw_rowwise.proofs.NumberLemmas.{null_more, number_more, number_pushed}
use Rattle.bw_rowwise.proofs.PlacedLemmas.{column_step, grows_twice, no_fewer}
use Rattle.bw_rowwise.proofs.prepared.items_of.Goals as goal
use Rattle.bw_rowwise.proofs.prepared.items_of.Goals.{in-Lit+in_ok-push-in-Lit, in-Null}
use Rattle.bw_rowwise.proofs.prepared.items_of.Goals.{in-Col+in_ok-place_of-in-Col+in_ok-push_once-in-Col}

pub loop-item-preserved : goal.loop-item-preserved
loop-item-preserved c =
    let items = c.args.items.now in
    let now = numbers_of c.loop-item.columns in
    let numbers = c.loop-item.numbers.items in
    let places = c.loop-item.places.items in
    let has_null = c.loop-item.has_null in
    let i = c.loop-item.item-index in
    let within = c.loop-item-test.true in
    let so_far = c.loop-item.invariant in
    elim c.match-item.branch [
      | in-Lit+in_ok-push-in-Lit w ↦ record {
        grown = rw w.columns-is so_far.grown;
        value = λ row more x.
            let columns = in_list x (map (value_in (values_in now row ++ more)) places) in
            rw (w.columns-is, w.numbers-is, w.places-is, w.has_null-is, w.in_ok-push-in-Lit.ensures.items, to_z-of_z w64 w.in-Lit.n (search rules))
            (ap (λ (t : Truth). greatest t (greatest columns (null_truth has_null))) (number_pushed x numbers w.in-Lit.n)
            ∙ number_more x row items (among_numbers x numbers) columns has_null i _ within (so_far.value row more x) w.in-Lit.n w.in-Lit.is);
        within = λ count enough. rw w.places-is (so_far.within count (rw w.columns-is at enough));
      }
      | in-Col+in_ok-place_of-in-Col+in_ok-push_once-in-Col w ↦
          let later = numbers_of w.place_of.new.self in
          let place = w.in_ok-place_of-in-Col.field-0 in
          let grown = w.in_ok-place_of-in-Col.ensures.grown in
          let at = w.in_ok-place_of-in-Col.ensures.place in
          record {
            grown = rw w.columns-is (grows_twice _ _ _ so_far.grown grown);
            value = λ row more x.
                rw (w.columns-is, w.numbers-is, w.places-is, w.has_null-is, w.in_ok-push_once-in-Col.ensures.added (values_in later row ++ more) x)
                (column_step x row more items (among_numbers x numbers) now later places has_null i _ w.in-Col.number place within w.in-Col.is grown at (λ row more. so_far.value row more x));
            within = λ count enough.
                let all : length later ≤ count = rw w.columns-is at enough in
                rw w.places-is (w.in_ok-push_once-in-Col.ensures.within count (omega (arith, at.0, all)) (so_far.within count (omega (arith, all, no_fewer now later grown))));
          }
      | in-Null w ↦ record {
        grown = rw w.columns-is so_far.grown;
        value = λ row more x.
            let columns = in_list x (map (value_in (values_in now row ++ more)) places) in
            rw (w.columns-is, w.numbers-is, w.places-is, w.has_null-is)
            (null_more x row items (among_numbers x numbers) columns has_null i _ within (so_far.value row more x) w.in-Null.is);
        within = λ count enough. rw w.places-is (so_far.within count (rw w.columns-is at enough));
      }
    ]

pub returns-clause-items : goal.returns-clause-items
returns-clause-items c =
    let items = c.args.items.now in
    let so_far = c.loop-item.invariant in
    let all : take c.loop-item.item-index items ≡ items = take_all c.loop-item.item-index items (omega arith) in
    record {
      value = λ row more x.
          let columns = in_list x (map (value_in (values_in (numbers_of c.loop-item.columns) row ++ more)) c.loop-item.places.items) in
          ap (λ (t : Truth). greatest t (greatest columns (null_truth c.loop-item.has_null))) (c.in_ok-new.ensures x)
          ∙ so_far.value row more x ∙ ap (λ (those : List Operand). in_list x (map (operand_value row) those)) all;
      within = so_far.within;
    }
