-- A condition is prepared as its operands, its list or its parts are.
use Rattle.std.proofs.Common.{map}
use Rattle.bw_model.specs.Cond.{truth_of}
use Rattle.bw_rowwise.specs.Columns.{numbers_of}
use Rattle.bw_rowwise.proofs.PlacedLemmas.{grows_twice, operand_grown, part_pushed, part_repeated}
use Rattle.bw_rowwise.proofs.PlacedLemmas.{prepares_always, prepares_among, prepares_and}
use Rattle.bw_rowwise.proofs.PlacedLemmas.{prepares_between, prepares_cmp, prepares_not, prepares_null}
use Rattle.bw_rowwise.proofs.PlacedLemmas.{prepares_or, prepares_test}
use Rattle.bw_rowwise.proofs.prepared.+new.Goals as goal
use Rattle.bw_rowwise.proofs.prepared.+new.Goals.{all_of-then-not-branch+in_ok-new+in_ok-push}
use Rattle.bw_rowwise.proofs.prepared.+new.Goals.{all_of-else-not-branch}

pub Prepared::new-returns-in-Always-clause-prepared : goal.Prepared::new-returns-in-Always-clause-prepared
Prepared::new-returns-in-Always-clause-prepared t c = rw c.in-Always.is (prepares_always _)

pub Prepared::new-returns-in_ok-y-in-Cmp-clause-prepared : goal.Prepared::new-returns-in_ok-y-in-Cmp-clause-prepared
Prepared::new-returns-in_ok-y-in-Cmp-clause-prepared t c =
    let left = c.in_ok-x-in-Cmp in
    let right = c.in_ok-y-in-Cmp in
    rw c.in-Cmp.is (prepares_cmp c.in-Cmp.op c.in-Cmp.x c.in-Cmp.y left.x right.y _ (operand_grown _ _ _ _ left.ensures.placed right.ensures.grown) right.ensures.placed)

pub Prepared::new-returns-in_ok-z-in-Between-clause-prepared : goal.Prepared::new-returns-in_ok-z-in-Between-clause-prepared
Prepared::new-returns-in_ok-z-in-Between-clause-prepared t c =
    let first = c.in_ok-x-in-Between in
    let second = c.in_ok-y-in-Between in
    let third = c.in_ok-z-in-Between in
    rw c.in-Between.is (prepares_between c.in-Between.x c.in-Between.y c.in-Between.z first.x second.y third.z _
    (operand_grown _ _ _ _ first.ensures.placed (grows_twice _ _ _ second.ensures.grown third.ensures.grown))
    (operand_grown _ _ _ _ second.ensures.placed third.ensures.grown) third.ensures.placed)

pub Prepared::new-returns-in_ok-place_operand-in-IsNull-clause-prepared : goal.Prepared::new-returns-in_ok-place_operand-in-IsNull-clause-prepared
Prepared::new-returns-in_ok-place_operand-in-IsNull-clause-prepared t c =
    rw c.in-IsNull.is (prepares_null c.in-IsNull.x _ _ c.in_ok-place_operand-in-IsNull.ensures.placed)

pub Prepared::new-returns-in_ok-items_of-in-Among-clause-prepared : goal.Prepared::new-returns-in_ok-items_of-in-Among-clause-prepared
Prepared::new-returns-in_ok-items_of-in-Among-clause-prepared t c =
    let operand = c.in_ok-x-in-Among in
    let list = c.in_ok-items_of-in-Among in
    rw c.in-Among.is (prepares_among c.in-Among.x operand.x c.in-Among.items list.field-0 _ (operand_grown _ _ _ _ operand.ensures.placed list.ensures.grown)
    (rw c.deref.ensures.value at list.ensures.items))

pub Prepared::new-returns-in_ok-all_of-in-And-clause-prepared : goal.Prepared::new-returns-in_ok-all_of-in-And-clause-prepared
Prepared::new-returns-in_ok-all_of-in-And-clause-prepared t c =
    rw c.in-And.is (prepares_and c.in-And.parts c.in_ok-all_of-in-And.field-0 _ (rw c.deref-in-And.ensures.value at c.in_ok-all_of-in-And.ensures.prepared))

pub Prepared::new-returns-in_ok-all_of-in-Or-clause-prepared : goal.Prepared::new-returns-in_ok-all_of-in-Or-clause-prepared
Prepared::new-returns-in_ok-all_of-in-Or-clause-prepared t c =
    rw c.in-Or.is (prepares_or c.in-Or.parts c.in_ok-all_of-in-Or.field-0 _ (rw c.deref-in-Or.ensures.value at c.in_ok-all_of-in-Or.ensures.prepared))

pub Prepared::new-returns-in_ok-new-in-Not-clause-prepared : goal.Prepared::new-returns-in_ok-new-in-Not-clause-prepared
Prepared::new-returns-in_ok-new-in-Not-clause-prepared t c =
    let one = rw c.deref-in-Not.ensures at c.in_ok-part-in-Not.ensures.prepared in
    rw c.in-Not.is (prepares_not c.in-Not.part c.in_ok-new-in-Not.field-0 _ (rw c.in_ok-new-in-Not.ensures.ok one))

pub Prepared::new-returns-in_ok-new-in-Test-clause-prepared : goal.Prepared::new-returns-in_ok-new-in-Test-clause-prepared
Prepared::new-returns-in_ok-new-in-Test-clause-prepared t c =
    let one = rw c.deref-in-Test.ensures at c.in_ok-part-in-Test.ensures.prepared in
    rw c.in-Test.is (prepares_test c.in-Test.part c.in_ok-new-in-Test.field-0 c.in-Test.wanted _ (rw c.in_ok-new-in-Test.ensures.ok one))

pub all_of-loop-place-preserved : goal.all_of-loop-place-preserved
all_of-loop-place-preserved t c =
    let conds = c.args.conds.now in
    let prepared = c.loop-place.prepared.items in
    let i = c.loop-place.place in
    let x = c.index-conds-place.result in
    let within = c.loop-place-test.true in
    let so_far = c.loop-place.invariant in
    elim c.if-not-branch.branch [
      | all_of-then-not-branch+in_ok-new+in_ok-push w ↦ record {
        parts = rw (w.columns-is, w.prepared-is, w.in_ok-push.ensures.items)
            (part_pushed conds prepared i x w.in_ok-new.field-0 _ _ within c.index-conds-place.is so_far.parts w.in_ok-new.ensures.grown w.in_ok-new.ensures.prepared);
        grown = rw w.columns-is (grows_twice _ _ _ so_far.grown w.in_ok-new.ensures.grown);
      }
      | all_of-else-not-branch w ↦ record {
        parts = rw (w.columns-is, w.prepared-is) (part_repeated conds prepared i x _ within c.index-conds-place.is so_far.parts (λ row. c.in_ok-is_repeated.ensures.repeated w.if-not-branch.false row));
        grown = rw w.columns-is so_far.grown;
      }
    ]
