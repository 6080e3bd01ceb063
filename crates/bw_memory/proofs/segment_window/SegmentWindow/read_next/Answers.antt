-- One column more was read, or isn't wanted.
use Rattle.std.proofs.Common.{◌∙◌, arith}
use Rattle.bw_memory.proofs.WindowLemmas.{parts_added, parts_passed}
use Rattle.bw_memory.proofs.segment_window.SegmentWindow.read_next.Goals as goal
use Rattle.bw_memory.proofs.segment_window.SegmentWindow.read_next.Goals.{then-wanted-col+in_ok-read_column, else-wanted-col}

pub loop-col-preserved : goal.loop-col-preserved
loop-col-preserved g c =
    let so_far = c.loop-col.invariant in
    elim c.if-wanted-col.branch [
      | then-wanted-col+in_ok-read_column w ↦
          let made = w.in_ok-read_column.ensures in
          rw (w.self-is, w.device-is) (record {
            parts = parts_added _ _ _ c.loop-col.self w.read_column.new.self c.loop-col.col so_far.parts w.if-wanted-col.true (rw so_far.known at made.read) made.others made.first made.segments made.layout made.placement made.rows;
            next = made.first ∙ so_far.next;
            some = omega (arith, made.segments, so_far.some);
            few = omega (arith, made.segments, so_far.few);
            most = made.most ∙ so_far.most;
            known = made.same ∙ so_far.known;
            failures = omega (arith, made.count, so_far.failures);
          })
      | else-wanted-col w ↦
          rw (w.self-is, w.device-is) (record {
            parts = parts_passed _ _ _ c.loop-col.self c.loop-col.col so_far.parts w.if-wanted-col.false;
            next = so_far.next;
            some = so_far.some;
            few = so_far.few;
            most = so_far.most;
            known = so_far.known;
            failures = so_far.failures;
          })
    ]
