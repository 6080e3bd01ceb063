-- More of the buffer is filled.
use Rattle.std.proofs.Common.{◌∙◌, ◌+◌, arith}
use Rattle.bw_io.specs.RandomAccess.{AreAt}
use Rattle.bw_memory.proofs.FillingLemmas.{filled_more, known_as}
use Rattle.bw_memory.proofs.filling.fill_at.Goals as goal

pub loop-filled-preserved : goal.loop-filled-preserved
loop-filled-preserved g c =
    let so_far = c.loop-filled.invariant in
    record {
      within = omega (arith, c.in-Ok.ensures.bound, c.read_at.auto.buffer);
      read = filled_more _ c.args.at c.loop-filled.filled c.in-Ok.n c.loop-filled.buffer c.read_at.new.buffer (omega arith) (omega (arith, c.in-Ok.ensures.bound)) so_far.read
          (known_as _ _ (AreAt (c.args.at + c.loop-filled.filled) c.in-Ok.n c.read_at.new.buffer) so_far.same c.in-Ok.ensures.bytes);
      same = c.in-Ok.ensures.same ∙ so_far.same;
      count = c.in-Ok.ensures.count ∙ so_far.count;
    }
