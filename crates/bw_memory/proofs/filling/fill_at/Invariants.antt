use Rattle.std.proofs.Common.{length, ◌-◌, ◌≡◌, ◌≤◌}
use Rattle.std.specs.Prelude.{IfSome}
use Rattle.bw_io.specs.RandomAccess.{AreAt}
use Rattle.bw_memory.proofs.filling.fill_at.Given as goal

-- what was read so far is in the front of the buffer, and no read failed
abbrev pub invariant-loop-filled : goal.invariant-loop-filled
invariant-loop-filled g l = record {
  within : l.filled ≤ length l.initial.buffer;
  read : IfSome (g.D.RandomAccess.state l.initial.device).known (AreAt l.at l.filled l.buffer);
  same : (g.D.RandomAccess.state l.device).known ≡ (g.D.RandomAccess.state l.initial.device).known;
  count : (g.D.RandomAccess.state l.device).failures ≡ (g.D.RandomAccess.state l.initial.device).failures;
}

abbrev pub decreases-loop-filled : goal.decreases-loop-filled
decreases-loop-filled g l = length l.initial.buffer - l.filled
