use Rattle.std.proofs.Common.{length, take, ◌-◌, ◌≡◌, ◌≤◌}
use Rattle.bw_file.specs.Reading.{state_at, HasConsumed}
use Rattle.bw_file.proofs.take.take.Given as goal

-- what came so far is in the front of the buffer, and no read failed
abbrev pub invariant-loop-filled : goal.invariant-loop-filled
invariant-loop-filled g l = record {
  within : l.filled ≤ length l.initial.buffer;
  came : HasConsumed (state_at (g.S.Source.state l.initial.source) l.initial.offset)
      (state_at (g.S.Source.state l.source) l.offset) (take l.filled l.buffer);
  count : (g.S.Source.state l.source).failures ≡ (g.S.Source.state l.initial.source).failures;
}

abbrev pub decreases-loop-filled : goal.decreases-loop-filled
decreases-loop-filled g l = length l.initial.buffer - l.filled
