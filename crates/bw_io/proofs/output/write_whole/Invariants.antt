use Rattle.std.proofs.Common.{length, take, ◌-◌, ◌≡◌, ◌≤◌}
use Rattle.std.specs.Io.KnownBytes.{Appends}
use Rattle.bw_io.proofs.output.write_whole.Given as goal

-- what stands before `written` was taken, and no write failed
abbrev pub invariant-loop-written : goal.invariant-loop-written
invariant-loop-written g l = record {
  within : l.written ≤ length l.text;
  taken : Appends (g.K.Sink.state l.initial.sink).taken (g.K.Sink.state l.sink).taken (take l.written l.text);
  count : (g.K.Sink.state l.sink).failures ≡ (g.K.Sink.state l.initial.sink).failures;
}

abbrev pub decreases-loop-written : goal.decreases-loop-written
decreases-loop-written g l = length l.text - l.written
