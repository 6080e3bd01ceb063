use Rattle.std.proofs.Common.{length, ◌-◌, ◌≡◌, ◌≤◌, vec_len}
use Rattle.std.specs.Io.KnownBytes.{Consumes}
use Rattle.bw_io.proofs.input.read_limited.Given as goal

-- what came so far is in `bytes`, and no read failed
abbrev pub invariant-loop-piece : goal.invariant-loop-piece
invariant-loop-piece g l = record {
  within : vec_len l.bytes ≤ l.most;
  came : Consumes (g.S.Source.state l.initial.source).known (g.S.Source.state l.source).known l.bytes.items;
  count : (g.S.Source.state l.source).failures ≡ (g.S.Source.state l.initial.source).failures;
  room : length l.piece ≡ length l.initial.piece;
}

abbrev pub decreases-loop-piece : goal.decreases-loop-piece
decreases-loop-piece g l = l.most - vec_len l.bytes
