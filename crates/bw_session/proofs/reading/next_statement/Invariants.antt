use Rattle.std.proofs.Common.{◌≡◌}
use Rattle.bw_session.specs.Reading.{Reads}
use Rattle.bw_session.proofs.reading.next_statement.Given as goal

-- the bytes so far came, and no statement ends in them
abbrev pub invariant-loop : goal.invariant-loop
invariant-loop g l = record {
  reads : Reads (g.S.Source.state l.initial.source).known (g.S.Source.state l.source).known l.statement.items l.standing;
  count : (g.S.Source.state l.source).failures ≡ (g.S.Source.state l.initial.source).failures;
}
