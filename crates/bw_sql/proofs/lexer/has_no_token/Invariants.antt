-- A text has no token if what is left of it has none, and the rest gets shorter.
use Rattle.std.proofs.Common.{◌≤◌, ◌-◌, None, [], length}
use Rattle.bw_sql.specs.Cut.{HasNoToken, IsCut}
use Rattle.bw_sql.proofs.lexer.has_no_token.Given as goal

abbrev pub invariant-loop-rest : goal.invariant-loop-rest
invariant-loop-rest l = record {
  shorter : length l.rest ≤ length l.text;
  of_rest : IsCut (length l.text - length l.rest) l.rest [] None → HasNoToken l.text;
  of_text : HasNoToken l.text → IsCut (length l.text - length l.rest) l.rest [] None;
}

abbrev pub decreases-loop-rest : goal.decreases-loop-rest
decreases-loop-rest l = length l.rest
