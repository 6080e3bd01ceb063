-- What has been cut so far goes before what is cut of the rest, and the rest gets shorter.
use Rattle.std.proofs.Common.{ℕ, ◌≤◌, ◌-◌, ◌++◌, List, Option, length}
use Rattle.bw_sql.specs.Cut.{IsCut, Spot, spots}
use Rattle.bw_sql.proofs.lexer.lex.Given as goal

abbrev pub invariant-loop-rest : goal.invariant-loop-rest
invariant-loop-rest l = record {
  shorter : length l.rest ≤ length l.text;
  so_far : (tokens : List Spot) (stop : Option ℕ) → IsCut (length l.text - length l.rest) l.rest tokens stop →
      IsCut 0 l.text (spots l.tokens.items ++ tokens) stop;
}

abbrev pub decreases-loop-rest : goal.decreases-loop-rest
decreases-loop-rest l = length l.rest
