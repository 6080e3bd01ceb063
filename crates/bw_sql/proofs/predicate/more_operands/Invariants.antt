-- What is left to read goes after the operands so far.
use Rattle.std.proofs.Common.{◌≤◌, length}
use Rattle.bw_sql.specs.declared.token.Mark.TheVariants.{Comma}
use Rattle.bw_sql.specs.Reading.{after_mark, operand_at, more_operands, with_front}
use Rattle.bw_sql.specs.Token.{lexemes}
use Rattle.bw_sql.proofs.Repeats.{Repeats}
use Rattle.bw_sql.proofs.predicate.more_operands.Given as goal

abbrev pub invariant-loop-next : goal.invariant-loop-next
invariant-loop-next l = record {
  shorter : length l.left.tokens.now ≤ length l.tokens;
  read : Repeats (after_mark Comma) (operand_at l.schema) l.items.items (length l.left.tokens.now) (lexemes l.left.tokens.now)
      (with_front l.initial.items.items (more_operands l.schema (lexemes l.tokens)));
}

abbrev pub decreases-loop-next : goal.decreases-loop-next
decreases-loop-next l = length l.left.tokens.now
