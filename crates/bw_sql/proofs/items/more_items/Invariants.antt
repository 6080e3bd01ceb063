-- What is left to read goes after the items so far.
use Rattle.std.proofs.Common.{length}
use Rattle.bw_sql.specs.declared.token.Mark.TheVariants.{Comma}
use Rattle.bw_sql.specs.Reading.{after_mark, next_item_at, more_items, with_front}
use Rattle.bw_sql.specs.Token.{lexemes}
use Rattle.bw_sql.proofs.Repeats.{Repeats}
use Rattle.bw_sql.proofs.items.more_items.Given as goal

abbrev pub invariant-loop-next : goal.invariant-loop-next
invariant-loop-next l = record {
  read : Repeats (after_mark Comma) (next_item_at l.schema l.are_columns) l.items.items (length l.left.tokens.now) (lexemes l.left.tokens.now)
      (with_front l.initial.items.items (more_items l.schema l.are_columns (lexemes l.tokens)));
}

abbrev pub decreases-loop-next : goal.decreases-loop-next
decreases-loop-next l = length l.left.tokens.now
