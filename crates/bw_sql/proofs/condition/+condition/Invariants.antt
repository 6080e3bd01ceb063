-- A condition is read level by level: brackets and NOT take one each.
use Rattle.std.proofs.Common.{ℕ, ◌≤◌, ◌+◌, ◌*◌, length, map}
use Rattle.bw_model.specs.CondTree.{tree_of}
use Rattle.bw_model.specs.declared.junction.Junction.{Junction}
use Rattle.bw_model.specs.declared.junction.Junction.TheVariants.{All, Any}
use Rattle.bw_sql.specs.Reading.{after_keyword, more_parts_in, nested_readers, part_in, with_front}
use Rattle.bw_sql.specs.Token.{lexemes}
use Rattle.bw_sql.specs.Words.{word_of}
use Rattle.bw_sql.proofs.Repeats.{Repeats}
use Rattle.bw_sql.proofs.condition.+condition.Given as goal

-- a condition is joined of terms, and a term of factors
abbrev rank : Junction → ℕ
rank All = 0
rank Any = 3

abbrev pub decreases-primary : goal.decreases-primary
decreases-primary l = 16 * l.levels + 0

abbrev pub decreases-test : goal.decreases-test
decreases-test l = 16 * l.levels + 1

abbrev pub decreases-factor : goal.decreases-factor
decreases-factor l = 16 * l.levels + 2

abbrev pub decreases-part : goal.decreases-part
decreases-part l = 16 * l.levels + 3 + rank l.junction

abbrev pub decreases-more_parts : goal.decreases-more_parts
decreases-more_parts l = 16 * l.levels + 4 + rank l.junction

abbrev pub decreases-read_connected : goal.decreases-read_connected
decreases-read_connected l = 16 * l.levels + 5 + rank l.junction

abbrev pub decreases-condition : goal.decreases-condition
decreases-condition l = 16 * l.levels + 9

abbrev pub invariant-more_parts-loop-next : goal.invariant-more_parts-loop-next
invariant-more_parts-loop-next l = record {
  shorter : length l.left.tokens.now ≤ length l.tokens;
  read : Repeats (after_keyword (word_of l.junction)) (part_in l.schema (nested_readers l.schema l.levels) l.junction)
      (map tree_of l.parts.items) (length l.left.tokens.now) (lexemes l.left.tokens.now)
      (with_front (map tree_of l.initial.parts.items) (more_parts_in l.schema (nested_readers l.schema l.levels) l.junction (lexemes l.tokens)));
}

abbrev pub decreases-more_parts-loop-next : goal.decreases-more_parts-loop-next
decreases-more_parts-loop-next l = length l.left.tokens.now
