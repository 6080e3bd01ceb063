-- Of the comparisons and marks, those of two bytes come first.
use Rattle.bw_sql.proofs.Spellings.{short_longest, no_long, no_long_at_end}
use Rattle.bw_sql.proofs.lexer.delimiter.Goals as goal
use Rattle.bw_sql.proofs.lexer.delimiter.Goals.{in-Some+in_default-long_comparison, in_default}

pub returns : goal.returns
returns c = short_longest _ _ _ _ c.in_ok-first.ensures.cases.0
    (elim c.match-split_first.branch [
      | in-Some+in_default-long_comparison w ↦ no_long c.in_ok-first.first.now _ _ _ w.in-Some.ensures.cases.0
          w.in_default-long_comparison.ensures.none
      | in_default w ↦ no_long_at_end c.in_ok-first.first.now _ w.in_default.ensures.cases
    ])
    c.in_ok-token.ensures.found
