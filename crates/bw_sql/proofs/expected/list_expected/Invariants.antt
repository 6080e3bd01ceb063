use Rattle.std.proofs.Common.{◌≡◌, take, filter}
use Rattle.bw_sql.specs.Expected.{is_expected}
use Rattle.bw_sql.specs.Token.{lexemes}
use Rattle.bw_sql.proofs.expected.list_expected.Given as goal

-- what may follow, of the first ones
abbrev pub invariant-loop-expected : goal.invariant-loop-expected
invariant-loop-expected l = record {
  listed : l.found.items ≡ filter (is_expected l.schema (lexemes l.initial.tokens.items)) (take l.expected-index l.kinds);
  same : l.tokens.items ≡ l.initial.tokens.items;
}
