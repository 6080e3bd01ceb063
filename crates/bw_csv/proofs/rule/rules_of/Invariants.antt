use Rattle.std.proofs.Common.{◌≡◌, map, take}
use Rattle.bw_csv.specs.Rule.{rule_of}
use Rattle.bw_csv.proofs.rule.rules_of.Given as goal

-- the rules of the columns so far
abbrev pub invariant-loop-column : goal.invariant-loop-column
invariant-loop-column l = l.rules.items ≡ map rule_of (take l.column-index l.columns)
