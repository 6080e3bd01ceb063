use Rattle.std.proofs.Common.{◌≡◌, ◌≤◌, drop, length}
use Rattle.std.specs.List.{list_all}
use Rattle.bw_prover.specs.Growth.{HasGrown}
use Rattle.bw_prover.specs.Rules.{has_rules}
use Rattle.bw_prover.proofs.prover.Prover.+steps.Given as goal

-- the parts so far have rules, so all have if those to come have
abbrev pub invariant-put_parts-loop-joined : goal.invariant-put_parts-loop-joined
invariant-put_parts-loop-joined l =
    let columns = l.fn.self.facts.schema.now.columns.items in
    record {
      grown : HasGrown l.fn.self.facts l.self.facts;
      some : 1 ≤ length l.parts;
      rules : list_all (has_rules columns) l.parts ≡ list_all (has_rules columns) (drop l.joined l.others);
    }
