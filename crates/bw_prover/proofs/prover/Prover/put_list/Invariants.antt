use Rattle.std.proofs.Common.{◌≡◌, ◌≤◌, drop, length}
use Rattle.std.specs.List.{list_all}
use Rattle.bw_model.specs.declared.cond.Op.TheVariants.{Eq}
use Rattle.bw_prover.specs.Growth.{HasGrown}
use Rattle.bw_prover.specs.Rules.{is_comparable}
use Rattle.bw_prover.proofs.prover.Prover.put_list.Given as goal

-- the items so far are comparable, so all are if those to come are
abbrev pub invariant-loop-item : goal.invariant-loop-item
invariant-loop-item l =
    let columns = l.fn.self.facts.schema.now.columns.items in
    record {
      grown : HasGrown l.fn.self.facts l.self.facts;
      some : 1 ≤ length l.items;
      rules : list_all (is_comparable columns Eq l.x) l.items ≡ list_all (is_comparable columns Eq l.x) (drop l.item-index l.others);
    }
