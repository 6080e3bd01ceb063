use Rattle.std.proofs.Common.{◌∙◌, sym, ap, arith}
use Rattle.std.specs.List.{list_all}
use Rattle.std.proofs.lemmas.List.{take_all, length-map}
use Rattle.std.proofs.lemmas.List.Folds.{list_all-map}
use Rattle.bw_model.specs.declared.row.Row.{Row}
use Rattle.bw_model.specs.Column.{admits_values}
use Rattle.bw_model.specs.Groups.{group_size}
use Rattle.bw_model.specs.Row.{values_of}
use Rattle.bw_conformance_prover.proofs.groups.assert_group.Goals as goal

pub returns : goal.returns
unfolding group_size
returns g c =
    let columns = c.args.schema.now.columns.items in
    let rows = c.args.rows.now in
    let count = length-map rows values_of in
    let all = take_all c.loop-row.row-index rows c.loop-row-test.false in
    record {
      nonempty = omega arith;
      within_limit = omega arith;
      admitted = list_all-map (admits_values columns) values_of rows
          ∙ sym (ap (list_all (λ (row : Row). admits_values columns (values_of row))) all) ∙ c.loop-row.invariant;
    }
