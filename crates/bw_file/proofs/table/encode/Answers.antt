use Rattle.std.proofs.Common.{◌≡◌, ◌+◌, ◌++◌, ◌∷◌, [], take, map, sym, ap, inl, ◌∙◌, arith}
use Rattle.std.proofs.lemmas.List.{map_more}
use Rattle.std.proofs.lemmas.Result.{IfOk-weaker}
use Rattle.bw_model.specs.declared.row.Row.{Row}
use Rattle.bw_model.specs.declared.schema.Schema.{Schema}
use Rattle.bw_model.specs.Row.{values_of}
use Rattle.bw_file.proofs.TableLemmas.{bytes_of_all}
use Rattle.bw_segment.proofs.CodeLemmas.{admitted_at}
use Rattle.bw_file.proofs.table.encode.Goals as goal

pub add-requires-clause-admitted : goal.add-requires-clause-admitted
add-requires-clause-admitted c =
    rw c.loop-row.invariant.columns (admitted_at c.args.schema.now.columns.items c.args.rows.now c.loop-row.row-index c.row-item.result c.requires.admitted c.loop-row-test.true c.row-item.is)

pub loop-row-preserved : goal.loop-row-preserved
loop-row-preserved c =
    let more : map values_of (take (c.loop-row.row-index + 1) c.args.rows.now) ≡ map values_of (take c.loop-row.row-index c.args.rows.now) ++ values_of c.row-item.result ∷ [] =
    map_more values_of c.args.rows.now c.loop-row.row-index c.row-item.result c.loop-row-test.true
    ∙ ap (λ (row : Row). map values_of (take c.loop-row.row-index c.args.rows.now) ++ values_of row ∷ []) (sym c.row-item.is) in
    record {
      holds = rw more (c.in_ok-add.ensures.holds (map values_of (take c.loop-row.row-index c.args.rows.now)) c.loop-row.invariant.holds);
      rows = omega (arith, c.in_ok-add.ensures.rows, c.loop-row.invariant.rows);
      layout = c.in_ok-add.ensures.same.0 ∙ c.loop-row.invariant.layout;
      name = ap (λ (schema : Schema). schema.name) c.in_ok-add.ensures.same.1 ∙ c.loop-row.invariant.name;
      columns = ap (λ (schema : Schema). schema.columns.items) c.in_ok-add.ensures.same.1 ∙ c.loop-row.invariant.columns;
    }

pub returns-clause-bytes : goal.returns-clause-bytes
returns-clause-bytes c =
    IfOk-weaker c.finish.result _ _ (λ bytes text. bytes_of_all c.loop-row.encoder c.args.layout c.args.schema.now c.args.rows.now c.loop-row.row-index bytes.items c.loop-row-test.false
    c.loop-row.invariant.layout c.loop-row.invariant.name c.loop-row.invariant.columns text c.loop-row.invariant.holds) c.finish.ensures.bytes

pub returns-clause-file : goal.returns-clause-file
returns-clause-file c =
    IfOk-weaker c.finish.result _ _ (λ bytes text. record {
      under = c.has_names_and_bounds.ensures.schema;
      admitted = c.requires;
      text = inl text;
    }) (returns-clause-bytes c)
