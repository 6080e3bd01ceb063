use Rattle.std.proofs.Common.{◌≡◌, map, take, drop}
use Rattle.bw_model.specs.Column.{names_of}
use Rattle.bw_model.specs.SchemaText.{column_shape}
use Rattle.bw_csv.proofs.FieldLemmas.{after}
use Rattle.bw_csv_calls.specs.InferredSchema.{check_bounds}
use Rattle.bw_csv_calls.specs.ColumnStats.{columns_from_stats}
use Rattle.bw_csv_calls.proofs.columns.columns_from_stats.Given as goal

-- the columns are those so far, and then those of the names to come
abbrev pub invariant-loop-i : goal.invariant-loop-i
invariant-loop-i l = record {
  rest : check_bounds (columns_from_stats l.names l.seen) ≡ after (map column_shape l.columns.items) (check_bounds (columns_from_stats (drop l.i l.names) (drop l.i l.seen)));
  names : names_of l.columns.items ≡ take l.i l.names;
}
