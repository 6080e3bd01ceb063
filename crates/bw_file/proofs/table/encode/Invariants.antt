use Rattle.std.proofs.Common.{◌≡◌, map, take}
use Rattle.bw_model.specs.Row.{values_of}
use Rattle.bw_file.specs.Encoder.{Holds, encoder_schema, encoder_layout, rows_in}
use Rattle.bw_file.proofs.table.encode.Given as goal

-- the encoder was given the rows so far
abbrev pub invariant-loop-row : goal.invariant-loop-row
invariant-loop-row l = record {
  holds : Holds l.encoder (map values_of (take l.row-index l.rows));
  rows : rows_in l.encoder ≡ l.row-index;
  layout : encoder_layout l.encoder ≡ l.fn.layout;
  name : (encoder_schema l.encoder).name ≡ l.schema.name;
  columns : (encoder_schema l.encoder).columns.items ≡ l.schema.columns.items;
}
