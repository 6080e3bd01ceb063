use Rattle.std.proofs.Common.{◌≡◌, map}
use Rattle.bw_encode.specs.Coded.{encoding_of}
use Rattle.bw_encode.specs.Table.{rows_upto}
use Rattle.bw_encode.proofs.table.deliver_rows.Given as goal

-- the consumer was led through the rows before this one
abbrev pub invariant-loop-number : goal.invariant-loop-number
invariant-loop-number g l = record {
  takes : g.K.RowConsumer.takes l.consumer ≡ g.K.RowConsumer.takes l.initial.consumer;
  count : g.K.RowConsumer.rows l.consumer ≡ l.number;
  led : g.K.RowConsumer.led l.initial.consumer (rows_upto (map encoding_of l.columns) l.number) l.consumer;
}
