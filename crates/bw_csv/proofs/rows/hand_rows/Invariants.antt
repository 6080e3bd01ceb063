use Rattle.std.proofs.Common.{◌≡◌, ◌+◌, ◌-◌, ◌^◌, ◌≤◌}
use Rattle.bw_csv.specs.Rest.{IsReadable, to_come}
use Rattle.bw_csv.proofs.RowLemmas.{LedSoFar}
use Rattle.bw_csv.proofs.rows.hand_rows.Given as goal

-- the consumer was led through the rows so far, and the rows are those and then the rows of the
-- records to come
abbrev pub invariant-rows : goal.invariant-rows
invariant-rows g l = record {
  readable : IsReadable l.rest;
  takes : g.K.RowConsumer.takes l.consumer ≡ g.K.RowConsumer.takes l.initial.consumer;
  count : g.K.RowConsumer.rows l.consumer + 1 ≡ l.number;
  within : l.number ≤ 2 ^ 24 + 1;
  so_far : LedSoFar g.K.RowConsumer.led l.initial.consumer l.consumer l.rules (to_come l.initial.rest) l.number (to_come l.rest);
}

abbrev pub decreases-rows : goal.decreases-rows
decreases-rows g l = 2 ^ 24 + 2 - l.number
