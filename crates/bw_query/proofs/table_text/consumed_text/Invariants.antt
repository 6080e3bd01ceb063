use Rattle.std.proofs.Common.{◌≡◌, ◌≤◌, List}
use Rattle.bw_model.specs.Limits.{most_rows}
use Rattle.bw_model.specs.Row.{Value}
use Rattle.bw_query.proofs.table_text.consumed_text.Given as goal

-- the groups so far came, and were consumed
abbrev pub invariant-loop-consumer : goal.invariant-loop-consumer
invariant-loop-consumer g l = record {
  groups : List (List (List Value));
  gave : g.T.Segments.gave l.initial.segments l.initial.input groups l.segments l.input;
  over : g.C.SegmentConsumer.over l.initial.consumer (g.T.Segments.table l.initial.segments).columns.items groups l.consumer;
  fits : g.C.SegmentConsumer.fits l.consumer (g.T.Segments.table l.initial.segments).columns.items;
  same : g.T.Segments.table l.segments ≡ g.T.Segments.table l.initial.segments;
  rows : g.C.SegmentConsumer.rows l.consumer ≡ g.T.Segments.given l.segments;
  within_limit : g.T.Segments.given l.segments ≤ most_rows;
}

abbrev pub decreases-loop-consumer : goal.decreases-loop-consumer
decreases-loop-consumer g l = g.T.Segments.left l.segments
