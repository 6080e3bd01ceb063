-- Each group is consumed after those before it.
use Rattle.std.proofs.Common.{[], refl, sym, subst}
use Rattle.bw_model.specs.declared.schema.Schema.{Schema}
use Rattle.bw_query.proofs.table_text.consumed_text.Goals as goal

pub loop-consumer-init : goal.loop-consumer-init
loop-consumer-init g c = record {
  groups = [];
  gave = c.requires.fresh;
  over = c.requires.over;
  fits = c.requires.fits;
  same = refl;
  rows = c.requires.rows;
  within_limit = c.requires.capacity;
}

pub take_next-requires-clause-began : goal.take_next-requires-clause-began
take_next-requires-clause-began g c =
    let so_far = c.loop-consumer.invariant in
    (c.args.segments.now, c.args.input.now, so_far.groups, so_far.gave)

pub take_next-requires-clause-fits : goal.take_next-requires-clause-fits
take_next-requires-clause-fits g c =
    let so_far = c.loop-consumer.invariant in
    subst (λ (schema : Schema). g.C.SegmentConsumer.fits c.loop-consumer.consumer schema.columns.items) (sym so_far.same) so_far.fits
