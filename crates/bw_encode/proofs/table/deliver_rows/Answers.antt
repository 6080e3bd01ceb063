-- Each turn delivers one row more.
use Rattle.std.proofs.Common.{◌∙◌, sym, subst, refl, map}
use Rattle.bw_encode.specs.Coded.{encoding_of}
use Rattle.bw_encode.specs.Table.{rows_upto}
use Rattle.bw_encode.proofs.TableLemmas.{rows_none, rows_step}
use Rattle.bw_encode.proofs.table.deliver_rows.Goals as goal

pub loop-number-init : goal.loop-number-init
loop-number-init g c = record {
  takes = refl;
  count = c.requires.fresh;
  led = subst (λ rows. g.K.RowConsumer.led c.args.consumer.now rows c.args.consumer.now) (sym (rows_none (map encoding_of c.args.columns.now))) c.requires.starts;
}

pub loop-number-preserved : goal.loop-number-preserved
loop-number-preserved g c = record {
  takes = c.in_ok-take.ensures.takes ∙ c.loop-number.invariant.takes;
  count = c.in_ok-take.ensures.rows ∙ rw c.loop-number.invariant.count refl;
  led = subst (λ rows. g.K.RowConsumer.led c.args.consumer.now rows c.take.new.self)
      (rw c.in_ok-fill_row.ensures (sym (rows_step (map encoding_of c.args.columns.now) c.loop-number.number)))
      (c.in_ok-take.ensures.led c.args.consumer.now (rows_upto (map encoding_of c.args.columns.now) c.loop-number.number) c.loop-number.invariant.led);
}
