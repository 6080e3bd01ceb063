-- The rows that the fallback selects are consumed after those before them.
use Rattle.std.proofs.Common.{[], arith, refl}
use Rattle.bw_query.proofs.TableLemmas.{goes_nowhere}
use Rattle.bw_query.proofs.answer_consumer.take_by_fallback.Goals as goal

pub returns-clause-taken : goal.returns-clause-taken
returns-clause-taken g c =
    let took = c.in_ok-take_segment.ensures in
    record {
      covers = took.covers c.args.answer.now [] (goes_nowhere c.args.answer.now);
      width = took.width;
      rows = took.rows;
      run = record { loads = refl; skips = refl; bounded = omega arith };
    }
