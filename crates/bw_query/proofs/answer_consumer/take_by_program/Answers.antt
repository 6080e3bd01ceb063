-- The rows that a program selects are consumed after those before them.
use Rattle.std.proofs.Common.{[]}
use Rattle.bw_query.proofs.TableLemmas.{goes_nowhere}
use Rattle.bw_query.proofs.answer_consumer.take_by_program.Goals as goal

pub returns-clause-taken : goal.returns-clause-taken
returns-clause-taken g c =
    let run = c.run_in.ensures in
    let took = c.in_ok-take_selected.ensures in
    record {
      covers = took.covers c.args.answer.now [] (goes_nowhere c.args.answer.now);
      width = took.width;
      rows = took.rows;
      run = record { loads = run.loads; skips = run.skips; bounded = run.most };
    }
