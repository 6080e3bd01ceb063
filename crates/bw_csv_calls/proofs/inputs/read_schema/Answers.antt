-- What came is the text that was read.
use Rattle.bw_csv_calls.proofs.Directs.{schema_answered}
use Rattle.bw_csv_calls.proofs.inputs.read_schema.Goals as goal

pub returns-in-Whole-clause-answered : goal.returns-in-Whole-clause-answered
returns-in-Whole-clause-answered g c =
    schema_answered _ (g.S.Source.state c.args.source.now) (g.S.Source.state c.read_limited.new.source) c.deref.result.now c.parse.result (rw (c.in-Whole.is, ← c.deref.ensures.value) at c.in_ok-text.ensures.came) c.parse.ensures.spelled c.parse.ensures.fault
