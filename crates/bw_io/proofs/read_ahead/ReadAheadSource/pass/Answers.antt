use Rattle.bw_io.proofs.KeptBytes.{after_first, front_consumed}
use Rattle.bw_io.proofs.read_ahead.ReadAheadSource.pass.Goals as goal

pub returns-clause-bytes : goal.returns-clause-bytes
returns-clause-bytes g c =
    let source = c.args.self.now in
    front_consumed (g.R.Read.remaining source.inner) c.args.count _ _ (after_first source.memory.value.items source.start source.end c.args.count c.requires)

pub returns-clause-kept : goal.returns-clause-kept
returns-clause-kept g c = let source = c.args.self.now in after_first source.memory.value.items source.start source.end c.args.count c.requires
