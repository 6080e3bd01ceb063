-- No byte order mark stands at a line's end.
use Rattle.std.proofs.Common.{refl}
use Rattle.bw_csv.proofs.RestLemmas.{reader-readable, turned}
use Rattle.bw_csv.proofs.rest.Rest.begin_reader.Goals as goal

pub returns-clause-readable : goal.returns-clause-readable
returns-clause-readable c = reader-readable _ refl c.new.ensures.open

pub returns-clause-to_come : goal.returns-clause-to_come
returns-clause-to_come c = turned c.args.self.now _ c.requires.readable c.requires.text refl c.new.ensures.coming
