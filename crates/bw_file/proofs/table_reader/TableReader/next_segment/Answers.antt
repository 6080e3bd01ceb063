-- What was settled is repeated.
use Rattle.std.proofs.Common.{ap, refl}
use Rattle.bw_file.specs.TableReader.{settled_by}
use Rattle.bw_file.proofs.NextLemmas.{ended_again, refused_again}
use Rattle.bw_file.proofs.table_reader.TableReader.next_segment.Goals as goal

pub returns-in-Ended : goal.returns-in-Ended
returns-in-Ended g c = ended_again (ap settled_by c.in-Ended.is) refl refl

pub returns-in-Failed : goal.returns-in-Failed
returns-in-Failed g c = refused_again c.in-Failed.fault (ap settled_by c.in-Failed.is) (c.args.self.now.not_reader c.in-Failed.fault c.in-Failed.is) refl refl
