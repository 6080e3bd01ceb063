use Rattle.std.proofs.Common.{false, get_or}
use Rattle.bw_lanes.specs.Lanes.{lanes_of_words}
use Rattle.bw_rowwise.proofs.TruthLemmas.{from_yes, from_maybe}
use Rattle.bw_rowwise.proofs.truths.Truths.of.Goals as goal

pub returns : goal.returns
returns c = record {
  yes = λ lane within. from_yes (get_or (lanes_of_words c.args.those) lane false);
  maybe = λ lane within. from_maybe (get_or (lanes_of_words c.args.those) lane false);
}
