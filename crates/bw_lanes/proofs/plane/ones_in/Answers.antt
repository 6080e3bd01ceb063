use Rattle.std.proofs.Common.{arith}
use Rattle.bw_lanes.proofs.WordLemmas.{few_ones, ones_counted, ones_fit}
use Rattle.bw_lanes.proofs.plane.ones_in.Goals as goal

pub overflow_add-result : goal.overflow_add-result
overflow_add-result c = ones_fit c.args.words c.fits-words.0 c.fits-words.1

pub overflow_cast-result-2 : goal.overflow_cast-result-2
overflow_cast-result-2 c = record { fits = omega (arith, few_ones c.args.words c.fits-words.0 c.fits-words.1) }

pub returns-clause-ones : goal.returns-clause-ones
returns-clause-ones c = ones_counted c.args.words c.fits-words.1

pub returns-clause-bound : goal.returns-clause-bound
returns-clause-bound c = few_ones c.args.words c.fits-words.0 c.fits-words.1
