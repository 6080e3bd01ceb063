use Rattle.bw_aggregate.proofs.SelectedLemmas.{first_within, both_within}
use Rattle.bw_aggregate.proofs.laws.first_rows_are_within.Goals as goal

pub returns : goal.returns
returns c = record {
  first = λ rows more row le. first_within rows more row le;
  both = λ rows lanes others within row le. both_within lanes others row (within row le);
}
