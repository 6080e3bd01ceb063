use Rattle.bw_memory.proofs.WholeColumnar.{rows_are, shape_same}
use Rattle.bw_memory.proofs.laws.columns_are_those_of_the_file.Goals as goal

pub returns : goal.returns
returns c = record {
  schema = λ bytes layout schema rows columnar read file opened has. shape_same bytes layout schema rows file columnar read opened has;
  rows = λ bytes layout schema rows columnar read file opened has. rows_are bytes layout schema rows file columnar read opened has;
}
