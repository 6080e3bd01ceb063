use Rattle.bw_memory.proofs.CutColumnar.{cut_not_opened, cut_refused, whole_not_refused}
use Rattle.bw_memory.proofs.laws.a_cut_file_by_columns_is_refused.Goals as goal

pub returns : goal.returns
returns c = record {
  refused = λ bytes layout schema rows n fault file less refused. cut_refused bytes layout schema rows file n fault less refused;
  alone = λ bytes layout schema rows n columnar file less opened. cut_not_opened bytes layout schema rows file n columnar less opened;
  whole = λ bytes layout schema rows fault file refused. whole_not_refused bytes layout schema rows file fault refused;
}
