use Rattle.bw_csv.specs.Rows.{rows_of}
use Rattle.bw_csv.proofs.RowLemmas.{if_ok, text_good}
use Rattle.bw_csv.proofs.rows.rows_are_admitted.Goals as goal

pub returns : goal.returns
returns c = record {
  admitted = λ columns text. if_ok (rows_of columns text) _ (λ rows e. (text_good columns _ rows e).1);
  within_limit = λ columns text. if_ok (rows_of columns text) _ (λ rows e. (text_good columns _ rows e).0);
}
