-- The values in a lane are the row's, and the condition has its truth.
use Rattle.std.proofs.Common.{◌∙◌, List, ap, arith}
use Rattle.bw_model.specs.Cond.{is_match}
use Rattle.bw_model.specs.Row.{Value}
use Rattle.bw_model.specs.Truth.{is_truth}
use Rattle.bw_model.specs.declared.cond.Truth.{Truth}
use Rattle.bw_model.specs.declared.cond.Truth.TheVariants.{Yes}
use Rattle.bw_rowwise.specs.Columns.{row_at}
use Rattle.bw_rowwise.specs.Prepared.{prepared_truth}
use Rattle.bw_rowwise.proofs.ColumnLemmas.{row_had}
use Rattle.bw_rowwise.proofs.filter.Filter.matching_rows.Goals as goal

pub returns-clause-rows : goal.returns-clause-rows
returns-clause-rows c = λ asked rows prepared have long.
    let filter = c.args.self.now in
    c.true_rows.ensures.rows _ rows (is_match asked) c.truths.ensures long (λ lane below.
    ap (λ (t : Truth). is_truth t Yes) (ap (λ (l : List Value). prepared_truth l filter.cond) (row_had rows filter.columns lane (omega (arith, below, c.requires)) have) ∙ prepared (row_at rows lane)))
