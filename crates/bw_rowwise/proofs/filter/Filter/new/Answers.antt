-- No column is added after those of the condition.
use Rattle.std.proofs.Common.{◌∙◌, [], List, append-nil, ap, sym}
use Rattle.bw_model.specs.Row.{Value}
use Rattle.bw_rowwise.specs.Prepared.{prepared_truth}
use Rattle.bw_rowwise.proofs.filter.Filter.new.Goals as goal

pub returns-clause-prepared : goal.returns-clause-prepared
returns-clause-prepared c = λ row.
    ap (λ (l : List Value). prepared_truth l c.in_ok-cond.cond) (sym (append-nil _)) ∙ c.in_ok-cond.ensures.prepared.value row []
