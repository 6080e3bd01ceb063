-- The rows that are selected are among those that were gathered.
use Rattle.std.proofs.Common.{◌∙◌, ◌++◌, ℕ, List, ap}
use Rattle.std.proofs.lemmas.Result.{on_ok_weaker}
use Rattle.bw_lanes.specs.Lanes.{lanes_of_words}
use Rattle.bw_answer.specs.Answer.{csv_text}
use Rattle.bw_answer.proofs.ColumnLemmas.{all_selected, records_same}
use Rattle.bw_answer.proofs.listing.Listing.push_gathered.Goals as goal

pub returns-clause-records : goal.returns-clause-records
returns-clause-records c =
    let self = c.args.self.now in
    let bits = lanes_of_words c.args.selection.now in
    on_ok_weaker c.push.result (λ added listed rows at few have within. added ∙ ap (λ (records : List (List (List ℕ))). c.args.text.now.items ++ csv_text records)
    (records_same listed self.fields.items self.columns bits rows at (all_selected rows bits self.columns few have) within)) c.push.ensures.records
