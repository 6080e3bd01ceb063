-- The totals over no rows.
use Rattle.bw_answer.proofs.AggregateLemmas.{is_of-new}
use Rattle.bw_answer.proofs.output.Output.new.Goals as goal

pub returns-in_ok-totals_of-clause-counts : goal.returns-in_ok-totals_of-clause-counts
returns-in_ok-totals_of-clause-counts c = λ width within. rw c.in_ok-totals_of.ensures.totals (is_of-new width c.args.items.now within)
