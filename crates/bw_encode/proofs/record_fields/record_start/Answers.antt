use Rattle.bw_encode.proofs.CutLemmas.{before_record}
use Rattle.bw_encode.proofs.record_fields.record_start.Goals as goal

pub returns-in-Before : goal.returns-in-Before
returns-in-Before c = rw c.in-Before.is (before_record c.args.text.now)

pub returns-in-Returned : goal.returns-in-Returned
returns-in-Returned c = rw c.in-Returned.is c.after_line_feed.ensures
