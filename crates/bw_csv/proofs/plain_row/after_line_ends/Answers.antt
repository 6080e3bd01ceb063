-- A line's end before a record says nothing.
use Rattle.std.proofs.Common.{◌∙◌, sym}
use Rattle.bw_csv.proofs.PlainRecords.{records-after}
use Rattle.bw_csv.proofs.plain_row.after_line_ends.Goals as goal

pub loop-rest-preserved : goal.loop-rest-preserved
loop-rest-preserved c =
    c.loop-rest.invariant
    ∙ records-after c.loop-rest.rest.now c.skip_bytes-rest.result.now (sym c.is_empty.ensures ∙ c.loop-rest-test.true) (sym c.ends_line.ensures ∙ c.if-ends_line.true) c.skip_bytes-rest.ensures
