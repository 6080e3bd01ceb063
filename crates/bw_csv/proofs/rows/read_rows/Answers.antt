-- What is handed of the rows after the heading is what is handed of the text's rows.
use Rattle.std.proofs.Common.{◌∙◌, sym}
use Rattle.bw_csv.proofs.RowLemmas.{allowed_is, rows_after-rows}
use Rattle.bw_csv.proofs.rows.read_rows.Goals as goal

pub returns-clause-handed : goal.returns-clause-handed
returns-clause-handed g c =
    let columns = c.args.schema.now.columns.items in
    let heading = c.in_ok-read_heading.ensures.heading_read in
    let after = rows_after-rows columns _ _ heading.0 (sym c.new-records.ensures.coming ∙ heading.1) (rw c.deref.ensures.value at heading.2) in
    rw (after, ← c.new-rest.ensures.to_come) (rw (c.deref-3.ensures.value, c.in_ok-rules.ensures, c.deref-2.ensures.value) at c.hand_rows.ensures.handed)

pub hand_rows-requires-clause-takes : goal.hand_rows-requires-clause-takes
hand_rows-requires-clause-takes g c = λ row allowed.
    c.requires.takes row (sym (allowed_is c.args.schema.now.columns.items row) ∙ rw (c.deref-3.ensures.value, c.in_ok-rules.ensures, c.deref-2.ensures.value) at allowed)
