use Rattle.std.proofs.Common.{◌+◌, ◌-◌}
use Rattle.bw_model.specs.Limits.{most_rows}
use Rattle.bw_encode.specs.Dialect.{loose_in, records_in}
use Rattle.bw_encode.specs.Place.{state_of}
use Rattle.bw_encode.specs.Rest.{text_past}
use Rattle.bw_encode.specs.Selection.{up_to}
use Rattle.bw_encode.proofs.RowLemmas.{RowsSoFar}
use Rattle.bw_encode.proofs.columns.read_rows.Given as goal

-- the columns have the rows of the records so far
abbrev pub invariant-rows : goal.invariant-rows
invariant-rows l = RowsSoFar l.dialect l.selection l.width (loose_in l.dialect 1 (state_of l.heading.place) l.heading.text.now)
    (up_to l.selection.rows (records_in l.dialect (state_of l.heading.place) l.heading.text.now))
    (text_past l.dialect l.selection.rows (state_of l.heading.place) l.heading.text.now) (state_of l.place) l.text l.number l.columns.items

-- as many rows as a table can still take
abbrev pub decreases-rows : goal.decreases-rows
decreases-rows l = most_rows + 1 - l.number
