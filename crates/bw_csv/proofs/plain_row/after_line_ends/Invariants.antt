use Rattle.std.proofs.Common.{◌≡◌, Some, length}
use Rattle.csv.specs.declared.parser.State.TheVariants as st
use Rattle.bw_csv.specs.Records.{records_in}
use Rattle.bw_csv.proofs.plain_row.after_line_ends.Given as goal

-- the same records are to come
abbrev pub invariant-loop-rest : goal.invariant-loop-rest
invariant-loop-rest l = records_in st.StartRecord (Some l.text) ≡ records_in st.StartRecord (Some l.rest)

abbrev pub decreases-loop-rest : goal.decreases-loop-rest
decreases-loop-rest l = length l.rest
