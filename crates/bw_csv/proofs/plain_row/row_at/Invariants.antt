use Rattle.bw_csv.proofs.PlainRows.{ReadSoFar}
use Rattle.bw_csv.proofs.plain_row.row_at.Given as goal

abbrev pub invariant-loop-i : goal.invariant-loop-i
invariant-loop-i l = ReadSoFar l.number l.rules l.text l.rest l.i l.row.values.items
