use Rattle.std.proofs.Common.{arith}
use Rattle.bw_segment.proofs.ColumnLemmas.{empty_kept}
use Rattle.bw_segment.proofs.columns.clear_rows.Goals as goal

pub returns : goal.returns
returns c = λ columns all. empty_kept columns c.loop-column.kept (omega (arith, all)) (λ col lt. c.loop-column.invariant col (omega (arith, all)))
