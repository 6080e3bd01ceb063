use Rattle.std.proofs.Common.{arith}
use Rattle.bw_segment.proofs.ColumnLemmas.{empty_kept}
use Rattle.bw_segment.proofs.columns.no_rows.Goals as goal

pub returns-clause-keeps : goal.returns-clause-keeps
returns-clause-keeps c = λ columns all. empty_kept columns c.loop.kept.items (omega (arith, all)) (λ col lt. c.loop.invariant.empty col (omega (arith, all)))
