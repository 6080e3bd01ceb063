use Rattle.std.proofs.Common.{◌≡◌, true}
use Rattle.bw_memory.specs.Columnar.{HasColumns, SameHeader, column_count}
use Rattle.bw_memory.proofs.columnar.ColumnarTable.read_all.Given as goal

-- the columns so far were read
abbrev pub invariant-loop-col : goal.invariant-loop-col
invariant-loop-col g l =
    HasColumns (g.D.RandomAccess.state l.fn.device).known l.self (λ _. true) l.col × SameHeader l.fn.self l.self × (l.col-end ≡ column_count l.self)
    × ((g.D.RandomAccess.state l.device).known ≡ (g.D.RandomAccess.state l.fn.device).known)
    × ((g.D.RandomAccess.state l.device).failures ≡ (g.D.RandomAccess.state l.fn.device).failures)
