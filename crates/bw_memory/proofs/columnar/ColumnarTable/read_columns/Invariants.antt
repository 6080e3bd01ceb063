use Rattle.std.proofs.Common.{◌≡◌}
use Rattle.bw_memory.specs.Columnar.{HasColumns, SameHeader, is_wanted}
use Rattle.bw_memory.proofs.columnar.ColumnarTable.read_columns.Given as goal

-- the wanted columns so far were read
abbrev pub invariant-loop-col : goal.invariant-loop-col
invariant-loop-col g l =
    HasColumns (g.D.RandomAccess.state l.fn.device).known l.self (is_wanted l.wanted) l.col × SameHeader l.fn.self l.self
    × ((g.D.RandomAccess.state l.device).known ≡ (g.D.RandomAccess.state l.fn.device).known)
    × ((g.D.RandomAccess.state l.device).failures ≡ (g.D.RandomAccess.state l.fn.device).failures)
