use Rattle.std.proofs.Common.{◌≡◌, ◌≤◌, length}
use Rattle.bw_memory.specs.ColumnStore.{HasColumnsBefore, columns_of}
use Rattle.bw_memory.specs.MemoryTable.{schema_of}
use Rattle.bw_query.specs.NamedColumns.{is_named_by}
use Rattle.bw_query.proofs.stored_columns.read_named.Given as goal

-- the columns so far that the query names are in memory
abbrev pub invariant-loop-column : goal.invariant-loop-column
invariant-loop-column g l =
    HasColumnsBefore (g.C.ColumnStore.source l.fn.store) (is_named_by l.query) (g.C.ColumnStore.table l.store) l.column
    × (g.C.ColumnStore.source l.store ≡ g.C.ColumnStore.source l.fn.store)
    × (schema_of (g.C.ColumnStore.table l.store) ≡ schema_of (g.C.ColumnStore.table l.fn.store))
    × (l.column-end ≡ length (columns_of (g.C.ColumnStore.source l.fn.store)))
    × (g.C.ColumnStore.is_lost l.store ≡ g.C.ColumnStore.is_lost l.fn.store)
    × (g.C.ColumnStore.failures l.fn.store ≤ g.C.ColumnStore.failures l.store)
