use Rattle.std.proofs.Common.{◌≡◌, ◌⊎◌, ◌<◌, ◌≤◌, true}
use Rattle.bw_memory.specs.MemoryTable.{schema_of}
use Rattle.bw_query.specs.ProgramCache.{Serves, files_of}
use Rattle.bw_session.specs.Session.{RanSoFar, TellsLoss, outputs, session_table}
use Rattle.bw_session.proofs.session.answer_statements.Given as goal

-- the statements so far came and are answered, the listener was told of them, and nothing failed
abbrev pub invariant-loop : goal.invariant-loop
invariant-loop g l = record {
  so_far : RanSoFar (session_table (files_of l.initial.programs) (schema_of (g.C.ColumnStore.table l.initial.store)) (g.C.ColumnStore.source l.initial.store))
      (g.S.Source.state l.initial.input).known (g.S.Source.state l.input).known
      (outputs (g.K.Sink.state l.initial.sink).taken (g.L.Listener.told l.initial.listener))
      (outputs (g.K.Sink.state l.sink).taken (g.L.Listener.told l.listener)) l.first;
  reads : (g.S.Source.state l.input).failures ≡ (g.S.Source.state l.initial.input).failures;
  writes : (g.K.Sink.state l.sink).failures ≡ (g.K.Sink.state l.initial.sink).failures;
  serves : Serves (schema_of (g.C.ColumnStore.table l.store)).columns.items l.programs;
  files : files_of l.programs ≡ files_of l.initial.programs;
  source : g.C.ColumnStore.source l.store ≡ g.C.ColumnStore.source l.initial.store;
  schema : schema_of (g.C.ColumnStore.table l.store) ≡ schema_of (g.C.ColumnStore.table l.initial.store);
  tells : TellsLoss (g.C.ColumnStore.is_lost l.initial.store) (g.C.ColumnStore.failures l.initial.store) (g.C.ColumnStore.failures l.store) l.first;
  lost : g.C.ColumnStore.is_lost l.store ≡ true → (g.C.ColumnStore.is_lost l.initial.store ≡ true) ⊎ (g.C.ColumnStore.failures l.initial.store < g.C.ColumnStore.failures l.store);
  count : g.C.ColumnStore.failures l.initial.store ≤ g.C.ColumnStore.failures l.store;
}
