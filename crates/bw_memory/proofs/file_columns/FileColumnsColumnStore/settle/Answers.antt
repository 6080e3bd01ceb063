-- The ranges are those of the table.
use Rattle.std.proofs.Common.{subst, sym}
use Rattle.bw_memory.specs.declared.table.MemoryTable.{MemoryTable}
use Rattle.bw_memory.specs.Columnar.{table_in}
use Rattle.bw_memory.specs.Ranges.{HaveRanges}
use Rattle.bw_memory.proofs.file_columns.FileColumnsColumnStore.settle.Goals as goal

pub verdicts_on_groups-requires-clause-kept : goal.verdicts_on_groups-requires-clause-kept
verdicts_on_groups-requires-clause-kept g c =
    let self = c.args.self.now in
    subst (λ (t : MemoryTable). HaveRanges 4 t c.deref.result.now) (sym c.table-table.ensures) (subst (HaveRanges 4 (table_in self.columnar)) (sym c.deref.ensures.value) self.ranged)

pub verdicts_on_groups-requires-clause-wide : goal.verdicts_on_groups-requires-clause-wide
verdicts_on_groups-requires-clause-wide g c =
    let self = c.args.self.now in
    subst (λ (t : MemoryTable). HaveRanges 64 t c.deref-2.result.now) (sym c.table-table.ensures) (subst (HaveRanges 64 (table_in self.columnar)) (sym c.deref-2.ensures.value) self.wide_ranged)
