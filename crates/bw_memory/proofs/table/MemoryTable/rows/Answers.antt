-- Those of all segments.
use Rattle.std.proofs.Common.{arith}
use Rattle.bw_memory.specs.MemoryTable.{schema_of}
use Rattle.bw_memory.proofs.StoredSegmentLemmas.{length-rows}
use Rattle.bw_memory.proofs.table.MemoryTable.rows.Goals as goal

pub returns : goal.returns
returns c =
    let table = c.args.self.now in
    omega (arith, table.kept.all, length-rows table.layout (schema_of table).columns.items table.rows table.segments table.columns.items)
