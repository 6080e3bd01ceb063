-- The column has these blocks, and the others are as they were.
use Rattle.std.proofs.Common.{refl}
use Rattle.bw_memory.proofs.ReadColumnLemmas.{replaced}
use Rattle.bw_memory.proofs.columnar.ColumnarTable.put_column.Goals as goal

pub returns : goal.returns
returns c known blocks =
    let put = c.replace_column.ensures in
    replaced known c.args.self.now _ c.args.col c.args.blocks.items blocks put.layout put.schema put.rows put.segments refl put.column put.others
