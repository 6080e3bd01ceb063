-- The blocks are those of the file.
use Rattle.bw_memory.proofs.columnar.ColumnarTable.read_column.Goals as goal

pub returns-clause-read : goal.returns-clause-read
returns-clause-read g c = c.put_column.ensures _ c.in_ok-blocks.ensures.blocks
