-- The blocks of a column that was read from a file.
use Rattle.std.proofs.Common.{◌≡◌, ◌≢◌, sym, subst, ℕ, ◌<◌, List, Option}
use Rattle.std.specs.Prelude.{IfSome}
use Rattle.bw_file.specs.Blocks.{block_size}
use Rattle.bw_memory.specs.declared.columnar.ColumnarTable.{ColumnarTable}
use Rattle.bw_memory.specs.Columnar.{AreFileBlocks, HasBlock, HasReadColumn, head_size, table_in}
use Rattle.bw_memory.specs.Columns.{block_in}
use Rattle.bw_memory.specs.MemoryTable.{layout_of, schema_of, segments_in}
use Rattle.bw_memory.specs.StoredSegments.{piece_of}

-- an equal block
pub known_block : (known : Option (List ℕ)) (columnar : ColumnarTable) (col number : ℕ) (block piece : List ℕ) → block ≡ piece → IfSome known (HasBlock columnar col number piece)
    → IfSome known (HasBlock columnar col number block)
known_block known columnar col number block piece same has = subst (λ (b : List ℕ). IfSome known (HasBlock columnar col number b)) (sym same) has

-- valid blocks of the file were put in place of a column's
pub replaced : (known : Option (List ℕ)) (old new : ColumnarTable) (col : ℕ) (blocks : List ℕ) → AreFileBlocks known old col blocks
    → layout_of (table_in new) ≡ layout_of (table_in old) → schema_of (table_in new) ≡ schema_of (table_in old) → (table_in new).rows ≡ (table_in old).rows
    → segments_in (table_in new) ≡ segments_in (table_in old) → head_size new ≡ head_size old
    → ((number : ℕ) → number < segments_in (table_in old) → block_in (table_in new) number col ≡ piece_of blocks (block_size (layout_of (table_in old)) (schema_of (table_in old)).columns.items col) number)
    → ((other : ℕ) → other ≢ col → (number : ℕ) → block_in (table_in new) number other ≡ block_in (table_in old) number other) → HasReadColumn known old new col
replaced known old new col blocks are layout schema rows segments head column others = record {
  same = record { layout = layout; schema = schema; rows = rows; segments = segments; head = head };
  others = others;
  blocks = λ number there. known_block known old col number (block_in (table_in new) number col) _ (column number there) (are.are number there);
}
