-- The other columns are as they were.
use Rattle.std.proofs.Common.{◌≡◌, ◌∙◌, sym, ap, ◌<◌, ◌*◌, ℕ, List, length, arith, None}
use Rattle.bw_segment.specs.declared.column_blocks.ColumnBlocks.{ColumnBlocks}
use Rattle.bw_segment.proofs.ColumnBlockLemmas.{block_of_other}
use Rattle.bw_file.specs.Blocks.{block_fault, block_size}
use Rattle.bw_memory.specs.StoredSegments.{piece_of, rows_numbered}
use Rattle.bw_memory.proofs.ColumnarLemmas.{replaced_column, replaced_cut, replaced_stored}
use Rattle.bw_memory.proofs.table.MemoryTable.replace_column.Goals as goal

pub invariant_of-self : goal.invariant_of-self
invariant_of-self c =
    let table = c.args.self.now in
    let columns = table.placement.value.schema.columns.items in
    let new = c.replace.new.dest in
    let size : new.size ≡ block_size table.layout columns c.args.col = rw c.deref.ensures at (ap (λ (b : ColumnBlocks). b.size) c.replace.ensures.after ∙ c.of_bytes.ensures.size ∙ c.block_size-size.ensures.size) in
    let stride : new.stride ≡ new.size = ap (λ (b : ColumnBlocks). b.stride) c.replace.ensures.after ∙ c.of_bytes.ensures.stride ∙ sym (ap (λ (b : ColumnBlocks). b.size) c.replace.ensures.after ∙ c.of_bytes.ensures.size) in
    let bytes : new.bytes.items ≡ c.args.blocks.items = ap (λ (b : ColumnBlocks). b.bytes.items) c.replace.ensures.after ∙ c.of_bytes.ensures.bytes in
    let long : length new.bytes.items ≡ table.segments * block_size table.layout columns c.args.col = ap length bytes ∙ c.requires.long in
    let valid : (number : ℕ) → number < table.segments → block_fault table.layout columns c.args.col (rows_numbered table.rows number) (piece_of new.bytes.items (block_size table.layout columns c.args.col) number) ≡ None =
    λ number lt. ap (λ (l : List ℕ). block_fault table.layout columns c.args.col (rows_numbered table.rows number) (piece_of l (block_size table.layout columns c.args.col) number)) bytes ∙ c.requires.valid number lt in
    record {
      placed = table.placed;
      within_limit = table.within_limit;
      kept = replaced_stored table.layout columns table.rows table.segments table.columns.items table.kept c.args.col new c.requires.column size stride long valid;
      cut = replaced_cut table.layout columns table.rows table.segments table.columns.items table.kept c.args.col new c.requires.column size stride long valid;
    }

pub returns-clause-column : goal.returns-clause-column
returns-clause-column c = λ number there.
    let table = c.args.self.now in
    let columns = table.placement.value.schema.columns.items in
    let new = c.replace.new.dest in
    let size : new.size ≡ block_size table.layout columns c.args.col = rw c.deref.ensures at (ap (λ (b : ColumnBlocks). b.size) c.replace.ensures.after ∙ c.of_bytes.ensures.size ∙ c.block_size-size.ensures.size) in
    let stride : new.stride ≡ new.size = ap (λ (b : ColumnBlocks). b.stride) c.replace.ensures.after ∙ c.of_bytes.ensures.stride ∙ sym (ap (λ (b : ColumnBlocks). b.size) c.replace.ensures.after ∙ c.of_bytes.ensures.size) in
    let bytes : new.bytes.items ≡ c.args.blocks.items = ap (λ (b : ColumnBlocks). b.bytes.items) c.replace.ensures.after ∙ c.of_bytes.ensures.bytes in
    let long : length new.bytes.items ≡ table.segments * block_size table.layout columns c.args.col = ap length bytes ∙ c.requires.long in
    let valid : (number : ℕ) → number < table.segments → block_fault table.layout columns c.args.col (rows_numbered table.rows number) (piece_of new.bytes.items (block_size table.layout columns c.args.col) number) ≡ None =
    λ number lt. ap (λ (l : List ℕ). block_fault table.layout columns c.args.col (rows_numbered table.rows number) (piece_of l (block_size table.layout columns c.args.col) number)) bytes ∙ c.requires.valid number lt in
    replaced_column table.layout columns table.rows table.segments table.columns.items table.kept c.args.col new c.requires.column size stride long valid number
    ∙ ap (λ (l : List ℕ). piece_of l (block_size table.layout columns c.args.col) number) bytes

pub returns-clause-others : goal.returns-clause-others
returns-clause-others c = λ other not number.
    block_of_other c.args.self.now.columns.items c.args.col c.replace.new.dest (omega (arith, c.requires.column, c.args.self.now.kept.blocks.all)) number other not
