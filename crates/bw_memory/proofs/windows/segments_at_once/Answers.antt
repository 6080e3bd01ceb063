-- Each turn adds one more column. At most 64 columns have small blocks.
use Rattle.std.proofs.Common.{◌≡◌, ◌+◌, ◌∙◌, sym, ap, ap₂, cond, ℕ, arith}
use Rattle.bw_file.specs.Blocks.{block_size}
use Rattle.bw_memory.specs.Columnar.{is_wanted, table_in}
use Rattle.bw_memory.specs.MemoryTable.{layout_of, schema_of}
use Rattle.bw_memory.specs.Windows.{sum_read}
use Rattle.bw_memory.proofs.WindowLemmas.{sum_read_more}
use Rattle.bw_memory.proofs.windows.segments_at_once.Goals as goal
use Rattle.bw_memory.proofs.windows.segments_at_once.Goals.{then-wanted-col, else-wanted-col}

pub overflow_add-size : goal.overflow_add-size
overflow_add-size c = omega (arith, c.loop-col.invariant.2, c.block_size-size.ensures.bound, c.requires, (schema_of (table_in c.args.columnar.now)).limited)

pub loop-col-preserved : goal.loop-col-preserved
loop-col-preserved c =
    let table = table_in c.args.columnar.now in
    let columns = (schema_of table).columns.items in
    let read = is_wanted c.args.wanted.now in
    let col = c.loop-col.col in
    let so_far = c.loop-col.invariant in
    let sizes = sum_read_more read (block_size (layout_of table) columns) col in
    let counts = sum_read_more read (λ _. 1) col in
    elim c.if-wanted-col.branch [
      | then-wanted-col w ↦
          let is : w.block_size-size.result ≡ block_size (layout_of table) columns col = rw w.deref.ensures at w.block_size-size.ensures.size in (
            w.size-is ∙ ap₂ ◌+◌ so_far.0 is ∙ sym (sizes ∙ ap (λ b. sum_read read (block_size (layout_of table) columns) col + cond b (block_size (layout_of table) columns col) 0) w.if-wanted-col.true),
            w.count-is ∙ ap (λ (n : ℕ). n + 1) so_far.1 ∙ sym (counts ∙ ap (λ b. sum_read read (λ _. 1) col + cond b 1 0) w.if-wanted-col.true),
            omega (arith, so_far.2, w.size-is, w.block_size-size.ensures.bound),
            omega (arith, so_far.3, w.count-is),
          )
      | else-wanted-col w ↦ (
        w.size-is ∙ so_far.0 ∙ sym (sizes ∙ ap (λ b. sum_read read (block_size (layout_of table) columns) col + cond b (block_size (layout_of table) columns col) 0) w.if-wanted-col.false ∙ omega arith),
        w.count-is ∙ so_far.1 ∙ sym (counts ∙ ap (λ b. sum_read read (λ _. 1) col + cond b 1 0) w.if-wanted-col.false ∙ omega arith),
        omega (arith, so_far.2, w.size-is),
        omega (arith, so_far.3, w.count-is),
      )
    ]
