-- One column more was read.
use Rattle.std.proofs.Common.{◌∙◌, ap, sym, subst, ℕ, Bool, List, Option, true, length, refl, arith}
use Rattle.bw_model.specs.declared.schema.Schema.{Schema}
use Rattle.bw_memory.specs.Columnar.{HasReadColumn}
use Rattle.bw_memory.proofs.ReadColumnsLemmas.{added}
use Rattle.bw_memory.proofs.columnar.ColumnarTable.read_all.Goals as goal

pub loop-col-preserved : goal.loop-col-preserved
loop-col-preserved g c =
    let known = (g.D.RandomAccess.state c.args.device.now).known in
    let old = c.loop-col.self in
    let new = c.read_column.new.self in
    let col = c.loop-col.col in
    let read : ℕ → Bool = λ column. true in
    let so_far = c.loop-col.invariant in
    let more = subst (λ (known : Option (List ℕ)). HasReadColumn known old new col) so_far.3 c.in_ok-read_column.ensures.read in (
      added known read old new col more refl so_far.0,
      record {
        layout = more.same.layout ∙ so_far.1.layout;
        schema = more.same.schema ∙ so_far.1.schema;
        rows = more.same.rows ∙ so_far.1.rows;
        segments = more.same.segments ∙ so_far.1.segments;
        head = more.same.head ∙ so_far.1.head;
      },
      so_far.2 ∙ sym (ap (λ (s : Schema). length s.columns.items) more.same.schema),
      c.in_ok-read_column.ensures.same ∙ so_far.3,
      omega (arith, c.in_ok-read_column.ensures.count, so_far.4),
    )
