-- One column more is in memory, or isn't needed.
use Rattle.std.proofs.Common.{◌∙◌, ◌≤◌, sym, refl, arith, length}
use Rattle.bw_model.proofs.ErrLemmas.{err_passed_on}
use Rattle.bw_memory.specs.ColumnStore.{columns_of}
use Rattle.bw_query.specs.NamedColumns.{is_named_by}
use Rattle.bw_query.proofs.StoreLemmas.{added_before, fewer_before, passed_before}
use Rattle.bw_query.proofs.stored_columns.read_named.Goals.{then-is_named+in_ok-read, else-is_named}
use Rattle.bw_query.proofs.stored_columns.read_named.Goals as goal

pub returns-in_err-read-clause-refused : goal.returns-in_err-read-clause-refused
returns-in_err-read-clause-refused g c =
    rw (err_passed_on _ c.from_residual.ensures.1) (record {
      column = c.loop-column.column;
      within = omega (arith, c.loop-column-test.true, c.loop-column.invariant.3);
      needed = sym c.is_named.ensures ∙ c.if-is_named.true;
      table = g.C.ColumnStore.table c.loop-column.store;
      before = c.loop-column.invariant.0;
      is = rw c.loop-column.invariant.1 at c.in_err-read.ensures.refused;
    })

pub loop-column-preserved : goal.loop-column-preserved
loop-column-preserved g c =
    let source = g.C.ColumnStore.source c.args.store.now in
    let named = is_named_by c.args.query.now in
    let old = g.C.ColumnStore.table c.loop-column.store in
    elim c.if-is_named.branch [
      | then-is_named+in_ok-read w ↦
          let one = rw c.loop-column.invariant.1 at w.in_ok-read.ensures.read in
          let of = rw c.loop-column.invariant.1 at w.in_ok-read.ensures.of in
          let kept = rw c.loop-column.invariant.1 at w.in_ok-read.ensures.kept in
          rw w.store-is (
            added_before source named old (g.C.ColumnStore.table w.read.new.self) c.loop-column.column c.loop-column.invariant.0 of one kept,
            w.in_ok-read.ensures.source ∙ c.loop-column.invariant.1,
            w.in_ok-read.ensures.schema ∙ c.loop-column.invariant.2,
            c.loop-column.invariant.3,
            w.in_ok-read.ensures.found ∙ c.loop-column.invariant.4,
            omega (arith, w.in_ok-read.ensures.count, c.loop-column.invariant.5),
          )
      | else-is_named w ↦
          rw w.store-is (
            passed_before source named old c.loop-column.column (sym c.is_named.ensures ∙ w.if-is_named.false) c.loop-column.invariant.0,
            c.loop-column.invariant.1,
            c.loop-column.invariant.2,
            c.loop-column.invariant.3,
            c.loop-column.invariant.4,
            c.loop-column.invariant.5,
          )
    ]

pub returns-clause-rows : goal.returns-clause-rows
returns-clause-rows g c =
    let source = g.C.ColumnStore.source c.args.store.now in
    let table = g.C.ColumnStore.table c.loop-column.store in
    let all : length (columns_of source) ≤ c.loop-column.column = omega (arith, c.loop-column-test.false, c.loop-column.invariant.3) in
    record {
      table = table;
      columns = fewer_before source (is_named_by c.args.query.now) table c.loop-column.column (length (columns_of source)) all c.loop-column.invariant.0;
      are = refl;
    }
