-- The header and the length of the file.
use Rattle.std.proofs.Common.{◌≡◌, ◌∙◌, sym, ap, subst, ◌+◌, ◌*◌, arith}
use Rattle.std.proofs.lemmas.List.{with_items_is}
use Rattle.bw_model.proofs.ErrLemmas.{err_passed_on}
use Rattle.bw_file.specs.Blocks.{segment_size}
use Rattle.bw_memory.specs.declared.columnar.ColumnarTable.{ColumnarTable}
use Rattle.bw_memory.specs.Columnar.{IsOpenFault}
use Rattle.bw_memory.specs.Filling.{AreBytesAt}
use Rattle.bw_memory.proofs.FillingLemmas.{known_as}
use Rattle.bw_memory.proofs.OpenLemmas.{first_bytes, header_of_table, is_opened, open_refused}
use Rattle.bw_memory.proofs.OpenLemmas.{too_long, too_short}
use Rattle.bw_memory.proofs.columnar.ColumnarTable.open.Goals as goal

pub returns-in_err-header-clause-refused : goal.returns-in_err-header-clause-refused
returns-in_err-header-clause-refused g c =
    let known = (g.D.RandomAccess.state c.args.device.now).known in
    let items = with_items_is c.resize.new.self c.fill_at.new.buffer (omega (arith, c.fill_at.auto.buffer, c.deref_mut.ensures.len)) in
    let filled = known_as known _ (AreBytesAt 0 c.fill_at.new.buffer) c.in-Ok.ensures.same c.in_ok-fill_at.ensures.filled in
    let first = first_bytes known c.in-Ok.size c.min-count.result c.fill_at.new.buffer c.deref.result.now c.in-Ok.ensures.size (omega (arith, c.min-count.ensures))
    (omega (arith, c.fill_at.auto.buffer, c.deref_mut.ensures.len, c.in_ok-resize.ensures.len)) (c.deref.ensures.value ∙ items) filled in
    rw (err_passed_on _ c.from_residual-in_err-header.ensures.1) (open_refused known c.deref.result.now c.in_err-header.field-0.0 c.in_err-header.ensures.refused first)

pub returns-in_err-header-clause-count : goal.returns-in_err-header-clause-count
returns-in_err-header-clause-count g c =
    rw (err_passed_on _ c.from_residual-in_err-header.ensures.1) (rw c.in_err-header.ensures.unread (omega (arith, c.in_ok-fill_at.ensures.count, c.in-Ok.ensures.count)))

pub returns-then-size-head-clause-refused : goal.returns-then-size-head-clause-refused
returns-then-size-head-clause-refused g c =
    let known = (g.D.RandomAccess.state c.args.device.now).known in
    let table = c.in_ok-table.table in
    let header = c.in_ok-header.field-0.header in
    let columnar : ColumnarTable = record { table = table; head = c.in_ok-header.field-0.size; short = c.in_ok-header.ensures.short } in
    let items = with_items_is c.resize.new.self c.fill_at.new.buffer (omega (arith, c.fill_at.auto.buffer, c.deref_mut.ensures.len)) in
    let filled = known_as known _ (AreBytesAt 0 c.fill_at.new.buffer) c.in-Ok.ensures.same c.in_ok-fill_at.ensures.filled in
    let first = first_bytes known c.in-Ok.size c.min-count.result c.fill_at.new.buffer c.deref.result.now c.in-Ok.ensures.size (omega (arith, c.min-count.ensures))
    (omega (arith, c.fill_at.auto.buffer, c.deref_mut.ensures.len, c.in_ok-resize.ensures.len)) (c.deref.ensures.value ∙ items) filled in
    let made = c.in_ok-table.ensures in
    let same = header_of_table columnar header made.layout made.name made.columns made.rows in
    let all = table.segments * c.segment_size.result in
    let is : c.segment_size.result ≡ segment_size table.layout table.placement.value.schema.columns.items = rw c.deref-2.ensures at c.segment_size.ensures.size in
    let end : c.in_ok-header.field-0.size + all ≡ c.in_ok-header.field-0.size + table.segments * segment_size table.layout table.placement.value.schema.columns.items = omega (arith, ap (λ n. table.segments * n) is) in
    subst (IsOpenFault known) (sym c.at_byte.ensures) (too_short known columnar header c.deref.result.now c.in-Ok.size all c.in-Ok.ensures.size first c.in_ok-header.ensures.parsed same end c.if-size-head.true)

pub returns-then-size-head-2-clause-refused : goal.returns-then-size-head-2-clause-refused
returns-then-size-head-2-clause-refused g c =
    let known = (g.D.RandomAccess.state c.args.device.now).known in
    let table = c.in_ok-table.table in
    let header = c.in_ok-header.field-0.header in
    let columnar : ColumnarTable = record { table = table; head = c.in_ok-header.field-0.size; short = c.in_ok-header.ensures.short } in
    let items = with_items_is c.resize.new.self c.fill_at.new.buffer (omega (arith, c.fill_at.auto.buffer, c.deref_mut.ensures.len)) in
    let filled = known_as known _ (AreBytesAt 0 c.fill_at.new.buffer) c.in-Ok.ensures.same c.in_ok-fill_at.ensures.filled in
    let first = first_bytes known c.in-Ok.size c.min-count.result c.fill_at.new.buffer c.deref.result.now c.in-Ok.ensures.size (omega (arith, c.min-count.ensures))
    (omega (arith, c.fill_at.auto.buffer, c.deref_mut.ensures.len, c.in_ok-resize.ensures.len)) (c.deref.ensures.value ∙ items) filled in
    let made = c.in_ok-table.ensures in
    let same = header_of_table columnar header made.layout made.name made.columns made.rows in
    let all = table.segments * c.segment_size.result in
    let is : c.segment_size.result ≡ segment_size table.layout table.placement.value.schema.columns.items = rw c.deref-2.ensures at c.segment_size.ensures.size in
    let end : c.in_ok-header.field-0.size + all ≡ c.in_ok-header.field-0.size + table.segments * segment_size table.layout table.placement.value.schema.columns.items = omega (arith, ap (λ n. table.segments * n) is) in
    subst (IsOpenFault known) (sym c.at_byte-then-size-head-2.ensures)
    (too_long known columnar header c.deref.result.now c.in-Ok.size all c.in-Ok.ensures.size first c.in_ok-header.ensures.parsed same end (omega (arith, c.if-size-head-2.true)))

pub returns-clause-opened : goal.returns-clause-opened
returns-clause-opened g c =
    let known = (g.D.RandomAccess.state c.args.device.now).known in
    let table = c.in_ok-table.table in
    let header = c.in_ok-header.field-0.header in
    let columnar : ColumnarTable = record { table = table; head = c.in_ok-header.field-0.size; short = c.in_ok-header.ensures.short } in
    let items = with_items_is c.resize.new.self c.fill_at.new.buffer (omega (arith, c.fill_at.auto.buffer, c.deref_mut.ensures.len)) in
    let filled = known_as known _ (AreBytesAt 0 c.fill_at.new.buffer) c.in-Ok.ensures.same c.in_ok-fill_at.ensures.filled in
    let first = first_bytes known c.in-Ok.size c.min-count.result c.fill_at.new.buffer c.deref.result.now c.in-Ok.ensures.size (omega (arith, c.min-count.ensures))
    (omega (arith, c.fill_at.auto.buffer, c.deref_mut.ensures.len, c.in_ok-resize.ensures.len)) (c.deref.ensures.value ∙ items) filled in
    let made = c.in_ok-table.ensures in
    let same = header_of_table columnar header made.layout made.name made.columns made.rows in
    let all = table.segments * c.segment_size.result in
    let is : c.segment_size.result ≡ segment_size table.layout table.placement.value.schema.columns.items = rw c.deref-2.ensures at c.segment_size.ensures.size in
    let end : c.in_ok-header.field-0.size + all ≡ c.in_ok-header.field-0.size + table.segments * segment_size table.layout table.placement.value.schema.columns.items = omega (arith, ap (λ n. table.segments * n) is) in
    is_opened known _ header c.deref.result.now c.in-Ok.size all c.in-Ok.ensures.size first c.in_ok-header.ensures.parsed same end (omega (arith, c.if-size-head.false, c.if-size-head-2.false))
