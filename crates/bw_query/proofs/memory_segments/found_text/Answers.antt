-- No segment came so far; and the text over all rows.
use Rattle.std.proofs.Common.{◌∙◌, ap, ap₂, arith, length, refl, sym, Bool, List}
use Rattle.bw_model.specs.Groups.{together}
use Rattle.bw_model.specs.Row.{Value}
use Rattle.bw_memory.specs.declared.table.MemoryTable.{MemoryTable}
use Rattle.bw_memory.specs.MemoryTable.{schema_of, segments_in}
use Rattle.bw_query.specs.Segments.{open_groups}
use Rattle.bw_query.proofs.SettledLemmas.{begins, open_rows}
use Rattle.bw_query.proofs.StoreLemmas.{found_over}
use Rattle.bw_query.proofs.memory_segments.found_text.Goals as goal

pub new-segments-requires-clause-fits : goal.new-segments-requires-clause-fits
new-segments-requires-clause-fits g c =
    let table = c.args.table.now in
    omega (arith, table.within_limit, open_rows table c.deref.result.now (segments_in table))

pub consumed_text-requires-clause-fresh : goal.consumed_text-requires-clause-fresh
consumed_text-requires-clause-fresh g c =
    let segments = c.new-segments.result in
    (refl, refl, sym (begins segments.table.now segments.settled.now segments.next c.new-segments.ensures.next))

pub consumed_text-requires-clause-rows : goal.consumed_text-requires-clause-rows
consumed_text-requires-clause-rows g c =
    let segments = c.new-segments.result in
    omega (arith, c.requires.fresh, c.new-segments.ensures.counted, ap (λ (groups : List (List (List Value))). length (together groups)) (begins segments.table.now segments.settled.now segments.next c.new-segments.ensures.next))

pub consumed_text-requires-clause-capacity : goal.consumed_text-requires-clause-capacity
consumed_text-requires-clause-capacity g c =
    let segments = c.new-segments.result in
    omega (arith, segments.fits, ap (λ (groups : List (List (List Value))). length (together groups)) (begins segments.table.now segments.settled.now segments.next c.new-segments.ensures.next))

pub returns-clause-text : goal.returns-clause-text
returns-clause-text g c =
    let segments = c.new-segments.result in
    let settled = c.new-segments.ensures.settled ∙ c.deref.ensures.value ∙ c.in_ok-settled.ensures.settled in
    let left = ap₂ (λ (t : MemoryTable) (s : List Bool). open_groups t s (segments_in t)) c.new-segments.ensures.table settled in
    let columns = ap (λ (t : MemoryTable). (schema_of t).columns.items) c.new-segments.ensures.table in
    found_over c.args.table.now c.args.verdicts.now _ columns _ c.args.answer c.args.scan.now c.requires.verdicts (λ groups all. all ∙ left) c.consumed_text.result c.consumed_text.ensures.text
