-- The range is that of the group, among those of the column.
use Rattle.std.proofs.Common.{◌≡◌, ◌∙◌, ap, sym, subst, ◌<◌, ◌/◌, [], List, Vec, Global, get_or, length}
use Rattle.std.proofs.lemmas.List.{get_or-map}
use Rattle.bw_ranges.specs.declared.column_range.ColumnRange.{ColumnRange}
use Rattle.bw_ranges.specs.ColumnRange.{only_null}
use Rattle.bw_memory.specs.MemoryTable.{meaning_numbered}
use Rattle.bw_memory.specs.Ranges.{HasRange, ranges_kept}
use Rattle.bw_memory.proofs.settling.range_in_group.Goals as goal

pub returns-in-Some-get : goal.returns-in-Some-get
returns-in-Some-get c size table have whole number there same =
    let column = c.args.column in
    let list = c.in-Some.ranges.now in
    let found = c.in-Some.ensures.lookup in
    let its : ranges_kept c.args.kept.now column ≡ c.deref.result.now =
    get_or-map (λ (v : Vec ColumnRange Global). v.items) c.args.kept.now column list [] found.3.0 ∙ ap (λ (v : Vec ColumnRange Global). v.items) (sym (found.3.1 list)) ∙ sym c.deref.ensures.value in
    let in_list = c.in-Some-get.ensures.lookup in
    let value : get_or (ranges_kept c.args.kept.now column) (number / size) only_null ≡ c.in-Some-get.range.now =
    ap (λ i. get_or (ranges_kept c.args.kept.now column) i only_null) same ∙ ap (λ (l : List ColumnRange). get_or l c.args.group only_null) its ∙ sym (in_list.3.1 only_null) in
    let within : c.args.group < length (ranges_kept c.args.kept.now column) = subst (λ (l : List ColumnRange). c.args.group < length l) (sym its) in_list.3.0 in
    subst (λ (r : ColumnRange). HasRange r column (meaning_numbered table number).rows) value (have column number there (subst (λ i. i < length (ranges_kept c.args.kept.now column)) (sym same) within))
