-- One column more has the group's range.
use Rattle.std.proofs.Common.{◌∙◌, ap, sym, subst, List, ◌+◌, ◌≤◌, get_or, length, arith}
use Rattle.std.proofs.lemmas.List.{get_or-set_other, length-set}
use Rattle.bw_ranges.specs.declared.column_range.ColumnRange.{ColumnRange}
use Rattle.bw_ranges.specs.ColumnRange.{only_null, range_in}
use Rattle.bw_memory.proofs.SettleLemmas.{FitFrom, none_put, one_put, other_than}
use Rattle.bw_memory.proofs.settling.put_ranges.Goals.{then-column-ranges, else-column-ranges}
use Rattle.bw_memory.proofs.settling.put_ranges.Goals as goal

pub loop-column-preserved : goal.loop-column-preserved
loop-column-preserved c =
    let so_far = c.loop-column.invariant in
    let columns = c.args.columns.now in
    let k = c.loop-column.column-index in
    let lt = c.loop-column-test.true in
    let ranges = c.loop-column.ranges in
    elim c.if-column-ranges.branch [
      | then-column-ranges w ↦
          let r = w.range_in_group.result in
          record {
            long = ap length w.ranges-is ∙ length-set ranges (get_or columns k 0) r ∙ so_far.long;
            others = λ column off. ap (λ (l : List ColumnRange). range_in l column) w.ranges-is ∙ get_or-set_other ranges (get_or columns k 0) column r only_null (other_than columns k column lt off) ∙ so_far.others column off;
            group = λ size table have whole elsewhere.
                subst (λ (l : List ColumnRange). FitFrom size table columns c.args.group l (k + 1)) (sym w.ranges-is)
                (one_put size table columns c.args.group k ranges lt (so_far.group size table have whole elsewhere) r w.if-column-ranges.true (w.range_in_group.ensures size table have (whole (get_or columns k 0))));
          }
      | else-column-ranges w ↦
          let past : length ranges ≤ get_or columns k 0 = omega (arith, w.if-column-ranges.false) in
          record {
            long = ap length w.ranges-is ∙ so_far.long;
            others = λ column off. ap (λ (l : List ColumnRange). range_in l column) w.ranges-is ∙ so_far.others column off;
            group = λ size table have whole elsewhere.
                subst (λ (l : List ColumnRange). FitFrom size table columns c.args.group l (k + 1)) (sym w.ranges-is)
                (none_put size table columns c.args.group k ranges lt (so_far.group size table have whole elsewhere) c.args.whole.now (so_far.long ∙ c.requires) past whole);
          }
    ]
