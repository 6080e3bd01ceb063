-- One verdict more holds: that on its wide group, or its own.
use Rattle.std.proofs.Common.{◌≡◌, ◌∙◌, ap, sym, subst, List, ℕ, ◌/◌, false, length, Vec, Global, arith}
use Rattle.std.proofs.lemmas.List.{with_items_is}
use Rattle.bw_ranges.specs.declared.column_range.ColumnRange.{ColumnRange}
use Rattle.bw_ranges.specs.declared.verdict.Verdict.{Verdict}
use Rattle.bw_ranges.specs.ColumnRange.{range_in}
use Rattle.bw_memory.specs.declared.table.MemoryTable.{MemoryTable}
use Rattle.bw_memory.specs.Ranges.{HasRangeInTable, is_named}
use Rattle.bw_memory.specs.Settled.{HoldsOnGroup}
use Rattle.bw_memory.proofs.SettleLemmas.{more_verdicts}
use Rattle.bw_memory.proofs.settling.verdicts_by_ranges.Goals.{After-ne-is_any_decided, then-group-eq0, else-group-eq0, in-Open, in_default}
use Rattle.bw_memory.proofs.settling.verdicts_by_ranges.Goals as goal

-- as many ranges as whole ones, and those of the columns that aren't named are whole
abbrev Fit : MemoryTable → List ℕ → List ColumnRange → List ColumnRange → Type 0
Fit table columns whole ranges = (length ranges ≡ length whole) × ((column : ℕ) → is_named columns column ≡ false → HasRangeInTable table column (range_in ranges column))

fit_still : (table : MemoryTable) (columns : List ℕ) (whole old given put now : List ColumnRange) → given ≡ old → length put ≡ length given → ((column : ℕ) → is_named columns column ≡ false → range_in put column ≡ range_in given column) → now ≡ put
    → Fit table columns whole old → Fit table columns whole now
fit_still table columns whole old given put now was long others is fit = (
  ap length is ∙ long ∙ ap length was ∙ fit.0,
  λ column off. subst (HasRangeInTable table column) (sym (ap (λ (l : List ColumnRange). range_in l column) is ∙ others column off ∙ ap (λ (l : List ColumnRange). range_in l column) was)) (fit.1 column off),
)

whole_given : (table : MemoryTable) (columns : List ℕ) (whole old given : List ColumnRange) → given ≡ old → Fit table columns whole old → (column : ℕ) → is_named columns column ≡ false → HasRangeInTable table column (range_in given column)
whole_given table columns whole old given was fit column off = subst (HasRangeInTable table column) (sym (ap (λ (l : List ColumnRange). range_in l column) was)) (fit.1 column off)

module _ (c : After-ne-is_any_decided) where
  abbrev table : MemoryTable
  table = c.args.table.now

  abbrev Holds : ℕ → ℕ → Verdict → Type 0
  Holds size group verdict = HoldsOnGroup c.args.cond.now size table group verdict

  abbrev Fits : List ColumnRange → Type 0
  Fits ranges = Fit table c.args.columns.now c.args.whole.now ranges

  on_wide : Fits c.if-group-eq0.ranges.items × Holds 64 (c.loop-group.group / 16) c.if-group-eq0.on_wide
  on_wide =
      let so_far = c.loop-group.invariant in
      let before : Fits c.loop-group.ranges.items = (so_far.long, so_far.whole) in
      elim c.if-group-eq0.branch [
        | then-group-eq0 w ↦
            let put = w.group_verdict-on_wide.new.ranges in
            let given = w.deref_mut.result.now in
            let items = ap (λ (v : Vec ColumnRange Global). v.items) w.ranges-is ∙ with_items_is c.loop-group.ranges put (omega (arith, w.group_verdict-on_wide.auto.ranges, w.deref_mut.ensures.len)) in (
              fit_still table c.args.columns.now c.args.whole.now c.loop-group.ranges.items given put c.if-group-eq0.ranges.items w.deref_mut.ensures.value w.group_verdict-on_wide.auto.ranges w.group_verdict-on_wide.ensures.others items before,
              subst (Holds 64 (c.loop-group.group / 16)) (sym w.on_wide-is)
                  (w.group_verdict-on_wide.ensures.holds 64 table c.requires.wide c.requires.whole (whole_given table c.args.columns.now c.args.whole.now c.loop-group.ranges.items given w.deref_mut.ensures.value before)),
            )
        | else-group-eq0 w ↦ (
          subst Fits (sym (ap (λ (v : Vec ColumnRange Global). v.items) w.ranges-is)) before,
          subst (Holds 64 (c.loop-group.group / 16)) (sym w.on_wide-is) (so_far.wide w.if-group-eq0.false),
        )
      ]

  on_group : Fits c.match-on_wide.ranges.items × Holds 4 c.loop-group.group c.match-on_wide.verdict
  on_group = elim c.match-on_wide.branch [
    | in-Open w ↦
        let put = w.group_verdict-verdict.new.ranges in
        let given = w.deref_mut-in-Open.result.now in
        let before = on_wide.0 in
        let items = ap (λ (v : Vec ColumnRange Global). v.items) w.ranges-is ∙ with_items_is c.if-group-eq0.ranges put (omega (arith, w.group_verdict-verdict.auto.ranges, w.deref_mut-in-Open.ensures.len)) in (
          fit_still table c.args.columns.now c.args.whole.now c.if-group-eq0.ranges.items given put c.match-on_wide.ranges.items w.deref_mut-in-Open.ensures.value w.group_verdict-verdict.auto.ranges w.group_verdict-verdict.ensures.others items before,
          subst (Holds 4 c.loop-group.group) (sym w.verdict-is)
              (w.group_verdict-verdict.ensures.holds 4 table c.requires.kept c.requires.whole (whole_given table c.args.columns.now c.args.whole.now c.if-group-eq0.ranges.items given w.deref_mut-in-Open.ensures.value before)),
        )
    | in_default w ↦ (
      subst Fits (sym (ap (λ (v : Vec ColumnRange Global). v.items) w.ranges-is)) on_wide.0,
      subst (Holds 4 c.loop-group.group) (sym w.verdict-is) (λ number there same. on_wide.1 number there (omega (arith, same))),
    )
  ]

pub loop-group-preserved : goal.loop-group-preserved
loop-group-preserved c =
    let so_far = c.loop-group.invariant in
    record {
      long = (on_group c).0.0;
      whole = (on_group c).0.1;
      each = omega (arith, c.in_ok-push.ensures.len, so_far.each);
      verdicts =
          more_verdicts c.args.cond.now c.args.table.now c.loop-group.verdicts.items c.push.new.self.items c.match-on_wide.verdict c.in_ok-push.ensures.items so_far.verdicts
          (λ number there same. (on_group c).1 number there (same ∙ so_far.each));
      wide = λ more number there same. (on_wide c).1 number there (omega (arith, more, same));
    }
