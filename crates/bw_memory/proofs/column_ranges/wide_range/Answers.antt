-- One group more is in the range.
use Rattle.std.proofs.Common.{◌≡◌, ◌∙◌, ◌*◌, ◌||◌, ap, subst, true, get_or, arith}
use Rattle.std.proofs.lemmas.List.{get_or_default}
use Rattle.bw_ranges.specs.declared.column_range.ColumnRange.{ColumnRange}
use Rattle.bw_ranges.specs.ColumnRange.{has_value, only_null}
use Rattle.bw_memory.proofs.RangeLemmas.{hull_more, wide_in_group}
use Rattle.bw_memory.proofs.column_ranges.wide_range.Goals as goal

pub loop-group-init : goal.loop-group-init
loop-group-init c =
    let ranges = c.args.ranges.now in
    let first = c.args.number * 16 in
    record {
      from = omega arith;
      has = λ group le lt v has.
          let same : group ≡ first = omega (arith, le, lt) in
          subst (λ (r : ColumnRange). has_value r v ≡ true) (ap (λ i. get_or ranges i only_null) same ∙ get_or_default ranges first only_null _ (omega (arith, c.requires))) has;
    }

pub loop-group-preserved : goal.loop-group-preserved
loop-group-preserved c =
    let so_far = c.loop-group.invariant in
    let ranges = c.args.ranges.now in
    let group = c.loop-group.group in
    let old = c.loop-group.range in
    record {
      from = omega (arith, so_far.from);
      has =
          hull_more ranges (c.args.number * 16) group old c.hull-range.result so_far.has
          (λ v has. c.hull-range.ensures v (subst (λ (r : ColumnRange). (has_value r v || has_value old v) ≡ true) (get_or_default ranges group only_null _ (omega (arith, c.loop-group-test.true, c.requires))) has));
    }

pub returns : goal.returns
returns c = wide_in_group c.args.ranges.now c.args.number c.loop-group.range c.requires (λ group le lt. c.loop-group.invariant.has group le (omega (arith, lt, c.loop-group-test.false)))
