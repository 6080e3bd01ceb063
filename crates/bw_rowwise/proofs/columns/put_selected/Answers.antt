-- The last row that is selected of those that are left.
use Rattle.std.proofs.Common.{◌≡◌, ◌≢◌, ◌∙◌, refl, sym, true≢false, arith, inl, inr}
use Rattle.std.proofs.lemmas.Bool.{cases_lt}
use Rattle.bw_model.specs.Groups.{group_size}
use Rattle.bw_model.specs.Row.{value_in}
use Rattle.bw_rowwise.specs.Columns.{row_at, value_at}
use Rattle.bw_rowwise.proofs.columns.put_selected.Goals as goal

pub last_between-requires : goal.last_between-requires
unfolding group_size
last_between-requires g c = (omega arith, omega (arith, c.loop-last.invariant.within, (g.met.S.Segment.is_group c.args.segment.now).within_limit))

pub put-requires : goal.put-requires
unfolding group_size
put-requires g c = omega (arith, c.in-Some.ensures.last.to, c.loop-last.invariant.within, (g.met.S.Segment.is_group c.args.segment.now).within_limit)

pub loop-last-init : goal.loop-last-init
loop-last-init g c = record {
  within = omega (arith, c.rows_in-row.ensures.count);
  put = λ lane from to one. absurd (omega (arith, c.rows_in-row.ensures.count, from, to));
}

pub loop-last-preserved : goal.loop-last-preserved
unfolding group_size
loop-last-preserved g c =
    let rows = (g.S.Segment.meaning c.args.segment.now).rows in
    let here = c.in-Some.last in
    let so_far = c.loop-last.invariant in
    let last = c.in-Some.ensures.last in
    let few = (g.met.S.Segment.is_group c.args.segment.now).within_limit in
    record {
      within = omega (arith, last.to, so_far.within);
      put = λ lane from to one. elim (cases_lt here lane) [
        | inl past ↦ elim (cases_lt lane c.loop-last.row) [
          | inl before ↦ absurd (true≢false (sym one ∙ last.clear lane past before))
          | inr kept ↦
              let apart : lane ≢ here = λ e. omega (arith, e, past) in
              c.put.ensures.others lane (omega (arith, to, few)) apart ∙ so_far.put lane kept to one
        ]
        | inr upto ↦ let same : lane ≡ here = omega (arith, from, upto) in rw same (c.put.ensures.put ∙ c.value.ensures)
      ];
    }

pub returns : goal.returns
returns g c = λ lane to one. elim (cases_lt lane c.loop-last.row) [
  | inl before ↦ absurd (true≢false (sym one ∙ c.in_default.ensures.none refl lane (omega arith) before))
  | inr kept ↦ c.loop-last.invariant.put lane kept to one
]
