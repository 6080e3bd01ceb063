-- Each turn takes one row more.
use Rattle.std.proofs.Common.{◌∙◌, ◌+◌, [], ◌∷◌, ap, refl, sym, arith, length, replicate}
use Rattle.bw_csv.specs.Bare.{bare_rows}
use Rattle.bw_csv.specs.Rest.{to_come}
use Rattle.bw_csv.specs.Rule.{any_number}
use Rattle.std.proofs.lemmas.List.{length-replicate}
use Rattle.bw_csv.proofs.BareLemmas.{row_wide}
use Rattle.bw_csv.proofs.RowLemmas.{rows_from-end, rows_from-next}
use Rattle.bw_csv.proofs.Passed.{passed-next, passed-stops}
use Rattle.bw_csv_calls.specs.ColumnStats.{with_records}
use Rattle.bw_csv_calls.proofs.ColumnStatsLemmas.{length-with_values, records-end, records-next}
use Rattle.bw_csv_calls.proofs.schema.take_rows.Goals as goal
use Rattle.bw_model.proofs.ErrLemmas.{err_passed_on}

pub take_values-requires : goal.take_values-requires
take_values-requires c =
    let width = length c.args.columns.now.items in
    let read = rw c.requires.rules at c.in_ok-next_row.ensures in
    let some = read.nonempty c.if-branch.true in
    let wide = row_wide c.rows.number (replicate width any_number) some.0 _ some.2 ∙ length-replicate width any_number in
    rw (c.deref.ensures.value, c.rows.invariant.size) (sym wide)

pub rows-preserved : goal.rows-preserved
rows-preserved c =
    let taken = rw c.deref.ensures.value at c.take_values.ensures in
    let read = rw c.requires.rules at c.in_ok-next_row.ensures in
    let width = length c.args.columns.now.items in
    let rules = replicate width any_number in
    let number = c.rows.number in
    let some = read.nonempty c.if-branch.true in
    let passed = c.rows.invariant.passed in
    record {
      reads = (read.readable c.if-branch.true).0;
      within = omega (arith, (read.readable c.if-branch.true).1);
      size = ap length taken ∙ length-with_values _ _ ∙ c.rows.invariant.size;
      passed = (_, passed-next (bare_rows width) _ passed.0 number _ _ some.0 _ passed.1 some.1 (λ rest. rows_from-next rules number some.0 _ (some.0 ∷ rest) rest refl some.2));
      rest = c.rows.invariant.rest ∙ records-next _ _ _ _ _ _ (rows_from-next rules number some.0 _ _ _ some.1 some.2)
          ∙ ap (λ columns. with_records columns width (number + 1) (to_come c.next_row.new.self)) (sym taken);
    }

pub returns-clause-seen : goal.returns-clause-seen
returns-clause-seen c =
    let read = rw c.requires.rules at c.in_ok-next_row.ensures in
    c.rows.invariant.rest ∙ records-end _ _ _ _ (read.none c.if-branch.false)

pub returns-in_err-next_row-clause-reader : goal.returns-in_err-next_row-clause-reader
returns-in_err-next_row-clause-reader c =
    let passed = c.rows.invariant.passed in
    let width = length c.args.columns.now.items in
    rw (err_passed_on _ c.from_residual.ensures.1) (λ own. passed-stops (bare_rows width) _ passed.0 c.rows.number _ _ passed.1 (rows_from-end (replicate width any_number) c.rows.number [] refl) c.in_err-next_row.ensures.place own)
