-- The rows of the segments that a count leaves out, counted with those of the others.
use Rattle.std.proofs.Common.{◌≡◌, ◌∙◌, ◌+◌, ◌<◌, ◌≤◌, ◌++◌, ◌∷◌, [], ℕ, Bool, true, false, List, ap, arith, length, length-append, refl, sym}
use Rattle.std.specs.Prelude.{if◌then◌else◌}
use Rattle.std.proofs.lemmas.List.{nil_from_length}
use Rattle.std.proofs.lemmas.List.Elements.{filter-append}
use Rattle.bw_model.specs.declared.cond.Cond.{Cond}
use Rattle.bw_model.specs.Cond.{is_match}
use Rattle.bw_model.specs.Groups.{group_size, together}
use Rattle.bw_model.specs.Row.{Value}
use Rattle.bw_model.specs.Selection.{matching_rows}
use Rattle.bw_file.proofs.MemoryAnswers.{together_more}
use Rattle.bw_memory.specs.MemoryTable.{groups_in, meaning_numbered, rows_of, schema_of, segments_in}
use Rattle.bw_memory.specs.Settled.{HaveVerdicts, HoldsOn, verdict_on}
use Rattle.bw_memory.specs.StoredSegments.{stored_groups}
use Rattle.bw_memory.specs.declared.table.MemoryTable.{MemoryTable}
use Rattle.bw_memory.proofs.StoredSegmentLemmas.{groups_more, length-rows}
use Rattle.bw_ranges.specs.declared.verdict.Verdict.{Verdict}
use Rattle.bw_ranges.specs.declared.verdict.Verdict.TheVariants.{NoRow, EveryRow, Open}
use Rattle.bw_query.specs.Segments.{groups_before, groups_left, open_groups}
use Rattle.bw_query.specs.Settled.{is_left_out, is_settled, matches_left_out, rows_left_out, settled_by}
use Rattle.bw_query.specs.declared.settled.Counted.{Counted}
use Rattle.bw_query.proofs.SettledLemmas.{all_open, none_open, settled_is, settled_more, unsettled_more}

-- how many rows a table has
pub rows_is : (table : MemoryTable) → length (rows_of table) ≡ table.rows
unfolding group_size
rows_is table = omega (arith, length-rows table.layout (schema_of table).columns.items table.rows (segments_in table) table.columns.items, table.kept.all)

-- with the rows of the first segments that aren't left out, this many are those of all first segments
pub record IsCountedTo (table : MemoryTable) (verdicts : List Verdict) (number : ℕ) (so_far : Counted) : Type 0 where
  pub rows : so_far.rows + length (together (open_groups table (settled_by true verdicts) number)) ≡ length (together (groups_before table number))
  pub matches : (cond : Cond) → HaveVerdicts cond table verdicts
      → so_far.matches + length (matching_rows cond (together (open_groups table (settled_by true verdicts) number))) ≡ length (matching_rows cond (together (groups_before table number)))
  pub among : so_far.matches ≤ so_far.rows

-- the matching rows that are counted are those of a segment that is left out
matches_of : (cond : Cond) (rows : List (List Value)) (verdict : Verdict) (count : ℕ) → count ≡ length rows → HoldsOn cond rows verdict
    → matches_left_out verdict count ≡ (if is_left_out true verdict then length (matching_rows cond rows) else 0)
matches_of cond rows NoRow count is none = sym (ap length none)
matches_of cond rows EveryRow count is each = is ∙ sym (ap length each)
matches_of cond rows Open count is any = refl

module _ (table : MemoryTable) (verdicts : List Verdict) where
  -- no segment so far
  pub counted_none : (so_far : Counted) → so_far.rows ≡ 0 → so_far.matches ≡ 0 → IsCountedTo table verdicts 0 so_far
  unfolding stored_groups
  counted_none so_far rows matches = record {
    rows = omega (arith, rows, ap (λ (groups : List (List (List Value))). length (together groups)) (none_open table (settled_by true verdicts)));
    matches = λ cond have. omega (arith, matches, ap (λ (groups : List (List (List Value))). length (matching_rows cond (together groups))) (none_open table (settled_by true verdicts)));
    among = omega (arith, rows, matches);
  }

  -- a measure of rows, summed up over one segment more
  module _ (measure : List (List Value) → ℕ) (adds : (first second : List (List Value)) → measure (first ++ second) ≡ measure first + measure second) (number : ℕ) where
    measured_more : (so_far more : ℕ) → more ≡ (if is_settled (settled_by true verdicts) number then measure (meaning_numbered table number).rows else 0)
        → so_far + measure (together (open_groups table (settled_by true verdicts) number)) ≡ measure (together (groups_before table number))
        → (so_far + more) + measure (together (open_groups table (settled_by true verdicts) (number + 1))) ≡ measure (together (groups_before table (number + 1)))
    measured_more so_far more is before = by (is_settled (settled_by true verdicts) number) refl is
      where
        of_groups : List (List (List Value)) → ℕ
        of_groups groups = measure (together groups)

        one : (groups : List (List (List Value))) → of_groups (groups ++ (meaning_numbered table number).rows ∷ []) ≡ of_groups groups + measure (meaning_numbered table number).rows
        one groups = ap measure (together_more groups (meaning_numbered table number).rows) ∙ adds (together groups) (meaning_numbered table number).rows

        all : of_groups (groups_before table (number + 1)) ≡ of_groups (groups_before table number) + measure (meaning_numbered table number).rows
        all = ap of_groups (groups_more table.layout (schema_of table).columns.items table.rows number table.columns.items) ∙ one (groups_before table number)

        by : (b : Bool) → is_settled (settled_by true verdicts) number ≡ b → more ≡ (if b then measure (meaning_numbered table number).rows else 0)
            → (so_far + more) + of_groups (open_groups table (settled_by true verdicts) (number + 1)) ≡ of_groups (groups_before table (number + 1))
        by true e same = omega (arith, before, same, all, ap of_groups (settled_more table (settled_by true verdicts) number e))
        by false e same =
            omega (arith, before, same, all, ap of_groups (unsettled_more table (settled_by true verdicts) number e) ∙ one (open_groups table (settled_by true verdicts) number))

  pub counted_more : (number count : ℕ) (so_far now : Counted) → number < segments_in table → count ≡ length (meaning_numbered table number).rows → IsCountedTo table verdicts number so_far
      → now.rows ≡ so_far.rows + rows_left_out (verdict_on verdicts number) count → now.matches ≡ so_far.matches + matches_left_out (verdict_on verdicts number) count → now.matches ≤ now.rows
      → IsCountedTo table verdicts (number + 1) now
  counted_more number count so_far now there is before rows matches among =
      let group = (meaning_numbered table number).rows in
      let verdict = verdict_on verdicts number in
      let settled : is_left_out true verdict ≡ is_settled (settled_by true verdicts) number = sym (settled_is true verdicts number) in
      let is_rows : rows_left_out verdict count ≡ (if is_settled (settled_by true verdicts) number then length group else 0) =
      ap (λ (n : ℕ). if is_left_out true verdict then n else 0) is ∙ ap (λ (b : Bool). if b then length group else 0) settled in
      record {
        rows = ap (λ (n : ℕ). n + length (together (open_groups table (settled_by true verdicts) (number + 1)))) rows
            ∙ measured_more length length-append number so_far.rows (rows_left_out verdict count) is_rows before.rows;
        matches = λ cond have.
            let measure : List (List Value) → ℕ = λ those. length (matching_rows cond those) in
            let adds : (first second : List (List Value)) → measure (first ++ second) ≡ measure first + measure second =
            λ first second. ap length (filter-append (is_match cond) first second) ∙ length-append (matching_rows cond first) (matching_rows cond second) in
            let is_matches : matches_left_out verdict count ≡ (if is_settled (settled_by true verdicts) number then measure group else 0) =
            matches_of cond group verdict count is (have number there) ∙ ap (λ (b : Bool). if b then measure group else 0) settled in
            ap (λ (n : ℕ). n + measure (together (open_groups table (settled_by true verdicts) (number + 1)))) matches
            ∙ measured_more measure adds number so_far.matches (matches_left_out verdict count) is_matches (before.matches cond have);
        among = among;
      }

  -- with one segment more they are no more than the table's
  pub counted_within : (number count : ℕ) (so_far : Counted) → count ≡ length (meaning_numbered table number).rows → IsCountedTo table verdicts number so_far → so_far.rows + count ≤ table.rows
  counted_within number count so_far is before =
      let groups = groups_before table number in
      let rows = (meaning_numbered table number).rows in
      let columns = (schema_of table).columns.items in
      let more = ap (λ (those : List (List (List Value))). length (together those)) (groups_more table.layout columns table.rows number table.columns.items) ∙ ap length (together_more groups rows)
      ∙ length-append (together groups) rows in
      omega (arith, before.rows, is, more, length-rows table.layout columns table.rows (number + 1) table.columns.items)

-- without verdicts no group is left out
pub all_left : (table : MemoryTable) (counts : Bool) (verdicts : List Verdict) → length verdicts ≡ 0 → groups_left table counts verdicts ≡ groups_in table
all_left table counts verdicts none = ap (groups_left table counts) (nil_from_length verdicts none) ∙ all_open table (segments_in table)
