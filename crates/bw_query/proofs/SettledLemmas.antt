-- A scan that passes over settled segments: the groups of rows that come, and the rows that match.
use Rattle.std.proofs.Common.{◌≡◌, ◌∙◌, ◌+◌, ◌-◌, ◌/◌, ◌<◌, ◌≤◌, ◌++◌, ◌∷◌, [], ℕ, zero, suc, Bool, true}
use Rattle.std.proofs.Common.{false, List, ap, ap₂, append-nil, get_or, append_assoc, arith, length, length-append, map, refl}
use Rattle.std.proofs.Common.{subst, sym}
use Rattle.std.specs.Prelude.{if◌then◌else◌}
use Rattle.std.specs.List.{filter_map, flat_map, range_with_len}
use Rattle.std.proofs.lemmas.List.Elements.{filter-append}
use Rattle.std.proofs.lemmas.List.FromFn.{length-map-range_with_len}
use Rattle.bw_model.specs.declared.cond.Cond.{Cond}
use Rattle.bw_model.specs.declared.query.Query.{Query}
use Rattle.bw_model.specs.Cond.{is_match}
use Rattle.bw_model.specs.Groups.{together}
use Rattle.bw_model.specs.Row.{Value}
use Rattle.bw_model.specs.Selection.{matching_rows}
use Rattle.bw_model.specs.Total.{total}
use Rattle.bw_answer.specs.Answer.{field_of, heading_of, lists_rows, meaning, value_text}
use Rattle.bw_file.proofs.MemoryAnswers.{together_more}
use Rattle.bw_memory.specs.MemoryTable.{groups_in, meaning_numbered, schema_of, segments_in}
use Rattle.bw_memory.specs.Settled.{HaveVerdicts, HoldsOn, verdict_on}
use Rattle.bw_memory.specs.StoredSegments.{stored_groups}
use Rattle.bw_memory.specs.declared.table.MemoryTable.{MemoryTable}
use Rattle.bw_memory.proofs.StoredSegmentLemmas.{groups_more, length-rows}
use Rattle.bw_ranges.specs.declared.verdict.Verdict.{Verdict}
use Rattle.bw_ranges.specs.declared.verdict.Verdict.TheVariants.{NoRow, EveryRow, Open}
use Rattle.bw_query.specs.Segments.{groups_before, groups_left, open_group, open_groups}
use Rattle.bw_query.specs.Settled.{is_left_out, is_settled, settled_by}
use Rattle.bw_query.specs.StoreAnswer.{IsRest, counted, keeps, nothing, omits}

-- a list for each number, and for one more
flat_map_next : {A : Type 0} (f : ℕ → List A) (first count : ℕ) → flat_map f (range_with_len first (suc count)) ≡ flat_map f (range_with_len first count) ++ f (first + count)
flat_map_next f first zero = append-nil (f first) ∙ ap f (let same : first ≡ first + 0 = omega arith in same)
flat_map_next {A} f first (suc count) =
    let there : (first + 1) + count ≡ first + suc count = omega arith in
    ap (λ (rest : List A). f first ++ rest) (flat_map_next f (first + 1) count ∙ ap (λ (n : ℕ). flat_map f (range_with_len (first + 1) count) ++ f n) there)
    ∙ sym (append_assoc (f first) (flat_map f (range_with_len (first + 1) count)) (f (first + suc count)))

module _ (table : MemoryTable) (settled : List Bool) where
  -- no segment came so far
  pub none_open : open_groups table settled 0 ≡ []
  unfolding open_groups
  none_open = refl

  pub begins : (number : ℕ) → number ≡ 0 → open_groups table settled number ≡ []
  begins number is = ap (open_groups table settled) is ∙ none_open

  -- one segment more
  open_more : (number : ℕ) → open_groups table settled (number + 1) ≡ open_groups table settled number ++ open_group table settled number
  unfolding open_groups
  open_more number =
      ap (open_groups table settled) (let next : number + 1 ≡ suc number = omega arith in next) ∙ flat_map_next (open_group table settled) 0 number
      ∙ ap (λ (n : ℕ). open_groups table settled number ++ open_group table settled n) (let same : 0 + number ≡ number = omega arith in same)

  -- one that is settled
  pub settled_more : (number : ℕ) → is_settled settled number ≡ true → open_groups table settled (number + 1) ≡ open_groups table settled number
  settled_more number is =
      let none : open_group table settled number ≡ [] = ap (λ (b : Bool). if b then [] else (meaning_numbered table number).rows ∷ []) is in
      open_more number ∙ ap (λ (more : List (List (List Value))). open_groups table settled number ++ more) none ∙ append-nil (open_groups table settled number)

  -- one that isn't
  pub unsettled_more : (number : ℕ) → is_settled settled number ≡ false
      → open_groups table settled (number + 1) ≡ open_groups table settled number ++ (meaning_numbered table number).rows ∷ []
  unsettled_more number is =
      let one : open_group table settled number ≡ (meaning_numbered table number).rows ∷ [] = ap (λ (b : Bool). if b then [] else (meaning_numbered table number).rows ∷ []) is in
      open_more number ∙ ap (λ (more : List (List (List Value))). open_groups table settled number ++ more) one

  -- no group comes of settled segments
  settled_all : (number count : ℕ) → ((other : ℕ) → number ≤ other → other < number + count → is_settled settled other ≡ true)
      → open_groups table settled (number + count) ≡ open_groups table settled number
  settled_all number zero all = ap (open_groups table settled) (let same : number + 0 ≡ number = omega arith in same)
  settled_all number (suc count) all =
      let next : number + suc count ≡ (number + count) + 1 = omega arith in
      ap (open_groups table settled) next ∙ settled_more (number + count) (all (number + count) (omega arith) (omega arith))
      ∙ settled_all number count (λ other from within. all other from (omega (arith, within)))

  pub passed_over : (number next : ℕ) → number ≤ next → ((other : ℕ) → number ≤ other → other < next → is_settled settled other ≡ true)
      → open_groups table settled next ≡ open_groups table settled number
  passed_over number next le all =
      let same : number + (next - number) ≡ next = omega (arith, le) in
      ap (open_groups table settled) (sym same) ∙ settled_all number (next - number) (λ other from within. all other from (omega (arith, within, same)))

  -- the rows of the groups that came are no more than those of all groups before
  open_step : (b : Bool) (number : ℕ) → is_settled settled number ≡ b → length (together (open_groups table settled number)) ≤ length (together (groups_before table number))
      → length (together (open_groups table settled (number + 1))) ≤ length (together (groups_before table (number + 1)))
  open_step b number is le =
      let rows = (meaning_numbered table number).rows in
      let all : length (together (groups_before table (number + 1))) ≡ length (together (groups_before table number)) + length rows =
      ap (λ (groups : List (List (List Value))). length (together groups)) (groups_more table.layout (schema_of table).columns.items table.rows number table.columns.items)
      ∙ ap length (together_more (groups_before table number) rows) ∙ length-append (together (groups_before table number)) rows in
      by b is all
    where
      by : (b : Bool) → is_settled settled number ≡ b
          → length (together (groups_before table (number + 1))) ≡ length (together (groups_before table number)) + length (meaning_numbered table number).rows
          → length (together (open_groups table settled (number + 1))) ≤ length (together (groups_before table (number + 1)))
      by true e all = omega (arith, le, all, ap (λ (groups : List (List (List Value))). length (together groups)) (settled_more number e))
      by false e all =
          let rows = (meaning_numbered table number).rows in
          omega (
            arith,
            le,
            all,
            ap (λ (groups : List (List (List Value))). length (together groups)) (unsettled_more number e)
                ∙ ap length (together_more (open_groups table settled number) rows) ∙ length-append (together (open_groups table settled number)) rows,
          )

  open_rows_le : (number : ℕ) → length (together (open_groups table settled number)) ≤ length (together (groups_before table number))
  open_rows_le zero = let none : length (together (open_groups table settled 0)) ≡ 0 = ap (λ (groups : List (List (List Value))). length (together groups)) none_open in omega (arith, none)
  open_rows_le (suc number) =
      let next : suc number ≡ number + 1 = omega arith in
      subst (λ (n : ℕ). length (together (open_groups table settled n)) ≤ length (together (groups_before table n))) (sym next)
      (open_step (is_settled settled number) number refl (open_rows_le number))

  pub open_rows : (number : ℕ) → length (together (open_groups table settled number)) ≤ table.rows
  open_rows number = omega (arith, length-rows table.layout (schema_of table).columns.items table.rows number table.columns.items, open_rows_le number)

  -- and no more than those that came later
  grow_by : (number more : ℕ) → length (together (open_groups table settled number)) ≤ length (together (open_groups table settled (number + more)))
  grow_by number zero = omega (arith, ap (λ (n : ℕ). length (together (open_groups table settled n))) (let same : number + 0 ≡ number = omega arith in same))
  grow_by number (suc more) =
      let next : number + suc more ≡ (number + more) + 1 = omega arith in
      omega (arith, grow_by number more, one_grows (is_settled settled (number + more)) (number + more) refl, ap (λ (n : ℕ). length (together (open_groups table settled n))) next)
    where
      one_grows : (b : Bool) (n : ℕ) → is_settled settled n ≡ b → length (together (open_groups table settled n)) ≤ length (together (open_groups table settled (n + 1)))
      one_grows true n e = omega (arith, ap (λ (groups : List (List (List Value))). length (together groups)) (settled_more n e))
      one_grows false n e =
          let rows = (meaning_numbered table n).rows in
          omega (
            arith,
            ap (λ (groups : List (List (List Value))). length (together groups)) (unsettled_more n e) ∙ ap length (together_more (open_groups table settled n) rows)
                ∙ length-append (together (open_groups table settled n)) rows,
          )

  pub open_grow : (number later : ℕ) → number ≤ later → length (together (open_groups table settled number)) ≤ length (together (open_groups table settled later))
  open_grow number later le =
      let same : number + (later - number) ≡ later = omega (arith, le) in
      subst (λ (n : ℕ). length (together (open_groups table settled number)) ≤ length (together (open_groups table settled n))) same (grow_by number (later - number))

  -- one segment more, after settled ones
  module _ (before number : ℕ) (passed : open_groups table settled number ≡ open_groups table settled before) where
    pub open_rows_more : is_settled settled number ≡ false
        → length (together (open_groups table settled (number + 1))) ≡ length (together (open_groups table settled before)) + length (meaning_numbered table number).rows
    open_rows_more is =
        let rows = (meaning_numbered table number).rows in
        let groups = open_groups table settled number in
        ap (λ (those : List (List (List Value))). length (together those)) (unsettled_more number is) ∙ ap length (together_more groups rows) ∙ length-append (together groups) rows
        ∙ ap (λ (those : List (List (List Value))). length (together those) + length rows) passed

    module _ (first : MemoryTable) (flags : List Bool) (groups : List (List (List Value))) (t : table ≡ first) (f : settled ≡ flags) (so_far : groups ≡ open_groups first flags before) where
      -- the same of a table and flags that are equal
      came : groups ≡ open_groups table settled number
      came = so_far ∙ sym (ap₂ (λ (other : MemoryTable) (others : List Bool). open_groups other others before) t f) ∙ sym passed

      pub open_after : is_settled settled number ≡ false → (table ≡ first) × (settled ≡ flags) × (groups ++ (meaning_numbered table number).rows ∷ [] ≡ open_groups first flags (number + 1))
      open_after is = (
        t,
        f,
        ap (λ (those : List (List (List Value))). those ++ (meaning_numbered table number).rows ∷ []) came ∙ sym (unsettled_more number is)
            ∙ ap₂ (λ (other : MemoryTable) (others : List Bool). open_groups other others (number + 1)) t f,
      )

      pub open_end : number ≡ segments_in table → groups ≡ open_groups first flags (segments_in first)
      open_end last =
          came ∙ ap (open_groups table settled) last ∙ ap₂ (λ (other : MemoryTable) (others : List Bool). open_groups other others (segments_in other)) t f

-- none is settled: all groups come
pub all_open : (table : MemoryTable) (count : ℕ) → open_groups table [] count ≡ groups_before table count
unfolding open_groups stored_groups
all_open table count = each 0 count
  where
    each : (first most : ℕ) → flat_map (open_group table []) (range_with_len first most) ≡ map (λ (number : ℕ). (meaning_numbered table number).rows) (range_with_len first most)
    each first zero = refl
    each first (suc most) = ap (λ (groups : List (List (List Value))). (meaning_numbered table first).rows ∷ groups) (each (first + 1) most)

-- how many groups a table has
pub count_groups : (table : MemoryTable) → length (groups_in table) ≡ segments_in table
unfolding stored_groups
count_groups table = length-map-range_with_len (λ (number : ℕ). (meaning_numbered table number).rows) 0 (segments_in table)

-- the rows that match are those of the groups that are left, unless they are only counted
pub rest_matches : (cond : Cond) (groups rest : List (List (List Value))) (count : ℕ) → IsRest cond false groups rest count
    → matching_rows cond (together groups) ≡ matching_rows cond (together rest)
rest_matches cond _ _ _ nothing = refl
rest_matches cond _ _ _ (keeps {groups} {rest} {count} group is) =
    filter-append (is_match cond) group (together groups) ∙ ap (λ (rows : List (List Value)). matching_rows cond group ++ rows) (rest_matches cond groups rest count is)
    ∙ sym (filter-append (is_match cond) group (together rest))
rest_matches cond _ _ _ (omits {groups} {rest} {count} group without is) =
    filter-append (is_match cond) group (together groups) ∙ ap (λ (rows : List (List Value)). rows ++ matching_rows cond (together groups)) without
    ∙ rest_matches cond groups rest count is
rest_matches cond _ _ _ (counted {groups} {rest} {count} group alone each is) = absurd (cc alone)

-- the meaning of a query depends on the rows that match alone
pub same_meaning : (names : List (List ℕ)) (query : Query) (rows other : List (List Value)) → matching_rows query.cond rows ≡ matching_rows query.cond other
    → meaning names query rows ≡ meaning names query other
unfolding meaning
same_meaning names query rows other same =
    ap (λ (those : List (List Value)). map (heading_of names) query.items.items ∷ (if lists_rows query.items.items then map (λ row. filter_map (field_of row) query.items.items) those
    else map (λ item. value_text (total item those)) query.items.items ∷ [])) same

-- how many groups are left
pub rest_count : (cond : Cond) (counts : Bool) (groups rest : List (List (List Value))) (count : ℕ) → IsRest cond counts groups rest count → length groups ≡ length rest + count
rest_count cond counts _ _ _ nothing = refl
rest_count cond counts _ _ _ (keeps {groups} {rest} {count} group is) = omega (arith, rest_count cond counts groups rest count is)
rest_count cond counts _ _ _ (omits {groups} {rest} {count} group without is) = omega (arith, rest_count cond counts groups rest count is)
rest_count cond counts _ _ _ (counted {groups} {rest} {count} group alone each is) = omega (arith, rest_count cond counts groups rest count is)

-- a verdict on a group settles its segments
pub settled_is : (counts : Bool) (verdicts : List Verdict) (number : ℕ) → is_settled (settled_by counts verdicts) number ≡ is_left_out counts (verdict_on verdicts number)
settled_is counts verdicts number = each verdicts (number / 4)
  where
    each : (those : List Verdict) (group : ℕ) → get_or (map (is_left_out counts) those) group false ≡ is_left_out counts (get_or those group Open)
    each [] group = refl
    each (verdict ∷ those) zero = refl
    each (verdict ∷ those) (suc group) = each those group

-- the groups of the segments that aren't left out are what is left of all groups
pub open_rest : (cond : Cond) (counts : Bool) (table : MemoryTable) (verdicts : List Verdict) → HaveVerdicts cond table verdicts
    → (count : ℕ) × IsRest cond counts (groups_in table) (groups_left table counts verdicts) count
unfolding open_groups stored_groups
open_rest cond counts table verdicts have = from 0 (segments_in table) (λ number le lt. have number (omega (arith, lt)))
  where
    from : (first most : ℕ) → ((number : ℕ) → first ≤ number → number < first + most → HoldsOn cond (meaning_numbered table number).rows (verdict_on verdicts number))
        → (count : ℕ)
        × IsRest cond counts (map (λ (number : ℕ). (meaning_numbered table number).rows) (range_with_len first most)) (flat_map (open_group table (settled_by counts verdicts)) (range_with_len first most)) count
    from first zero have = (0, nothing)
    from first (suc most) have =
        let later = from (first + 1) most (λ number le lt. have number (omega (arith, le)) (omega (arith, lt))) in
        by (verdict_on verdicts first) (settled_is counts verdicts first) (have first (omega arith) (omega arith)) later.0 later.1
      where
        matching : (b : Bool) → counts ≡ b → is_settled (settled_by counts verdicts) first ≡ counts → matching_rows cond (meaning_numbered table first).rows ≡ (meaning_numbered table first).rows → (count : ℕ)
            → IsRest cond counts (map (λ (number : ℕ). (meaning_numbered table number).rows) (range_with_len (first + 1) most)) (flat_map (open_group table (settled_by counts verdicts)) (range_with_len (first + 1) most)) count
            → (count : ℕ)
            × IsRest cond counts (map (λ (number : ℕ). (meaning_numbered table number).rows) (range_with_len first (suc most))) (flat_map (open_group table (settled_by counts verdicts)) (range_with_len first (suc most))) count
        matching true b e each count later = let settled = e ∙ b in (count + 1, rw settled (counted (meaning_numbered table first).rows b each later))
        matching false b e each count later = let is_open = e ∙ b in (count, rw is_open (keeps (meaning_numbered table first).rows later))

        by : (verdict : Verdict) → is_settled (settled_by counts verdicts) first ≡ is_left_out counts verdict → HoldsOn cond (meaning_numbered table first).rows verdict → (count : ℕ)
            → IsRest cond counts (map (λ (number : ℕ). (meaning_numbered table number).rows) (range_with_len (first + 1) most)) (flat_map (open_group table (settled_by counts verdicts)) (range_with_len (first + 1) most)) count
            → (count : ℕ)
            × IsRest cond counts (map (λ (number : ℕ). (meaning_numbered table number).rows) (range_with_len first (suc most))) (flat_map (open_group table (settled_by counts verdicts)) (range_with_len first (suc most))) count
        by NoRow e without count later = (count + 1, rw e (omits (meaning_numbered table first).rows without later))
        by EveryRow e each count later = matching counts refl e each count later
        by Open e any count later = (count, rw e (keeps (meaning_numbered table first).rows later))
