-- The columns of a query are read one after another; and the text over the segments that aren't settled.
use Rattle.std.proofs.Common.{◌≡◌, ◌∙◌, sym, ap, subst, ℕ, ◌+◌, ◌-◌, ◌≤◌, Bool, true, false, List, [], Option, Result, Ok, Err, length, inl, inr, refl, arith}
use Rattle.std.specs.List.{list_all}
use Rattle.std.specs.Result.{IfOk}
use Rattle.std.proofs.lemmas.Bool.{cases_eq}
use Rattle.std.specs.Io.KnownBytes.{Appends}
use Rattle.bw_model.specs.declared.column.Column.{Column}
use Rattle.bw_model.specs.declared.fault.Fault.{Fault}
use Rattle.bw_model.specs.declared.query.Query.{Query}
use Rattle.bw_model.specs.declared.schema.Schema.{Schema}
use Rattle.bw_model.specs.Column.{names_of}
use Rattle.bw_model.specs.Fault.{is_memory}
use Rattle.bw_model.specs.Groups.{groups_of, together}
use Rattle.bw_model.specs.Row.{Value}
use Rattle.bw_model.specs.Selection.{matching_rows}
use Rattle.bw_answer.specs.Answer.{csv_text, is_count_all, meaning}
use Rattle.bw_answer.specs.Progress.{IsOver, query_in}
use Rattle.bw_answer.specs.declared.answer.Answer.{Answer}
use Rattle.bw_memory.specs.ColumnStore.{ColumnSource, HasColumn, HasColumnsBefore, HasRows, IsTableOf, columns_of, in_file, in_memory}
use Rattle.bw_memory.specs.MemoryTable.{groups_in, rows_of, schema_of, segments_in}
use Rattle.bw_memory.specs.Settled.{HasNoVerdicts, HaveVerdicts}
use Rattle.bw_memory.specs.declared.table.MemoryTable.{MemoryTable}
use Rattle.bw_query.specs.NamedColumns.{is_named_by}
use Rattle.bw_query.specs.ProgramChoice.{IsServedAmong}
use Rattle.bw_ranges.specs.declared.verdict.Verdict.{Verdict}
use Rattle.bw_report.specs.declared.served.By.{By}
use Rattle.bw_query.specs.Consumers.{IsTextCounted, IsTextFrom, IsTextOfRest}
use Rattle.bw_query.specs.Segments.{GivesText, IsScanOf, IsTextOver, groups_left}
use Rattle.bw_query.specs.Served.{finder_of}
use Rattle.bw_query.specs.Settled.{only_counts}
use Rattle.bw_query.specs.StoreAnswer.{AnswersStore, IsRest, IsStoreAnswer, SettlesOf, StoreText}
use Rattle.bw_query.specs.declared.match_counter.MatchCounter.{MatchCounter}
use Rattle.bw_query.specs.declared.scan.Scan.{Scan}
use Rattle.bw_query.specs.declared.scan.Scan.TheVariants.{Program, Rows}
use Rattle.bw_query.specs.declared.served.Scanned.{Scanned}
use Rattle.bw_query.specs.declared.served.StoreServed.{StoreServed}
use Rattle.bw_query.specs.declared.served.TableText.{TableText}
use Rattle.bw_query.proofs.MemoryExits.{TextOfTable}
use Rattle.bw_query.proofs.SettledLemmas.{all_open, count_groups, open_rest, rest_count, rest_matches, same_meaning}

-- the columns of a source are those of its table
pub columns_same : (source : ColumnSource) (table : MemoryTable) → IsTableOf source table → length (columns_of source) ≡ length (schema_of table).columns.items
columns_same (in_memory whole) table is = ap (λ (t : MemoryTable). length (schema_of t).columns.items) (sym is)
columns_same (in_file known header) table is = ap (λ (s : Schema). length s.columns.items) (sym is.schema)

module _ (source : ColumnSource) (read : ℕ → Bool) where
  pub none_before : (table : MemoryTable) → IsTableOf source table → HasColumnsBefore source read table 0
  none_before table is = record { is = is; columns = λ column lt. absurd (omega (arith, lt)) }

  pub passed_before : (table : MemoryTable) (count : ℕ) → read count ≡ false → HasColumnsBefore source read table count → HasColumnsBefore source read table (count + 1)
  passed_before table count un has = record {
    is = has.is;
    columns = λ column lt needed. elim (cases_eq column count) [
      | inl same ↦ absurd (let e : true ≡ false = sym needed ∙ ap read same ∙ un in cc e)
      | inr off ↦ has.columns column (omega (arith, lt, off)) needed
    ];
  }

  pub added_before : (old new : MemoryTable) (count : ℕ) → HasColumnsBefore source read old count → IsTableOf source new → HasColumn source new count
      → ((other : ℕ) → HasColumn source old other → HasColumn source new other) → HasColumnsBefore source read new (count + 1)
  added_before old new count has is one kept = record {
    is = is;
    columns = λ column lt needed. elim (cases_eq column count) [
      | inl same ↦ subst (HasColumn source new) (sym same) one
      | inr off ↦ kept column (has.columns column (omega (arith, lt, off)) needed)
    ];
  }

-- and those before fewer columns
pub fewer_before : (source : ColumnSource) (read : ℕ → Bool) (table : MemoryTable) (count fewer : ℕ) → fewer ≤ count → HasColumnsBefore source read table count → HasColumnsBefore source read table fewer
fewer_before source read table count fewer le has = record { is = has.is; columns = λ column lt needed. has.columns column (omega (arith, lt, le)) needed }

module _ (table : MemoryTable) (verdicts : List Verdict) (columns : List Column) (same : columns ≡ (schema_of table).columns.items) (All : List (List (List Value)) → Type 0) where
  -- the text of a result over the rows of the groups that are left
  pub found_over : (start : Answer) (scan : Scan) → HaveVerdicts (query_in start).cond table verdicts → ((groups : List (List (List Value))) → All groups → groups ≡ groups_left table false verdicts)
      → (found : Result TableText Fault) → IfOk found (GivesText All (IsTextFrom start scan columns)) → IfOk found (IsTextOfRest start scan table false verdicts)
  found_over start scan have are (Err fault) gave = tt
  found_over start scan have are (Ok found) gave =
      let all = are gave.groups gave.all in
      let groups = groups_left table false verdicts in
      let rest = open_rest (query_in start).cond false table verdicts have in
      let matches = rest_matches (query_in start).cond (groups_in table) groups rest.0 rest.1 in
      record {
        scanned = subst (λ (list : List Column). IsScanOf list scan groups found.scanned) same (subst (λ (those : List (List (List Value))). IsScanOf columns scan those found.scanned) all gave.gives.counts);
        is = λ names query over.
            gave.gives.is names query over ∙ ap (λ (those : List (List (List Value))). csv_text (meaning names query (together those))) all
            ∙ ap csv_text (sym (same_meaning names query (rows_of table) (together groups) (rw over.0 at matches)));
      }

  -- the text of a count of them, and of the rows that were counted beforehand
  pub counted_over : (start : MatchCounter) → start.rows + length (together (groups_left table true verdicts)) ≡ length (rows_of table)
      → start.matches + length (matching_rows (query_in start.answer).cond (together (groups_left table true verdicts))) ≡ length (matching_rows (query_in start.answer).cond (rows_of table))
      → ((groups : List (List (List Value))) → All groups → groups ≡ groups_left table true verdicts) → (found : Result TableText Fault)
      → IfOk found (GivesText All (IsTextCounted start columns)) → IfOk found (IsTextOfRest start.answer (Program start.certified.now) table true verdicts)
  counted_over start rows matches are (Err fault) gave = tt
  counted_over start rows matches are (Ok found) gave =
      let all = are gave.groups gave.all in
      let scan = Program start.certified.now in
      let groups = groups_left table true verdicts in
      record {
        scanned = subst (λ (list : List Column). IsScanOf list scan groups found.scanned) same (subst (λ (those : List (List (List Value))). IsScanOf columns scan those found.scanned) all gave.gives.counts);
        is = λ names query over.
            gave.gives.is names query over (rows_of table) (omega (arith, rows, ap (λ (those : List (List (List Value))). length (together those)) all))
            (omega (arith, matches, ap (λ (those : List (List (List Value))). length (matching_rows (query_in start.answer).cond (together those))) all));
      }

module _ (table : MemoryTable) (verdicts : List Verdict) (query : Query) (scan : Scan) where
  -- the text of a query, from that of a result over no rows
  pub text_over : (counts : Bool) → counts ≡ only_counts query (finder_of scan) → (start : Answer) → IsOver (names_of (schema_of table).columns.items) query [] start → (found : Result TableText Fault)
      → IfOk found (IsTextOfRest start scan table counts verdicts) → IfOk found (λ found. IsTextOver table verdicts query scan found.text.items found.scanned)
  text_over counts is start over (Ok found) rest = record {
    counts = subst (λ (b : Bool). IsScanOf (schema_of table).columns.items scan (groups_left table b verdicts) found.scanned) is rest.scanned;
    is = rest.is (names_of (schema_of table).columns.items) query over;
  }
  text_over counts is start over (Err fault) rest = tt

  -- the same of an equal table and equal verdicts
  pub text_here : (other : MemoryTable) (those : List Verdict) (text : List ℕ) (scanned : Scanned) → other ≡ table → those ≡ verdicts
      → IsTextOver other those query scan text scanned → IsTextOver table verdicts query scan text scanned
  text_here other those text scanned t v over =
      subst (λ (list : List Verdict). IsTextOver table list query scan text scanned) v (subst (λ (that : MemoryTable). IsTextOver that those query scan text scanned) t over)

  module _ (text : List ℕ) (scanned : Scanned) (over : IsTextOver table verdicts query scan text scanned) where
    -- no more segments were scanned than the table has, and the others are settled
    pub open_settled : HaveVerdicts query.cond table verdicts
        → (scanned.segments ≤ segments_in table) × IsRest query.cond (only_counts query (finder_of scan)) (groups_of (rows_of table)) (groups_left table (only_counts query (finder_of scan)) verdicts) (segments_in table - scanned.segments)
    open_settled have =
        let counts = only_counts query (finder_of scan) in
        let groups = groups_left table counts verdicts in
        let rest = open_rest query.cond counts table verdicts have in
        let all : length (groups_in table) ≡ segments_in table = count_groups table in
        let left = rest_count query.cond counts (groups_in table) groups rest.0 rest.1 in
        let same : rest.0 ≡ segments_in table - scanned.segments = omega (arith, all, left, over.counts.segments) in (
          omega (arith, all, left, over.counts.segments),
          subst (λ (cut : List (List (List Value))). IsRest query.cond counts cut groups (segments_in table - scanned.segments)) table.cut
              (subst (IsRest query.cond counts (groups_in table) groups) same rest.1),
        )

    -- in a table in memory all segments are scanned
    settles : (source : ColumnSource) → HasNoVerdicts source verdicts → SettlesOf source (segments_in table - scanned.segments)
    settles (in_memory whole) none =
        let same = ap (groups_left table (only_counts query (finder_of scan))) none ∙ all_open table (segments_in table) in
        omega (arith, over.counts.segments, ap length same, count_groups table)
    settles (in_file known header) none = tt

-- without verdicts it is the text over all segments
pub text_of_all : (table : MemoryTable) (query : Query) (scan : Scan) (found : Result TableText Fault) → IfOk found (λ found. IsTextOver table [] query scan found.text.items found.scanned)
    → IfOk found (λ found. TextOfTable table query scan found.text.items found.scanned)
text_of_all table query scan (Ok found) over = record {
  groups = groups_in table;
  all = refl;
  counts = subst (λ (those : List (List (List Value))). IsScanOf (schema_of table).columns.items scan those found.scanned) (all_open table (segments_in table)) over.counts;
  is = over.is;
}
text_of_all table query scan (Err fault) over = tt

module _ (asks : Schema → Result Query Fault → Type 0) (schema : Schema) (source : ColumnSource) where
  -- out of memory is an error at any time
  pub store_memory : (fault : Fault) → is_memory fault ≡ true → IsStoreAnswer asks schema source (Err fault)
  store_memory fault memory = λ other. absurd (let e : true ≡ false = sym memory ∙ other in cc e)

  -- the text over a table that has the columns which the query names
  module _ (table : MemoryTable) (verdicts : List Verdict) (query : Query) (same : schema_of table ≡ schema) (asked : asks schema (Ok query)) (have : HasRows source (is_named_by query) (rows_of table)) where
    meaning_of : (text : List ℕ) → text ≡ csv_text (meaning (names_of (schema_of table).columns.items) query (rows_of table)) → text ≡ csv_text (meaning (names_of schema.columns.items) query (rows_of table))
    meaning_of text is = is ∙ ap (λ (s : Schema). csv_text (meaning (names_of s.columns.items) query (rows_of table))) same

    pub store_text : (scan : Scan) (text : List ℕ) (scanned : Scanned) → IsTextOver table verdicts query scan text scanned → StoreText asks schema source text
    store_text scan text scanned over = record { rows = rows_of table; found = record { query = query; asked = asked; is = meaning_of text over.is }; have = have }

    pub store_served : HaveVerdicts query.cond table verdicts → (files : List (List ℕ)) (old new : Option (List ℕ)) (scan : Scan) (text : List ℕ) (scanned : Scanned) (how : StoreServed)
        → IsTextOver table verdicts query scan text scanned → Appends old new text → HasNoVerdicts source verdicts → how.settled ≡ segments_in table - scanned.segments
        → how.served.by ≡ finder_of scan → IsServedAmong files (schema_of table) query (groups_left table (only_counts query (finder_of scan)) verdicts) how.served → AnswersStore asks schema source files old new how
    store_served holds files old new scan text scanned how over took none count by serves =
        let groups = groups_left table (only_counts query (finder_of scan)) verdicts in
        record {
          rows = rows_of table;
          found = record { query = query; asked = asked; text = subst (Appends old new) (meaning_of text over.is) took };
          have = have;
          serves = record {
            rest = groups;
            settled = subst (λ (found : By). IsRest query.cond (only_counts query found) (groups_of (rows_of table)) groups how.settled) (sym by)
                (subst (IsRest query.cond (only_counts query (finder_of scan)) (groups_of (rows_of table)) groups) (sym count) (open_settled table verdicts query scan text scanned over holds).1);
            from = subst (SettlesOf source) (sym count) (settles table verdicts query scan text scanned over source none);
            serves = subst (λ (s : Schema). IsServedAmong files s query groups how.served) same serves;
          };
        }
