-- What a result, or a count, has consumed of a table's segments.
use Rattle.std.specs.Prelude.{◌≡◌, ◌≤◌, ◌+◌, ◌*◌, ℕ, Bool, List, [], IsTrue, length}
use Rattle.std.specs.List.{list_all}
use Rattle.bw_model.specs.declared.column.Column.{Column}
use Rattle.bw_model.specs.declared.query.Query.{Query}
use Rattle.bw_model.specs.Groups.{together}
use Rattle.bw_model.specs.Row.{Value}
use Rattle.bw_model.specs.Selection.{matching_rows}
use Rattle.bw_answer.specs.Answer.{csv_text, is_count_all, meaning}
use Rattle.bw_answer.specs.Progress.{GoesOver, IsOver, query_in}
use Rattle.bw_answer.specs.declared.answer.Answer.{Answer}
use Rattle.bw_memory.specs.MemoryTable.{rows_of, schema_of}
use Rattle.bw_memory.specs.declared.table.MemoryTable.{MemoryTable}
use Rattle.bw_ranges.specs.declared.verdict.Verdict.{Verdict}
use Rattle.bw_run.specs.declared.run.Counts.{Counts}
use Rattle.bw_query.specs.declared.answer_consumer.AnswerConsumer.{AnswerConsumer}
use Rattle.bw_query.specs.declared.match_counter.MatchCounter.{MatchCounter}
use Rattle.bw_query.specs.declared.scan.Scan.{Scan}
use Rattle.bw_query.specs.declared.scan.Scan.TheVariants.{Program}
use Rattle.bw_query.specs.declared.served.Scanned.{Scanned}
use Rattle.bw_query.specs.declared.served.TableText.{TableText}
use Rattle.bw_query.specs.Scan.{IsFor, loads_in, skips_in}
use Rattle.bw_query.specs.Segments.{IsScanOf, groups_left}

-- the counts of a scan's run over a group of rows
pub record IsRunOver (columns : List Column) (scan : Scan) (group : List (List Value))
    (counts : Counts) : Type 0 where
  pub loads : counts.loads ≡ loads_in columns scan group
  pub skips : counts.skips ≡ skips_in columns scan group
  pub bounded : counts.loads + counts.skips ≤ 4096

-- An answer has consumed a group of rows, of which a scan found those that match, with these counts
-- of its run.
pub record AnswersGroup (columns : List Column) (scan : Scan) (old new : Answer)
    (group : List (List Value)) (counts : Counts) : Type 0 where
  pub covers : GoesOver old group new
  pub width : new.width ≡ old.width
  pub rows : new.rows ≡ old.rows + length group
  pub run : IsRunOver columns scan group counts

-- At most one segment a row was scanned, with at most 4,096 loads and skips each. So the sums fit.
pub record AreFew (rows : ℕ) (scanned : Scanned) : Type 0 where
  pub segments : scanned.segments ≤ rows
  pub loads : scanned.loads ≤ 4096 * scanned.segments
  pub skips : scanned.skips ≤ 4096 * scanned.segments

-- an answer can consume what a scan finds in segments of these columns
pub record AnswersColumns (consumer : AnswerConsumer) (columns : List Column) : Type 0 where
  pub scan : IsFor columns (query_in consumer.answer).cond consumer.scan.now
  pub width : consumer.answer.width ≡ length columns
  pub few : AreFew consumer.answer.rows consumer.scanned

-- from the first state to the second an answer has consumed what a scan found in these groups
pub record HasAnswered (start : AnswerConsumer) (columns : List Column)
    (groups : List (List (List Value))) (now : AnswerConsumer) : Type 0 where
  pub scan : now.scan.now ≡ start.scan.now
  pub covers : GoesOver start.answer (together groups) now.answer
  pub counts : IsScanOf columns start.scan.now groups now.scanned

-- the rows that a program selects can be counted in segments of these columns
pub record CountsColumns (counter : MatchCounter) (columns : List Column) : Type 0 where
  pub program : IsFor columns (query_in counter.answer).cond (Program counter.certified.now)
  pub alone : IsTrue (list_all is_count_all (query_in counter.answer).items.items)
  pub fresh : counter.answer.rows ≡ 0
  pub matches : counter.matches ≤ counter.rows
  pub few : AreFew counter.rows counter.scanned

-- from the first state to the second the rows of these groups and the matching ones were counted
pub record HasCounted (start : MatchCounter) (columns : List Column)
    (groups : List (List (List Value))) (now : MatchCounter) : Type 0 where
  pub program : now.certified.now ≡ start.certified.now
  pub answer : now.answer ≡ start.answer
  pub rows : start.rows + length (together groups) ≡ now.rows
  pub matches :
      start.matches + length (matching_rows (query_in start.answer).cond (together groups))
      ≡ now.matches
  pub counts : IsScanOf columns (Program start.certified.now) groups now.scanned

-- For a result that this one was at the start, this is the text over these groups of rows, which
-- were scanned.
pub record IsTextFrom (start : Answer) (scan : Scan) (columns : List Column)
    (groups : List (List (List Value))) (found : TableText) : Type 0 where
  pub counts : IsScanOf columns scan groups found.scanned
  pub is : (names : List (List ℕ)) (query : Query) → IsOver names query [] start
      → found.text.items ≡ csv_text (meaning names query (together groups))

-- For a result that the counter's one was at the start, this is the text over any rows that are as
-- many as the counter began with and those of these groups, and of which as many match. The groups
-- were scanned.
pub record IsTextCounted (start : MatchCounter) (columns : List Column)
    (groups : List (List (List Value))) (found : TableText) : Type 0 where
  pub counts : IsScanOf columns (Program start.certified.now) groups found.scanned
  pub is : (names : List (List ℕ)) (query : Query) → IsOver names query [] start.answer
      → (rows : List (List Value)) → length rows ≡ start.rows + length (together groups)
      → length (matching_rows (query_in start.answer).cond rows)
      ≡ start.matches + length (matching_rows (query_in start.answer).cond (together groups))
      → found.text.items ≡ csv_text (meaning names query rows)

-- For a result that this one was at the start, this is the text over all rows of a table. The
-- segments that aren't left out were scanned.
pub record IsTextOfRest (start : Answer) (scan : Scan) (table : MemoryTable) (counts : Bool)
    (verdicts : List Verdict) (found : TableText) : Type 0 where
  pub scanned : IsScanOf (schema_of table).columns.items scan (groups_left table counts verdicts)
      found.scanned
  pub is : (names : List (List ℕ)) (query : Query) → IsOver names query [] start
      → found.text.items ≡ csv_text (meaning names query (rows_of table))
