-- What is answered of a file once memory has run out, or by a later read; and groups that come one
-- after the other.
use Rattle.std.proofs.Common.{◌≡◌, ◌∙◌, ℕ, ◌+◌, List, [], ◌∷◌, ◌++◌, true, false, inl, sym, ap}
use Rattle.std.proofs.Common.{append_assoc, arith, append-nil}
use Rattle.bw_model.specs.declared.fault.Fault.{Fault}
use Rattle.bw_model.specs.Fault.{no_memory}
use Rattle.bw_model.specs.Groups.{together}
use Rattle.bw_model.specs.Row.{Value}
use Rattle.bw_io.specs.Source.{is_read_fault, is_input_fault, failed_reads}
use Rattle.bw_file.specs.Reading.{State, HasConsumed}
use Rattle.bw_model.specs.declared.schema.Schema.{Schema}
use Rattle.bw_file.specs.AnySegment.{any_meaning}
use Rattle.bw_file.specs.declared.segments.AnySegment.{AnySegment}
use Rattle.bw_file.specs.TableReader.{AnswersFault, FrontsEndEarly, IsSegmentOf, SameTable}
use Rattle.bw_file.specs.TableReader.{schema_in}
use Rattle.bw_file.specs.declared.table_reader.TableReader.{TableReader}

-- one group more
pub together_more : (groups : List (List (List Value))) (rows : List (List Value)) → together (groups ++ rows ∷ []) ≡ together groups ++ rows
together_more [] rows = append-nil rows
together_more (group ∷ groups) rows = ap (λ (l : List (List Value)). group ++ l) (together_more groups rows) ∙ sym (append_assoc group (together groups) rows)

-- out of memory, once bytes were taken, fewer of which end too early, and no read failed
pub memory_answers : (start old now : State) (fault : Fault) → ((bytes : List ℕ) × HasConsumed start now bytes × FrontsEndEarly bytes) → now.failures ≡ old.failures → fault ≡ no_memory
    → AnswersFault start old now fault
memory_answers start old now fault taken failures memory = record {
  bytes = taken.0;
  took = taken.1;
  needed = λ n less. inl (taken.2 n less);
  unfinished = λ failed. let e : false ≡ true = sym (ap is_read_fault memory) ∙ failed in absurd (cc e);
  failures = rw memory (failures ∙ sym (add_zero old.failures));
  first = λ own. let e : true ≡ false = sym (ap is_input_fault memory) ∙ own in absurd (cc e);
}
  where
    add_zero : (n : ℕ) → n + 0 ≡ n
    add_zero n = omega arith

-- the error of a later read
pub later_answers : (start first old now : State) (fault : Fault) → old.failures ≡ first.failures → AnswersFault start old now fault → AnswersFault start first now fault
later_answers start first old now fault same answers = record {
  bytes = answers.bytes;
  took = answers.took;
  needed = answers.needed;
  unfinished = answers.unfinished;
  failures = answers.failures ∙ ap (λ (n : ℕ). n + failed_reads fault) same;
  first = answers.first;
}

pub same_table : (a b c : TableReader) → SameTable a b → SameTable b c → SameTable a c
same_table a b c p q = record { version = q.version ∙ p.version; layout = q.layout ∙ p.layout; schema = q.schema ∙ p.schema; rows = q.rows ∙ p.rows }

-- the columns of a segment that was read are those of the table
pub columns_of : (first reader : TableReader) (segment : AnySegment) → SameTable first reader → IsSegmentOf reader segment
    → (any_meaning segment).columns ≡ (schema_in first).columns.items
columns_of first reader segment same is = is.columns ∙ ap (λ (schema : Schema). schema.columns.items) same.schema
