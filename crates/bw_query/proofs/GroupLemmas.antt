-- One group more of a table file, and one that was consumed.
use Rattle.std.proofs.Common.{◌≡◌, ◌∙◌, ◌++◌, ◌∷◌, [], ℕ, List, subst}
use Rattle.bw_model.specs.declared.column.Column.{Column}
use Rattle.bw_model.specs.Row.{Value}
use Rattle.bw_file.specs.AnySegment.{any_meaning}
use Rattle.bw_file.specs.Reading.{State}
use Rattle.bw_file.specs.TableReader.{ReturnsSegment}
use Rattle.bw_file.specs.declared.segments.AnySegment.{AnySegment}
use Rattle.bw_file.specs.declared.table_reader.TableReader.{TableReader}
use Rattle.bw_file.proofs.MemoryAnswers.{same_table}
use Rattle.bw_query.specs.Segments.{Consumes, HasGiven, TakesGroup}

-- a group of a segment, of the columns of its table, came and was consumed
pub taken_as : {C : Type 0} (columns other : List Column) → columns ≡ other → (group : List (List Value)) (Comes : List (List Value) → Type 0) (Fits : C → List Column → Type 0) (rows : C → ℕ)
    (Over : C → List Column → List (List (List Value)) → C → Type 0) (old new : C)
    → Comes group → Consumes columns group Fits rows Over old new → TakesGroup other Comes Fits rows Over old new
taken_as columns other same group Comes Fits rows Over old new comes consumed = record {
  group = group;
  comes = comes;
  consumed = subst (λ (those : List Column). Consumes those group Fits rows Over old new) same consumed;
}

pub given_more : (old : State) (reader : TableReader) (groups : List (List (List Value))) (now later : State) (next after : TableReader) (segment : AnySegment)
    → HasGiven old reader groups now next → ReturnsSegment now later next after segment → HasGiven old reader (groups ++ (any_meaning segment).rows ∷ []) later after
given_more old reader groups now later next after segment given gave = record {
  read = λ start read. gave.after start groups (given.read start read);
  same = same_table reader next after given.same gave.same;
  reading = gave.goes_on;
  failures = gave.failures ∙ given.failures;
  fits = given.fits;
}
