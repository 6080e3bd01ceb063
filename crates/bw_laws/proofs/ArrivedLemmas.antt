-- If a call wrote something, the texts of its sources were read completely.
use Rattle.std.proofs.Common.{◌≡◌, ℕ, List, Result, Ok, Err, refl, sym, ap, subst}
use Rattle.bw_model.specs.declared.fault.Fault.{Fault}
use Rattle.bw_model.specs.declared.schema.Schema.{Schema}
use Rattle.bw_io.specs.Source.{Arrival, NotReached, Whole}
use Rattle.bw_csv.specs.Input.{IsMadeOf, IsMadeAfter}
use Rattle.bw_csv_calls.specs.ReadInputs.{IsSchemaFrom}
use Rattle.bw_csv_calls.specs.Direct.{IsAnswer, IsAnswerUnder, answer_of}
use Rattle.bw_laws.specs.OneAnswer.{IsArrivalOf, DirectMayWrite}
use Rattle.bw_laws.proofs.OneAnswerLemmas.{one_answer}

-- what was made of a CSV and is no error was made of a text that was read completely
pub record CsvText {A : Type 0} (csv : Arrival) (make : List ℕ → Result A Fault) (x : A) : Type 0 where
  pub text : List ℕ
  pub came : csv ≡ Whole text
  pub given : make text ≡ Ok x

pub csv_text_of : {A : Type 0} (csv : Arrival) (make : List ℕ → Result A Fault) (x : A) → IsMadeOf make csv (Ok x) → CsvText csv make x
csv_text_of NotReached make x made = absurd made
csv_text_of (Whole text) make x made = record { text = text; came = refl; given = sym made }
csv_text_of _ make x made = absurd (cc made)

-- if a schema or bytes were read from a source of a text, they are those of that text
pub schema_came_whole : (limit : ℕ) (text : List ℕ) (came : Arrival) (schema : Schema) → IsArrivalOf limit text came → IsSchemaFrom came (Ok schema) → came ≡ Whole text
schema_came_whole limit text NotReached schema source from = absurd from
schema_came_whole limit text (Whole bytes) schema source from = ap Whole source.is.0.1
schema_came_whole limit text _ schema source from = absurd (cc from)

csv_came_whole : (limit : ℕ) (text bytes : List ℕ) (came : Arrival) → IsArrivalOf limit text came → came ≡ Whole bytes → came ≡ Whole text
csv_came_whole limit text bytes (Whole all) source is = ap Whole source.is.0.1
csv_came_whole limit text bytes _ source is = absurd (cc is)

pub came_whole_after : {A : Type 0} (limit : ℕ) (csv given : List ℕ) (came : Arrival) (first : Result A Fault) (make : A → List ℕ → Result (List ℕ) Fault) → IsArrivalOf limit csv came
    → IsMadeAfter first make came (Ok given) → came ≡ Whole csv
came_whole_after limit csv given came (Ok x) make source made =
    let of = csv_text_of came (make x) given made in csv_came_whole limit csv of.text came source of.came
came_whole_after limit csv given came (Err fault) make source made = absurd (cc (made.1))

-- both texts were read completely
pub record Arrived (schema csv : List ℕ) (schema_came csv_came : Arrival) : Type 0 where
  pub schema_whole : schema_came ≡ Whole schema
  pub csv_whole : csv_came ≡ Whole csv

arrived_under : (schema csv sql answer : List ℕ) (limit most : ℕ) (came csv_came : Arrival) → IsArrivalOf limit schema came → IsArrivalOf most csv csv_came
    → (reading : Result Schema Fault) → IsSchemaFrom came reading → IsAnswerUnder reading sql csv_came (Ok answer) → Arrived schema csv came csv_came
arrived_under schema csv sql answer limit most came csv_came source csv_source (Ok under) from is = record {
  schema_whole = schema_came_whole limit schema came under source from;
  csv_whole = came_whole_after most csv answer csv_came is.0 (answer_of under.columns.items) csv_source is.2;
}
arrived_under schema csv sql answer limit most came csv_came source csv_source (Err fault) from is = absurd (cc (is.1))

pub arrived : (schema csv sql answer : List ℕ) → (may : DirectMayWrite schema csv sql answer) → Arrived schema csv may.schema_came may.csv_came
arrived schema csv sql answer may =
    arrived_under schema csv sql answer _ _ may.schema_came may.csv_came may.schema_source may.csv_source may.is.0 may.is.1 may.is.2

-- so an answer that `direct` may write is the answer of the texts
pub answer_of_texts : (schema csv sql answer : List ℕ) → DirectMayWrite schema csv sql answer → IsAnswer (Whole schema) sql (Whole csv) (Ok answer)
answer_of_texts schema csv sql answer may =
    let whole = arrived schema csv sql answer may in
    subst (λ (came : Arrival). IsAnswer came sql (Whole csv) (Ok answer)) whole.schema_whole
    (subst (λ (came : Arrival). IsAnswer may.schema_came sql came (Ok answer)) whole.csv_whole may.is)

pub one_text : (schema csv sql answer other : List ℕ) → DirectMayWrite schema csv sql answer → DirectMayWrite schema csv sql other → answer ≡ other
one_text schema csv sql answer other a b =
    let same = one_answer (Whole schema) (Whole csv) sql (Ok answer) (Ok other) (answer_of_texts schema csv sql answer a) (answer_of_texts schema csv sql other b) in
    cc same
