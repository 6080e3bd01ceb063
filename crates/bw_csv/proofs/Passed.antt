-- The records that were read so far, whichever way records have rows.
use Rattle.std.proofs.Common.{◌≡◌, ◌∙◌, ℕ, ◌+◌, List, [], ◌∷◌, ◌++◌, length, length-append}
use Rattle.std.proofs.Common.{append_assoc, Result, Ok, true, refl, ap, sym, arith, eqb, append-nil}
use Rattle.std.proofs.lemmas.Bool.{and_parts, eqb-true}
use Rattle.bw_model.specs.declared.fault.Fault.{Fault}
use Rattle.bw_model.specs.declared.fault.Place.{Place}
use Rattle.bw_model.specs.declared.fault.Place.TheVariants.{Rec}
use Rattle.bw_model.specs.Fault.{at_record}
use Rattle.bw_model.specs.Row.{Value}
use Rattle.bw_csv.specs.Rows.{StopsAfter, is_any_record, is_reader_fault, is_record, located_at}
use Rattle.bw_csv.specs.Rows.{with_row}
use Rattle.bw_csv.proofs.FieldLemmas.{after, after-cons, after-nothing}

abbrev pub Records : Type 0
Records = List (List (List ℕ))

abbrev pub Rows : Type 0
Rows = List (List Value)

-- Of the first records some were read, which have these rows, and those from this number on are to
-- come.
pub record Passed (rows_at : ℕ → Records → Result Rows Fault) (first : Records) (before : Rows) (number : ℕ) (records : Records) : Type 0 where
  pub done : Records
  pub all : first ≡ done ++ records
  pub count : length done + 1 ≡ number
  pub on : (rest : Records) → rows_at 1 (done ++ rest) ≡ after before (rows_at number rest)

pub passed-nothing : (rows_at : ℕ → Records → Result Rows Fault) (records : Records) → Passed rows_at records [] 1 records
passed-nothing rows_at records = record { done = []; all = refl; count = refl; on = λ rest. after-nothing (rows_at 1 rest) }

pub passed-next : (rows_at : ℕ → Records → Result Rows Fault) (first : Records) (before : Rows) (number : ℕ) (records more : Records) (fields : List (List ℕ)) (row : List Value)
    → Passed rows_at first before number records → records ≡ fields ∷ more
    → ((rest : Records) → rows_at number (fields ∷ rest) ≡ with_row row (rows_at (number + 1) rest))
    → Passed rows_at first (before ++ row ∷ []) (number + 1) more
passed-next rows_at first before number records more fields row p e step = record {
  done = p.done ++ fields ∷ [];
  all = p.all ∙ ap (λ (l : Records). p.done ++ l) e ∙ sym (append_assoc p.done (fields ∷ []) more);
  count = omega (arith, p.count, length-append p.done (fields ∷ []));
  on = λ rest.
      ap (λ (l : Records). rows_at 1 l) (append_assoc p.done (fields ∷ []) rest)
      ∙ p.on (fields ∷ rest)
      ∙ ap (after before) (step rest)
      ∙ after-cons before row (rows_at (number + 1) rest);
}

pub passed-on : (rows_at : ℕ → Records → Result Rows Fault) (first : Records) (before : Rows) (number : ℕ) (records : Records) → Passed rows_at first before number records
    → rows_at 1 first ≡ after before (rows_at number records)
passed-on rows_at first before number records p = ap (λ (l : Records). rows_at 1 l) p.all ∙ p.on records

-- an error of the reader's own that stands at the record of a number
reader_place : (number : ℕ) (place : Place) → is_any_record place ≡ true → is_record number place ≡ true → place ≡ Rec number
unfolding is_any_record
reader_place number (Rec n) any at = ap (λ (m : ℕ). Rec m) (eqb-true n number at)
reader_place number _ any at = absurd (cc any)

pub reader_fault : (number : ℕ) (fault : Fault) → located_at number fault ≡ true → is_reader_fault fault ≡ true → fault ≡ at_record 209 number
reader_fault number fault at own =
    let is = and_parts (eqb fault.code 209) (is_any_record fault.place) own in
    let place = reader_place number fault.place is.1 (rw is.0 at at) in
    let same : ◌≡◌ {A = Fault} (record { code = fault.code; place = fault.place }) (record { code = 209; place = Rec number }) =
    rw (eqb-true fault.code 209 is.0, place) refl in same

pub passed-stops : (rows_at : ℕ → Records → Result Rows Fault) (first : Records) (before : Rows) (number : ℕ) (records : Records) (fault : Fault) → Passed rows_at first before number records
    → rows_at number [] ≡ Ok [] → located_at number fault ≡ true → is_reader_fault fault ≡ true → StopsAfter rows_at first fault
passed-stops rows_at first before number records fault p none at own =
    let good : rows_at 1 p.done ≡ Ok before =
    ap (λ (l : Records). rows_at 1 l) (sym (append-nil p.done)) ∙ p.on [] ∙ ap (after before) none ∙ ap (λ (l : Rows). Ok l) (append-nil before) in
    record { done = p.done; rest = records; all = p.all; rows = before; good = good; is = reader_fault number fault at own ∙ ap (at_record 209) (sym p.count) }
