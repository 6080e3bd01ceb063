-- What is still to be read of a text, as it is read.
use Rattle.std.proofs.Common.{◌≡◌, ◌∙◌, ℕ, List, ◌∷◌, Bool, Some, Result, Ok, Err, true, false}
use Rattle.std.proofs.Common.{refl, sym, ap, IfOk}
use Rattle.bw_model.specs.declared.fault.Fault.{Fault}
use Rattle.csv.specs.Reading.{strip_bom}
use Rattle.csv.specs.declared.parser.State.TheVariants as st
use Rattle.bw_csv.specs.Plain.{is_line_end}
use Rattle.bw_csv.specs.Records.{IsOpen, remaining_records, records_in}
use Rattle.bw_csv.specs.Rest.{IsReadable, to_come}
use Rattle.bw_csv.specs.declared.rest.Rest.{Rest}
use Rattle.bw_csv.proofs.PlainRecords.{unmarked}

pub plain-to_come : (rest : Rest) → rest.reads_text ≡ true → to_come rest ≡ records_in st.StartRecord (Some rest.text.now)
unfolding to_come
plain-to_come rest e = rw e refl

pub plain-readable : (rest : Rest) → rest.reads_text ≡ true → is_line_end rest.text.now ≡ true → IsReadable rest
unfolding IsReadable
plain-readable rest e end = rw e end

pub plain-end : (rest : Rest) → rest.reads_text ≡ true → IsReadable rest → is_line_end rest.text.now ≡ true
unfolding IsReadable
plain-end rest e r = rw e at r

pub reader-to_come : (rest : Rest) → rest.reads_text ≡ false → to_come rest ≡ remaining_records rest.records
unfolding to_come
reader-to_come rest e = rw e refl

pub reader-readable : (rest : Rest) → rest.reads_text ≡ false → IsOpen rest.records → IsReadable rest
unfolding IsReadable
reader-readable rest e reads = rw e reads

pub reader-open : (rest : Rest) → rest.reads_text ≡ false → IsReadable rest → IsOpen rest.records
unfolding IsReadable
reader-open rest e r = rw e at r

pub readable_still : (P Q : Type 0) (result : Result Bool Fault) (rest : Rest) → rest.reads_text ≡ false → IfOk result (λ found. found ≡ true → IsOpen rest.records × P × Q)
    → IfOk result (λ found. found ≡ true → IsReadable rest × P × Q)
readable_still P Q (Ok found) rest e reads = λ is. (reader-readable rest e (reads is).0, (reads is).1, (reads is).2)
readable_still P Q (Err fault) rest e reads = tt

pub found_still : (Q : List (List ℕ) → Type 0) (result : Result Bool Fault) (all : List (List (List ℕ))) (rest : Rest) → rest.reads_text ≡ false
    → IfOk result (λ found. found ≡ true → (fields : List (List ℕ)) × (all ≡ fields ∷ remaining_records rest.records) × Q fields)
    → IfOk result (λ found. found ≡ true → (fields : List (List ℕ)) × (all ≡ fields ∷ to_come rest) × Q fields)
found_still Q (Ok found) all rest e reads =
    λ is. ((reads is).0, (reads is).1 ∙ ap (λ (more : List (List (List ℕ))). (reads is).0 ∷ more) (sym (reader-to_come rest e)), (reads is).2)
found_still Q (Err fault) all rest e reads = tt

-- the reader of what is left of a plain text
pub turned : (old new : Rest) → IsReadable old → old.reads_text ≡ true → new.reads_text ≡ false
    → remaining_records new.records ≡ records_in st.StartRecord (Some (strip_bom old.text.now)) → to_come new ≡ to_come old
turned old new r e f read =
    reader-to_come new f ∙ read ∙ ap (λ (text : List ℕ). records_in st.StartRecord (Some text)) (unmarked old.text.now (plain-end old e r)) ∙ sym (plain-to_come old e)
