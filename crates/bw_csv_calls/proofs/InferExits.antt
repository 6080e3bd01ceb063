-- Where a call that infers a schema ends: at the table's name, at the CSV, at the schema, or when
-- the text is written.
use Rattle.std.proofs.Common.{◌≡◌, ℕ, List, not, true, false, Result, Ok, Err, refl, sym, subst}
use Rattle.bw_model.specs.declared.fault.Fault.{Fault}
use Rattle.bw_model.specs.Fault.{nowhere, refused_if}
use Rattle.bw_model.specs.Name.{is_name}
use Rattle.bw_io.specs.Source.{Arrival, NotReached, Whole}
use Rattle.bw_csv.specs.Input.{IsMadeAfter, IsMadeOf}
use Rattle.bw_csv.proofs.InputLemmas.{made_of_none}
use Rattle.bw_csv_calls.specs.Infer.{IsTextFrom, inferred_text}

abbrev Given : Type 0
Given = Result (List ℕ) Fault

-- a source gave P, and what is given for it went W
abbrev pub Ends : List ℕ → (Arrival → Type 0) → (Given → Type 0) → Type 0
Ends table P W = (csv : Arrival) × (given : Given) × P csv × IsTextFrom table csv given × W given

-- the table's name isn't one
pub name_exit : (table : List ℕ) (P : Arrival → Type 0) (W : Given → Type 0) → is_name table ≡ false → P NotReached → W (Err (nowhere 102)) → Ends table P W
name_exit table P W named p w =
    let given : Given = Err (nowhere 102) in
    let csv : NotReached ≡ NotReached = refl in
    let is : given ≡ given = refl in
    (NotReached, given, p, subst (λ b. IsMadeAfter (refused_if (not b) (nowhere 102) (Ok table)) inferred_text NotReached given) (sym named) (csv, is), w)

text_from : (table : List ℕ) (csv : Arrival) (given : Given) → is_name table ≡ true → IsMadeOf (inferred_text table) csv given → IsTextFrom table csv given
text_from table csv given named made = subst (λ b. IsMadeAfter (refused_if (not b) (nowhere 102) (Ok table)) inferred_text csv given) (sym named) made

-- the CSV wasn't read completely, or it did
pub csv_exit : (table : List ℕ) (P : Arrival → Type 0) (W : Given → Type 0) (csv : Arrival) (fault : Fault) → is_name table ≡ true → P csv → IsMadeOf {A = List ℕ} Ok csv (Err fault) → W (Err fault)
    → Ends table P W
csv_exit table P W csv fault named p made w = (csv, Err fault, p, text_from table csv (Err fault) named (made_of_none (inferred_text table) csv fault made), w)

pub text_exit : (table : List ℕ) (P : Arrival → Type 0) (W : Given → Type 0) (csv : Arrival) (bytes : List ℕ) → is_name table ≡ true → P csv → csv ≡ Whole bytes → W (inferred_text table bytes)
    → Ends table P W
text_exit table P W csv bytes named p whole w =
    let is : inferred_text table bytes ≡ inferred_text table bytes = refl in
    (Whole bytes, inferred_text table bytes, subst P whole p, text_from table (Whole bytes) (inferred_text table bytes) named is, w)
