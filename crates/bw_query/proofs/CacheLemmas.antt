-- Scans that are kept: what serves a condition serves each of the same tree.
use Rattle.std.proofs.Common.{◌≡◌, ◌∙◌, ◌<◌, ◌≤◌, ◌+◌, refl, sym, ap, subst, ℕ, List, [], Option}
use Rattle.std.proofs.Common.{Some, None, Vec, Global, get_or, length, option_map, take, slice_get}
use Rattle.std.proofs.Common.{Result, Ok, Err, IfOk, arith}
use Rattle.std.specs.Prelude.{All}
use Rattle.std.proofs.lemmas.List.{get_or-map, length-map, take_all, take_more}
use Rattle.std.proofs.lemmas.List.Elements.{All-from_get_or, All-get_or, All-push}
use Rattle.std.proofs.lemmas.Option.{slice_get-map, slice_get_read}
use Rattle.bw_model.specs.declared.column.Column.{Column}
use Rattle.bw_model.specs.declared.cond.Cond.{Cond}
use Rattle.bw_model.specs.declared.fault.Fault.{Fault}
use Rattle.bw_model.specs.declared.query.Query.{Query}
use Rattle.bw_model.specs.declared.schema.Schema.{Schema}
use Rattle.bw_model.specs.CondTree.{tree_of}
use Rattle.bw_model.specs.Row.{Value}
use Rattle.bw_program.specs.Program.{ProgramShape}
use Rattle.bw_cert_text.specs.CertificateShape.{CertificateShape}
use Rattle.bw_cert.specs.Valid.{Valid}
use Rattle.bw_cert.specs.FileVerdict.{Certifies}
use Rattle.bw_query.specs.declared.scan.Scan.{Scan}
use Rattle.bw_query.specs.declared.scan.Scan.TheVariants.{Program, Rows}
use Rattle.bw_query.specs.declared.served.Scanned.{Scanned}
use Rattle.bw_query.specs.ProgramChoice.{IsChosenAmong, IsFirstUsable, IsRejected, IsServedAmong}
use Rattle.bw_query.specs.ProgramChoice.{first, none, texts_of}
use Rattle.bw_query.specs.Scan.{IsChosen, IsFor, IsUsable}
use Rattle.bw_query.specs.Served.{report_of}
use Rattle.bw_query.specs.Segments.{IsScanOf}
use Rattle.bw_query.proofs.ScanLemmas.{serves, usable}

-- the bytes of the file of a number
pub file_at : (files : List (Vec ℕ Global)) (number : ℕ) (file : Vec ℕ Global) → number < length files → file ≡ get_or files number file
    → slice_get (texts_of files) number ≡ Some file.items
file_at files number file within is =
    slice_get-map (λ (f : Vec ℕ Global). f.items) files number ∙ ap (option_map (λ (f : Vec ℕ Global). f.items)) (slice_get_read files (length files) number file refl within is)

-- what is said of the files so far, and of one more
pub files_more : (P : List ℕ → Type 0) (files : List (Vec ℕ Global)) (number : ℕ) (file : Vec ℕ Global) → number < length files → file ≡ get_or files number file
    → All P (take number (texts_of files)) → P file.items → All P (take (number + 1) (texts_of files))
files_more P files number file within is so_far holds =
    let texts = texts_of files in
    let in_texts : number < length texts = omega (arith, within, length-map files (λ (f : Vec ℕ Global). f.items)) in
    let same : get_or texts number file.items ≡ file.items =
    get_or-map (λ (f : Vec ℕ Global). f.items) files number file file.items within ∙ ap (λ (f : Vec ℕ Global). f.items) (sym is) in
    subst (All P) (sym (take_more texts number file.items in_texts)) (All-push P (take number texts) (get_or texts number file.items) so_far (subst P (sym same) holds))

-- and of all of them
pub files_all : (P : List ℕ → Type 0) (files : List (Vec ℕ Global)) (number : ℕ) → length files ≤ number → All P (take number (texts_of files)) → All P (texts_of files)
files_all P files number past so_far =
    subst (All P) (take_all number (texts_of files) (omega (arith, past, length-map files (λ (f : Vec ℕ Global). f.items)))) so_far

-- a certificate that is valid for a condition is so for each of the same tree
abbrev pub Alike : Type 0
Alike = (columns : List Column) (cond same : Cond) (program : ProgramShape) (certificate : CertificateShape) → tree_of cond ≡ tree_of same
    → Valid columns cond program certificate → Valid columns same program certificate

module _ (alike : Alike) (columns : List Column) where
  certifies_too : (cond same : Cond) → tree_of cond ≡ tree_of same → (file : List ℕ) (program : ProgramShape) (certificate : CertificateShape)
      → Certifies columns cond file program certificate → Certifies columns same file program certificate
  certifies_too cond same tree file program certificate is = record {
    short = is.short;
    program_text = is.program_text;
    certificate_text = is.certificate_text;
    first = is.first;
    cut = is.cut;
    spelled = is.spelled;
    stated = is.stated;
    valid = alike columns cond same program certificate tree is.valid;
  }

  usable_too : (cond same : Cond) → tree_of cond ≡ tree_of same → (file : List ℕ) → IsUsable (Some file) columns cond → IsUsable (Some file) columns same
  usable_too cond same tree file is = (is.0, is.1, certifies_too cond same tree file is.0 is.1 is.2)

  rejected_too : (cond same : Cond) → tree_of cond ≡ tree_of same → (file : List ℕ) → IsRejected columns cond file → IsRejected columns same file
  rejected_too cond same tree file rejected = λ usable. rejected (usable_too same cond (sym tree) file usable)

  all_too : (cond same : Cond) → tree_of cond ≡ tree_of same → (files : List (List ℕ)) → All (IsRejected columns cond) files → All (IsRejected columns same) files
  all_too cond same tree files all =
      All-from_get_or (IsRejected columns same) files [] (λ i lt. rejected_too cond same tree (get_or files i []) (All-get_or (IsRejected columns cond) files i [] lt all))

  first_too : (cond same : Cond) → tree_of cond ≡ tree_of same → (files : List (List ℕ)) (file : Option (List ℕ)) → IsFirstUsable files columns cond file → IsFirstUsable files columns same file
  first_too cond same tree files file (first number found is rejected usable) =
      first number found is (all_too cond same tree (take number files) rejected) (usable_too cond same tree found usable)
  first_too cond same tree files file (none rejected) = none (all_too cond same tree files rejected)

  chosen_too : (cond same : Cond) → tree_of cond ≡ tree_of same → (file : Option (List ℕ)) (scan : Scan) → IsChosen file columns cond scan → IsChosen file columns same scan
  chosen_too cond same tree (Some file) (Program certified) is = (is.0, certifies_too cond same tree file certified.program is.0 is.1)
  chosen_too cond same tree (Some file) Rows is = absurd is
  chosen_too cond same tree None (Program certified) is = (is.0, alike columns cond same certified.program is.0 tree is.1)
  chosen_too cond same tree None Rows is = is

  -- a scan that was chosen for a condition is so for each of the same tree
  pub chosen_among_too : (cond same : Cond) → tree_of cond ≡ tree_of same → (files : List (List ℕ)) (scan : Scan) → IsChosenAmong files columns cond scan → IsChosenAmong files columns same scan
  chosen_among_too cond same tree files scan chosen = (chosen.0, first_too cond same tree files chosen.0 chosen.1, chosen_too cond same tree chosen.0 scan chosen.2)

-- and certified
pub is_for_too : (columns : List Column) (cond same : Cond) → tree_of cond ≡ tree_of same → (scan : Scan) → IsFor columns cond scan → IsFor columns same scan
is_for_too columns cond same tree (Program certified) is = (is.0, is.1 ∙ tree)
is_for_too columns cond same tree Rows is = is

-- what is reported of a scan over groups of rows
pub serves_among : (files : List (List ℕ)) (schema : Schema) (query : Query) (groups : List (List (List Value))) (scan : Scan) (scanned : Scanned)
    → IsChosenAmong files schema.columns.items query.cond scan → IsScanOf schema.columns.items scan groups scanned
    → IsServedAmong files schema query groups (report_of scan scanned)
serves_among files schema query groups scan scanned chosen counts = (chosen.0, chosen.1, serves chosen.0 schema query groups scan scanned chosen.2 counts)

-- a file's program is used, after files that are rejected
pub chosen_first : (files : List (List ℕ)) (number : ℕ) (file : List ℕ) (columns : List Column) (cond : Cond) (scan : Scan) → slice_get files number ≡ Some file
    → All (IsRejected columns cond) (take number files) → IsChosen (Some file) columns cond scan → IsChosenAmong files columns cond scan
chosen_first files number file columns cond scan is rejected chosen = (Some file, first number file is rejected (usable (Some file) columns cond scan chosen), chosen)

pub chosen_last : (files : List (List ℕ)) (columns : List Column) (cond : Cond) (scan : Scan) → All (IsRejected columns cond) files → IsChosen None columns cond scan
    → IsChosenAmong files columns cond scan
chosen_last files columns cond scan rejected chosen = (None, none rejected, chosen)

-- so it is, if a search succeeds
pub chosen_if_found : (files : List (List ℕ)) (columns : List Column) (cond : Cond) (found : Result Scan Fault) → All (IsRejected columns cond) files
    → IfOk found (IsChosen None columns cond) → IfOk found (IsChosenAmong files columns cond)
chosen_if_found files columns cond (Ok scan) rejected chosen = chosen_last files columns cond scan rejected chosen
chosen_if_found files columns cond (Err fault) rejected chosen = tt
