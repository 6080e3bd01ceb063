-- Of a heading of more than 64 fields the first 64, and that there is one more, say which error it
-- has.
use Rattle.std.proofs.Common.{◌≡◌, ◌∙◌, sym, ap, subst, refl, ℕ, ◌+◌, ◌≤◌, Bool, true, false, not}
use Rattle.std.proofs.Common.{List, [], ◌∷◌, ◌++◌, length, map, nat_le, Result, Ok, Err, arith, inl}
use Rattle.std.proofs.Common.{inr, length-append, IfErr, le-leb}
use Rattle.std.specs.List.{list_any}
use Rattle.bw_model.specs.declared.fault.Fault.{Fault}
use Rattle.bw_model.specs.Fault.{at_record, refused_if}
use Rattle.bw_model.specs.Name.{is_name}
use Rattle.bw_text.specs.Text.{same_text}
use Rattle.bw_csv.specs.Bare.{bare_rows, records_of}
use Rattle.bw_csv.specs.Fields.{IsCutAfter, IsCutRecord}
use Rattle.bw_csv.specs.Rows.{Stops, StopsAfter, is_reader_fault, without_blanks}
use Rattle.bw_csv_calls.specs.Heading.{heading_names, names_from}
use Rattle.bw_csv_calls.specs.Infer.{StopsInferring}
use Rattle.bw_csv_calls.specs.InferredSchema.{infer_schema, inferred_after}

-- two results are the same error
abbrev BothRefused : Result (List (List ℕ)) Fault → Result (List (List ℕ)) Fault → Type 0
BothRefused r s = (fault : Fault) × (r ≡ Err fault) × (s ≡ Err fault)

both_after : (a b c : Bool) (x y z : Fault) (r s : Result (List (List ℕ)) Fault) → BothRefused r s
    → BothRefused (refused_if a x (refused_if b y (refused_if c z r))) (refused_if a x (refused_if b y (refused_if c z s)))
both_after true b c x y z r s both = (x, refl, refl)
both_after false true c x y z r s both = (y, refl, refl)
both_after false false true x y z r s both = (z, refl, refl)
both_after false false false x y z r s both = both

names_refused : (before first : List (List ℕ)) (next : List ℕ) (others : List (List ℕ)) → length before + length first ≡ 64
    → BothRefused (names_from before (map without_blanks (first ++ next ∷ others))) (names_from before (map without_blanks (first ++ [] ∷ [])))
unfolding names_from
names_refused before [] next others h =
    let all : 64 ≤ length before = omega arith in
    let past : nat_le 64 (length before) ≡ true = le-leb _ _ all in
    rw past (at_record 105 0, refl, refl)
names_refused before (field ∷ first) next others h =
    let name = without_blanks field in
    both_after (nat_le 64 (length before)) (not (is_name name)) (list_any (λ other. same_text other name) before) (at_record 105 0) (at_record 102 0) (at_record 104 0) _ _
    (names_refused (before ++ name ∷ []) first next others (let many = length-append before (name ∷ []) in omega arith))

heading_refused : (first : List (List ℕ)) (next : List ℕ) (others : List (List ℕ)) → length first ≡ 64
    → BothRefused (heading_names (first ++ next ∷ others)) (heading_names (first ++ [] ∷ []))
unfolding heading_names
heading_refused first next others h =
    let both = names_refused [] first next others (omega arith) in
    (both.0, rw both.1 refl, rw both.2 refl)

-- so the same is inferred of both
inferred_cut : (table : List ℕ) (whole cut : List (List (List ℕ))) → IsCutRecord 64 whole cut → inferred_after table cut ≡ inferred_after table whole
unfolding inferred_after
inferred_cut table whole cut is =
    let both = heading_refused is.first is.next is.others is.many in
    rw (is.whole_is, is.cut_is, both.1, both.2) refl

pub same_inferred : (table text cut : List ℕ) → IsCutAfter 64 (records_of text) (records_of cut) → infer_schema table cut ≡ infer_schema table text
same_inferred table text cut (inl same) = ap (λ (records : List (List (List ℕ))). inferred_after table records) same
same_inferred table text cut (inr is) = inferred_cut table (records_of text) (records_of cut) is

-- and the reader's own error is at the same place
abbrev StopsIn : List (List (List ℕ)) → Fault → Type 0
StopsIn records fault = Stops (λ heading more own. (names : List (List ℕ)) × (heading_names heading ≡ Ok names)
    × StopsAfter (bare_rows (length names)) more own) records fault

stops_cut : (whole cut : List (List (List ℕ))) (fault : Fault) → IsCutRecord 64 whole cut → StopsIn cut fault → StopsIn whole fault
stops_cut whole cut fault is (inl heading) = inl heading
stops_cut whole cut fault is (inr stops) =
    let both = heading_refused is.first is.next is.others is.many in
    let same : (is.first ++ [] ∷ []) ∷ [] ≡ stops.0 ∷ stops.1 = sym is.cut_is ∙ stops.2 in
    let heading : is.first ++ [] ∷ [] ≡ stops.0 = cc same in
    let named : Err both.0 ≡ Ok stops.3.0 = sym both.2 ∙ ap heading_names heading ∙ stops.3.1 in
    absurd (cc named)

same_stops : (text cut : List ℕ) (fault : Fault) → IsCutAfter 64 (records_of text) (records_of cut) → StopsInferring cut fault → StopsInferring text fault
same_stops text cut fault (inl same) stops = subst (λ (records : List (List (List ℕ))). StopsIn records fault) same stops
same_stops text cut fault (inr is) stops = stops_cut (records_of text) (records_of cut) fault is stops

pub still_stops : {A : Type 0} (result : Result A Fault) (text cut : List ℕ) → IsCutAfter 64 (records_of text) (records_of cut)
    → IfErr result (λ fault. is_reader_fault fault ≡ true → StopsInferring cut fault) → IfErr result (λ fault. is_reader_fault fault ≡ true → StopsInferring text fault)
still_stops (Ok x) text cut is stops = tt
still_stops (Err fault) text cut is stops = λ own. same_stops text cut fault is (stops own)
