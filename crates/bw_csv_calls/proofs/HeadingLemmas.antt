-- The names of a heading, one more at a time.
use Rattle.std.proofs.Common.{◌≡◌, ◌∙◌, refl, sym, ℕ, ◌+◌, ◌<◌, ◌≤◌, Bool, true, false, not, List}
use Rattle.std.proofs.Common.{[], ◌∷◌, ◌++◌, length, map, drop, get_or, add-one, append_assoc}
use Rattle.std.proofs.Common.{nat_le, Result, Ok, Err, arith, ◌==◌, eqb-true, drop-cons}
use Rattle.std.specs.List.{list_any}
use Rattle.std.proofs.lemmas.List.{append-nil, drop_all}
use Rattle.bw_model.specs.declared.fault.Fault.{Fault}
use Rattle.bw_model.specs.Fault.{at_record, ◌>>=◌, refused_if}
use Rattle.bw_text.specs.Lines.{is_empty}
use Rattle.bw_model.specs.Name.{is_name, are_apart}
use Rattle.bw_model.proofs.FaultLemmas.{not_refused}
use Rattle.bw_text.specs.Text.{same_text}
use Rattle.bw_csv.specs.Rows.{without_blanks}
use Rattle.bw_csv_calls.specs.Heading.{heading_names, names_from, some_names}

-- the names of the fields from a place on
abbrev pub names_at : List (List ℕ) → ℕ → List (List ℕ)
names_at fields i = map without_blanks (drop i fields)

name_there : (fields : List (List ℕ)) (i : ℕ) (name : List ℕ) → i < length fields → name ≡ without_blanks (get_or fields i []) → names_at fields i ≡ name ∷ names_at fields (i + 1)
name_there fields i name h e = rw (e, add-one, drop-cons fields i [] h) refl

-- one name more, or an error at it, by the tests of the name
pub name_step : (before fields : List (List ℕ)) (i : ℕ) (name : List ℕ) (many wrong twice : Bool) → i < length fields → name ≡ without_blanks (get_or fields i [])
    → nat_le 64 (length before) ≡ many → not (is_name name) ≡ wrong → list_any (λ other. same_text other name) before ≡ twice
    → names_from before (names_at fields i)
    ≡ refused_if many (at_record 105 0) (refused_if wrong (at_record 102 0) (refused_if twice (at_record 104 0) (names_from (before ++ name ∷ []) (names_at fields (i + 1)))))
unfolding names_from
name_step before fields i name many wrong twice h e room is new = rw (name_there fields i name h e, room, is, new) refl

-- all names, of which there is one at least, or none
pub names_end : (fields names : List (List ℕ)) (i : ℕ) → length fields ≤ i → names_from [] (map without_blanks fields) ≡ names_from names (names_at fields i) → heading_names fields ≡ some_names names
unfolding names_from heading_names
names_end fields names i all e = rw (e, drop_all i fields all) refl

pub fault_first : (fields names : List (List ℕ)) (i : ℕ) (fault : Fault) → names_from [] (map without_blanks fields) ≡ names_from names (names_at fields i)
    → names_from names (names_at fields i) ≡ Err fault → heading_names fields ≡ Err fault
unfolding heading_names
fault_first fields names i fault e f = rw (e, f) refl

-- the names that were read are those of the fields
names_are : (before names all : List (List ℕ)) → names_from before names ≡ Ok all → all ≡ before ++ names
unfolding names_from
names_are before [] all e = let same : before ≡ all = cc e in sym same ∙ sym (append-nil before)
names_are before (name ∷ names) all e =
    let rest = names_from (before ++ name ∷ []) names in
    let twice = refused_if (list_any (λ other. same_text other name) before) (at_record 104 0) rest in
    let a = (not_refused (nat_le 64 (length before)) (at_record 105 0) (refused_if (not (is_name name)) (at_record 102 0) twice) all e).1 in
    let b = (not_refused (not (is_name name)) (at_record 102 0) twice all a).1 in
    let c = (not_refused (list_any (λ other. same_text other name) before) (at_record 104 0) rest all b).1 in
    names_are (before ++ name ∷ []) names all c ∙ append_assoc before (name ∷ []) names

pub heading_is : (fields names : List (List ℕ)) → heading_names fields ≡ Ok names → names ≡ map without_blanks fields
unfolding heading_names
heading_is fields names e = go (names_from [] (map without_blanks fields)) refl e
  where
    go : (r : Result (List (List ℕ)) Fault) → names_from [] (map without_blanks fields) ≡ r → (r >>= some_names) ≡ Ok names → names ≡ map without_blanks fields
    go (Ok found) f g =
        let same = (not_refused (is_empty found) (at_record 105 0) (Ok found) names g).1 in
        let is : found ≡ names = cc same in
        sym is ∙ names_are [] (map without_blanks fields) found f
    go (Err fault) f g = absurd (cc g)

-- by how many names there are
pub none_named : (names : List (List ℕ)) (n : ℕ) → n ≡ length names → (n == 0) ≡ true → some_names names ≡ Err (at_record 105 0)
none_named [] n count e = refl
none_named (name ∷ names) n count e = absurd (omega (arith, eqb-true _ _ e))

pub some_named : (names : List (List ℕ)) (n : ℕ) → n ≡ length names → (n == 0) ≡ false → (some_names names ≡ Ok names) × (1 ≤ length names)
some_named [] n count e = absurd (let none : (0 == 0) ≡ false = rw count at e in cc none)
some_named (name ∷ names) n count e = (refl, omega arith)

pub nothing_apart : are_apart [] ≡ true
unfolding are_apart
nothing_apart = refl
