-- From lanes to rows.
use Rattle.std.proofs.Common.{◌≡◌, ◌∙◌, refl, sym, ap, ap₂, ℕ, zero, suc, ◌-◌, Bool, true, false}
use Rattle.std.proofs.Common.{◌&&◌, IsTrue, List, [], ◌∷◌, ◌++◌, map, length, replicate, take}
use Rattle.std.proofs.Common.{arith}
use Rattle.std.specs.List.{list_all, flat_map}
use Rattle.std.specs.Simd.Lanes.{zip2}
use Rattle.std.proofs.Math.Bool.{and-true}
use Rattle.std.proofs.lemmas.Bool.{and_right}
use Rattle.std.proofs.lemmas.List.{map-append}
use Rattle.bw_model.proofs.BitsLemmas.{both}
use Rattle.bw_model.specs.declared.column.Column.{Column}
use Rattle.bw_model.specs.declared.cond.Cond.{Cond}
use Rattle.bw_model.specs.declared.cond.Truth.TheVariants.{Yes}
use Rattle.bw_model.specs.Column.{admits_values}
use Rattle.bw_model.specs.Cond.{truth_of, is_match}
use Rattle.bw_model.specs.Groups.{group_size, lanes_of, together}
use Rattle.bw_model.specs.Row.{Value}
use Rattle.bw_model.specs.StoredCodes.{no_bits}
use Rattle.bw_model.specs.Truth.{is_truth}
use Rattle.bw_model.specs.Variable.{Assignment, assignment_of, bits_of, row_of}
use Rattle.bw_program.specs.Machine.{end_state}
use Rattle.bw_program.specs.Program.{ProgramShape}
use Rattle.bw_cert.specs.Selects.{Selects, selection_in}

-- the bits of each row spell it
abbrev pub Spelled : List Column → Type 0
Spelled columns = (values : List Value) → IsTrue (admits_values columns values) → row_of columns (assignment_of (bits_of columns values)) ≡ values

-- whether a condition is TRUE on an assignment's row
abbrev pub on_lane : List Column → Cond → Assignment → Bool
on_lane columns cond assignment = is_truth (truth_of (row_of columns assignment) cond) Yes

rows_kept : (columns : List Column) (cond : Cond) (rows : List (List Value)) → Spelled columns → list_all (admits_values columns) rows ≡ true →
    map (on_lane columns cond) (map (λ row. assignment_of (bits_of columns row)) rows) ≡ map (is_match cond) rows
rows_kept columns cond [] spelled admitted = refl
rows_kept columns cond (row ∷ rows) spelled admitted =
    let each = both (admits_values columns row) (list_all (admits_values columns) rows) admitted in
    ap₂ (λ (b : Bool) (bs : List Bool). b ∷ bs) (ap (λ row. is_truth (truth_of row cond) Yes) (spelled row each.0)) (rows_kept columns cond rows spelled each.1)

-- the result register's lanes on a group: those of its rows, and others
pub register_is : (columns : List Column) (cond : Cond) (program : ProgramShape) (rows : List (List Value)) → Selects columns cond program → Spelled columns → list_all (admits_values columns) rows ≡ true →
    (end_state columns (lanes_of columns rows) program).registers program.result ≡ map (is_match cond) rows ++ map (on_lane columns cond) (replicate (group_size - length rows) no_bits)
unfolding lanes_of
register_is columns cond program rows selects spelled admitted =
    selects (lanes_of columns rows)
    ∙ map-append (on_lane columns cond) (map (λ row. assignment_of (bits_of columns row)) rows) (replicate (group_size - length rows) no_bits)
    ∙ ap (λ bits. bits ++ map (on_lane columns cond) (replicate (group_size - length rows) no_bits)) (rows_kept columns cond rows spelled admitted)

take_front : {A B : Type 0} (f : A → B) (xs : List A) (more : List B) → take (length xs) (map f xs ++ more) ≡ map f xs
take_front f [] more = refl
take_front {B = B} f (x ∷ xs) more = ap (λ (ys : List B). f x ∷ ys) (take_front f xs more)

group_selected : (columns : List Column) (cond : Cond) (program : ProgramShape) (group : List (List Value)) → Selects columns cond program → Spelled columns → list_all (admits_values columns) group ≡ true →
    selection_in columns program group ≡ map (is_match cond) group
group_selected columns cond program group selects spelled admitted =
    ap (take (length group)) (register_is columns cond program group selects spelled admitted) ∙ take_front (is_match cond) group (map (on_lane columns cond) (replicate (group_size - length group) no_bits))

all_of_both : {A : Type 0} (p : A → Bool) (xs ys : List A) → list_all p (xs ++ ys) ≡ true → (list_all p xs ≡ true) × (list_all p ys ≡ true)
all_of_both p [] ys all = (refl, all)
all_of_both p (x ∷ xs) ys all =
    let each = both (p x) (list_all p (xs ++ ys)) all in
    let rest = all_of_both p xs ys each.1 in
    (ap₂ (λ a b. a && b) each.0 rest.0, rest.1)

pub groups_selected : (columns : List Column) (cond : Cond) (program : ProgramShape) (groups : List (List (List Value))) → Selects columns cond program → Spelled columns → list_all (admits_values columns) (together groups) ≡ true →
    flat_map (selection_in columns program) groups ≡ map (is_match cond) (together groups)
groups_selected columns cond program [] selects spelled admitted = refl
groups_selected columns cond program (group ∷ groups) selects spelled admitted =
    let each = all_of_both (admits_values columns) group (together groups) admitted in
    ap₂ (λ (xs ys : List Bool). xs ++ ys) (group_selected columns cond program group selects spelled each.0) (groups_selected columns cond program groups selects spelled each.1)
    ∙ sym (map-append (is_match cond) group (together groups))

-- masked to the rows, the others are 0
pub masked : (front rest : List Bool) (more : ℕ) → length rest ≡ more → zip2 (λ a b. a && b) (front ++ rest) (replicate (length front) true ++ replicate more false) ≡ front ++ replicate more false
masked [] rest more long = none rest more long
  where
    none : (rest : List Bool) (more : ℕ) → length rest ≡ more → zip2 (λ a b. a && b) rest (replicate more false) ≡ replicate more false
    none [] zero long = refl
    none (b ∷ rest) (suc more) long = ap₂ (λ (c : Bool) (cs : List Bool). c ∷ cs) (and_right b false refl) (none rest more (omega (arith, long)))
    none _ _ long = cc
masked (b ∷ front) rest more long = ap₂ (λ (c : Bool) (cs : List Bool). c ∷ cs) (and-true b) (masked front rest more long)
