-- One more instruction and its part, after some that obey.
use Rattle.std.proofs.Common.{◌≡◌, ◌∙◌, refl, sym, ap, ap₂, subst, ℕ, zero, suc, ◌+◌, ◌<◌, ◌≤◌}
use Rattle.std.proofs.Common.{IsTrue, List, [], ◌∷◌, ◌++◌, add-zero, append-nil, append_assoc}
use Rattle.std.proofs.Common.{length, length-append, Option, Some, Ok, slice_get, arith}
use Rattle.std.proofs.lemmas.Option.{slice_get_within}
use Rattle.bw_diagram.specs.Facts.{Facts}
use Rattle.bw_program.specs.declared.instr.Instr.{Instr}
use Rattle.bw_cert_text.specs.declared.lines.BodyLine.{BodyLine}
use Rattle.bw_cert_text.specs.declared.lines.Entry.TheVariants as line_of
use Rattle.bw_cert_rules.specs.declared.edge.Edge.{Edge}
use Rattle.bw_cert_rules.specs.Accepted.{Part, join_lines, lines_of, known_before, edges_before}
use Rattle.bw_cert_rules.specs.Accepted.{edge_at, known_on_fallthrough, known_or_nothing}
use Rattle.bw_cert_rules.specs.Accepted.{known_after_join, known_past, is_valid_join, AreValidParts}
use Rattle.bw_cert_rules.specs.Instruction.{check_instruction_line}
use Rattle.bw_cert_rules.specs.Join.{edge_of, with_edge, edges_into}
use Rattle.bw_cert_rules.specs.Known.{KnownNodes}

abbrev pub with_one : {A : Type 0} → List A → A → List A
with_one xs x = xs ++ x ∷ []

-- what stands in a list with one more
stands_before : {A : Type 0} (xs : List A) (x : A) (k : ℕ) → k < length xs → slice_get (with_one xs x) k ≡ slice_get xs k
stands_before [] x k lt = absurd (omega (arith, lt))
stands_before (a ∷ xs) x zero lt = refl
stands_before (a ∷ xs) x (suc k) lt = stands_before xs x k (omega (arith, lt))

pub stands_last : {A : Type 0} (xs : List A) (x : A) → slice_get (with_one xs x) (length xs) ≡ Some x
stands_last [] x = refl
stands_last (a ∷ xs) x = stands_last xs x

-- what is so of each two of two lists, and of one more in each, is so of each two
each_more : {A B : Type 0} (P : ℕ → A → B → Type 0) (xs : List A) (x : A) (ys : List B) (y : B) → length ys ≡ length xs →
    ((k : ℕ) (a : A) (b : B) → slice_get xs k ≡ Some a → slice_get ys k ≡ Some b → P k a b) → P (length xs) x y →
    (k : ℕ) (a : A) (b : B) → slice_get (with_one xs x) k ≡ Some a → slice_get (with_one ys y) k ≡ Some b → P k a b
each_more P [] x [] y same each here zero a b there given =
    let first : x ≡ a = cc in
    let second : y ≡ b = cc in
    subst (λ b. P 0 a b) second (subst (λ a. P 0 a y) first here)
each_more P [] x [] y same each here (suc k) a b there given = absurd (cc)
each_more P (v ∷ xs) x (w ∷ ys) y same each here zero a b there given = each zero a b there given
each_more P (v ∷ xs) x (w ∷ ys) y same each here (suc k) a b there given =
    each_more (λ k. P (suc k)) xs x ys y (omega (arith, same)) (λ k. each (suc k)) here k a b there given
each_more P _ x _ y same each here k a b there given = absurd (omega (arith, same))

module _ (facts : Facts) (first : List Instr) (instr : Instr) (parts : List Part) (part : Part) (count : length parts ≡ length first) where
  -- one more part changes nothing before it
  known_more : (place : ℕ) → place ≤ length first → known_before facts (with_one first instr) (with_one parts part) place ≡ known_before facts first parts place
  unfolding known_before
  known_more zero le = refl
  known_more (suc place) le =
      ap₂ (known_past facts (known_before facts (with_one first instr) (with_one parts part) place)) (stands_before first instr place (omega (arith, le))) (stands_before parts part place (omega (arith, le, count)))
      ∙ ap (λ (known : KnownNodes). known_past facts known (slice_get first place) (slice_get parts place)) (known_more place (omega (arith, le)))

  edges_more : (place : ℕ) → place ≤ length first → edges_before facts (with_one first instr) (with_one parts part) place ≡ edges_before facts first parts place
  unfolding edges_before
  edges_more zero le = refl
  edges_more (suc place) le =
      ap (λ (edges : List Edge). with_edge edges (edge_at (known_before facts (with_one first instr) (with_one parts part) place) (slice_get (with_one first instr) place))) (edges_more place (omega (arith, le)))
      ∙ ap₂ (λ (known : KnownNodes) (next : Option Instr). with_edge (edges_before facts first parts place) (edge_at known next)) (known_more place (omega (arith, le))) (stands_before first instr place (omega (arith, le)))

  -- the edges after it, and what is known there
  pub edges_here : edges_before facts (with_one first instr) (with_one parts part) (suc (length first)) ≡
      with_edge (edges_before facts first parts (length first)) (edge_of (known_before facts first parts (length first)) instr)
  unfolding edges_before
  edges_here =
      ap (λ (edges : List Edge). with_edge edges (edge_at (known_before facts (with_one first instr) (with_one parts part) (length first)) (slice_get (with_one first instr) (length first)))) (edges_more (length first) (omega arith))
      ∙ ap₂ (λ (known : KnownNodes) (next : Option Instr). with_edge (edges_before facts first parts (length first)) (edge_at known next)) (known_more (length first) (omega arith)) (stands_last first instr)

  pub part_here : slice_get (with_one parts part) (length first) ≡ Some part
  part_here = ap (slice_get (with_one parts part)) (sym count) ∙ stands_last parts part

  pub known_here : (through : KnownNodes) → check_instruction_line facts (known_before facts first parts (length first)) part.line instr part.entry ≡ Ok through →
      known_before facts (with_one first instr) (with_one parts part) (suc (length first)) ≡ known_after_join through part.join
  unfolding known_before
  known_here through says =
      ap₂ (known_past facts (known_before facts (with_one first instr) (with_one parts part) (length first))) (stands_last first instr) part_here
      ∙ ap (λ (known : KnownNodes). known_after_join (known_on_fallthrough facts known instr part) part.join) (known_more (length first) (omega arith))
      ∙ ap (λ (known : KnownNodes). known_after_join known part.join) (ap known_or_nothing says)

  -- if it is valid, they all are
  pub obeys_more : (through : KnownNodes) → AreValidParts facts first parts → check_instruction_line facts (known_before facts first parts (length first)) part.line instr part.entry ≡ Ok through →
      IsTrue (is_valid_join facts through (edges_into (suc (length first)) (with_edge (edges_before facts first parts (length first)) (edge_of (known_before facts first parts (length first)) instr))) part.join) →
      AreValidParts facts (with_one first instr) (with_one parts part)
  obeys_more through valid_parts says joins = record {
    part_count = omega (arith, count, length-append parts (part ∷ []), length-append first (instr ∷ []));
    instruction = each_more (λ (place : ℕ) (i : Instr) (p : Part). check_instruction_line facts (known_before facts (with_one first instr) (with_one parts part) place) p.line i p.entry ≡ Ok (known_on_fallthrough facts (known_before facts (with_one first instr) (with_one parts part) place) i p))
        first instr parts part count
        (λ place i p there given. subst (λ (known : KnownNodes). check_instruction_line facts known p.line i p.entry ≡ Ok (known_on_fallthrough facts known i p)) (sym (known_more place (omega (arith, slice_get_within first place i there)))) (valid_parts.instruction place i p there given))
        (subst (λ (known : KnownNodes). check_instruction_line facts known part.line instr part.entry ≡ Ok (known_on_fallthrough facts known instr part)) (sym (known_more (length first) (omega arith))) (says ∙ ap Ok (sym (ap known_or_nothing says))));
    join = each_more (λ (place : ℕ) (i : Instr) (p : Part). IsTrue (is_valid_join facts (known_on_fallthrough facts (known_before facts (with_one first instr) (with_one parts part) place) i p)
        (edges_into (suc place) (edges_before facts (with_one first instr) (with_one parts part) (suc place))) p.join))
        first instr parts part count
        (λ place i p there given. ap₂ (λ (known : KnownNodes) (edges : List Edge). is_valid_join facts (known_on_fallthrough facts known i p) (edges_into (suc place) edges) p.join)
        (known_more place (omega (arith, slice_get_within first place i there))) (edges_more (suc place) (omega (arith, slice_get_within first place i there))) ∙ valid_parts.join place i p there given)
        (ap₂ (λ (known : KnownNodes) (edges : List Edge). is_valid_join facts known (edges_into (suc (length first)) edges) part.join)
        (ap (λ (known : KnownNodes). known_on_fallthrough facts known instr part) (known_more (length first) (omega arith)) ∙ ap known_or_nothing says) edges_here ∙ joins);
  }

-- its lines come after theirs
pub lines_more : (place : ℕ) (parts : List Part) (part : Part) → lines_of place (with_one parts part) ≡
    lines_of place parts ++ record { line = part.line; entry = line_of.Instruction part.entry } ∷ join_lines (suc (place + length parts)) part.join
unfolding lines_of
lines_more place [] part =
    ap (λ (lines : List BodyLine). record { line = part.line; entry = line_of.Instruction part.entry } ∷ lines)
    (append-nil (join_lines (suc place) part.join) ∙ ap (λ n. join_lines (suc n) part.join) (sym (add-zero place)))
lines_more place (one ∷ parts) part =
    let own : List BodyLine = join_lines (suc place) one.join in
    let further : List BodyLine = record { line = part.line; entry = line_of.Instruction part.entry } ∷ join_lines (suc (place + suc (length parts))) part.join in
    ap (λ (lines : List BodyLine). record { line = one.line; entry = line_of.Instruction one.entry } ∷ lines)
    (ap (λ lines. own ++ lines) (lines_more (suc place) parts part ∙ ap (λ n. lines_of (suc place) parts ++ record { line = part.line; entry = line_of.Instruction part.entry } ∷ join_lines (suc n) part.join) (omega arith))
    ∙ sym (append_assoc own (lines_of (suc place) parts) further))
