-- The lines of parts that obey are checked to be right.
use Rattle.std.proofs.Common.{◌≡◌, ◌∙◌, refl, sym, ap, ap₂, ℕ, suc, ◌+◌, true, not, List, [], ◌∷◌}
use Rattle.std.proofs.Common.{◌++◌, add-zero, drop, map, length, Option, Some, None, Ok, arith}
use Rattle.std.proofs.Common.{append-nil, append_assoc, length-drop, slice_get, zero, eq-eqb}
use Rattle.std.proofs.lemmas.Option.{slice_get_within}
use Rattle.bw_model.proofs.BitsLemmas.{both}
use Rattle.bw_model.specs.Fault.{at_line, ◌>>=◌, refused_if}
use Rattle.bw_diagram.specs.Facts.{Facts}
use Rattle.bw_program.specs.declared.instr.Instr.{Instr}
use Rattle.bw_cert_text.specs.declared.lines.BodyLine.{BodyLine}
use Rattle.bw_cert_rules.specs.declared.edge.Edge.{Edge}
use Rattle.bw_cert_rules.specs.Accepted.{KeepLine, JoinLines, Part, keep_line, join_lines, lines_of}
use Rattle.bw_cert_rules.specs.Accepted.{known_before, edges_before, edge_at, known_on_fallthrough}
use Rattle.bw_cert_rules.specs.Accepted.{known_after_join, known_past, kept_by, are_kept}
use Rattle.bw_cert_rules.specs.Accepted.{is_valid_join, AreValidParts, NoKeep, KeepsAreAll}
use Rattle.bw_cert_rules.specs.Join.{edge_of, with_edge, edges_into, is_valid_keep}
use Rattle.bw_cert_rules.specs.Known.{KnownNodes, nothing_known, with_node}
use Rattle.bw_cert_rules.specs.Walk.{WalkState, by_keep, keeps_taken, instruction_taken, apply_join}
use Rattle.bw_cert_rules.specs.Walk.{check_lines_from, check_lines}
use Rattle.bw_cert_rules.proofs.JoinLemmas.{keep_step}

-- a walk with these lines left
abbrev pub taken_of : List BodyLine → KnownNodes → WalkState
taken_of lines known = record { known = known; rest = lines }

-- lines KEEP that are kept, and then another line
keeps_end : (facts : Facts) (through : KnownNodes) (edges : List Edge) (least : ℕ) (kept : KnownNodes) (lines : List BodyLine) → NoKeep lines → keeps_taken facts through edges least kept lines ≡ Ok (taken_of lines kept)
unfolding keeps_taken
keeps_end facts through edges least kept [] none = refl
keeps_end facts through edges least kept (line ∷ lines) none =
    ap (λ k. by_keep k (Ok (taken_of (line ∷ lines) kept)) (λ keep. refused_if (not (is_valid_keep facts through edges least keep)) (at_line 608 line.line)
    (keeps_taken facts through edges (suc keep.register) (with_node kept keep.register keep.node) lines))) none

keeps_over : (facts : Facts) (through : KnownNodes) (edges : List Edge) (least : ℕ) (kept : KnownNodes) (keeps : List KeepLine) (lines : List BodyLine) → NoKeep lines → are_kept facts through edges least keeps ≡ true →
    keeps_taken facts through edges least kept (map keep_line keeps ++ lines) ≡ Ok (taken_of lines (kept_by kept keeps))
unfolding are_kept kept_by
keeps_over facts through edges least kept [] lines none are = keeps_end facts through edges least kept lines none
keeps_over facts through edges least kept (k ∷ keeps) lines none are =
    let now = both _ _ are in
    keep_step facts through edges least kept _ (map keep_line keeps ++ lines) (keep_line k) k.keep true refl refl now.0
    ∙ keeps_over facts through edges (suc k.keep.register) (with_node kept k.keep.register k.keep.node) keeps lines none now.1

-- a valid join, and then other lines
join_over : (facts : Facts) (end place : ℕ) (edges : List Edge) (through : KnownNodes) (join : Option JoinLines) (lines : List BodyLine) → ((given : JoinLines) → join ≡ Some given → NoKeep lines) →
    is_valid_join facts through edges join ≡ true → apply_join facts end place edges (taken_of (join_lines place join ++ lines) through) ≡ Ok (taken_of lines (known_after_join through join))
join_over facts end place [] through None lines none valid_parts = refl
join_over facts end place (edge ∷ edges) through (Some join) lines none valid_parts =
    let further : List BodyLine = map keep_line join.keeps ++ lines in
    ap (λ b. refused_if (not b) (at_line 608 join.line) (Ok further) >>= keeps_taken facts through (edge ∷ edges) 0 nothing_known) (eq-eqb place place refl)
    ∙ keeps_over facts through (edge ∷ edges) 0 nothing_known join.keeps lines (none join refl) valid_parts
join_over facts end place _ through _ lines none valid_parts = cc

-- after a part come the lines of the next one, which begin with no line KEEP, or the others
no_keep_after : (place : ℕ) (parts : List Part) (rest : List BodyLine) → (length parts ≡ 0 → NoKeep rest) → NoKeep (lines_of place parts ++ rest)
unfolding lines_of
no_keep_after place [] rest none = none refl
no_keep_after place (part ∷ parts) rest none = refl

-- the first of those from a place on stands there
drop_stands : {A : Type 0} (all xs : List A) (place : ℕ) (x : A) → drop place all ≡ x ∷ xs → (slice_get all place ≡ Some x) × (drop (suc place) all ≡ xs)
drop_stands [] xs zero x is = cc
drop_stands [] xs (suc place) x is = cc
drop_stands (a ∷ all) xs zero x is = (cc, cc)
drop_stands (a ∷ all) xs (suc place) x is = drop_stands all xs place x is

-- the walk over the lines of parts that obey, from a place on, continues after them
pub walk_over : (facts : Facts) (all : List Instr) (every : List Part) (end place : ℕ) (instrs : List Instr) (parts : List Part) (others : List Instr) (rest : List BodyLine) → AreValidParts facts all every → KeepsAreAll every rest →
    drop place all ≡ instrs → drop place every ≡ parts → length parts ≡ length instrs →
    check_lines_from facts end place (edges_before facts all every place) (instrs ++ others) (taken_of (lines_of place parts ++ rest) (known_before facts all every place))
    ≡ check_lines_from facts end (place + length instrs) (edges_before facts all every (place + length instrs)) others (taken_of rest (known_before facts all every (place + length instrs)))
unfolding check_lines_from lines_of known_before edges_before
walk_over facts all every end place [] [] others rest valid_parts whole instrs_are parts_are count =
    ap (λ n. check_lines_from facts end n (edges_before facts all every n) others (taken_of rest (known_before facts all every n))) (sym (add-zero place))
walk_over facts all every end place (instr ∷ instrs) (part ∷ parts) others rest valid_parts whole instrs_are parts_are count =
    let instr_there = drop_stands all instrs place instr instrs_are in
    let part_there = drop_stands every parts place part parts_are in
    let known : KnownNodes = known_before facts all every place in
    let through : KnownNodes = known_on_fallthrough facts known instr part in
    let more : List BodyLine = lines_of (suc place) parts ++ rest in
    let own : List BodyLine = (join_lines (suc place) part.join ++ lines_of (suc place) parts) ++ rest in
    let edges : List Edge = with_edge (edges_before facts all every place) (edge_of known instr) in
    let edges_are : edges ≡ edges_before facts all every (suc place) = ap (λ i. with_edge (edges_before facts all every place) (edge_at known i)) (sym instr_there.0) in
    let next : known_before facts all every (suc place) ≡ known_after_join through part.join = ap₂ (known_past facts known) instr_there.0 part_there.0 in
    let left : length (drop (suc place) every) ≡ length parts = ap (λ (parts : List Part). length parts) part_there.1 in
    let inside = slice_get_within every place part part_there.0 in
    let none : (given : JoinLines) → part.join ≡ Some given → NoKeep more = λ given some. no_keep_after (suc place) parts rest
    (λ empty. whole place part given (omega (arith, empty, left, length-drop (suc place) every, inside)) part_there.0 some) in
    let says : instruction_taken facts end known instr (lines_of place (part ∷ parts) ++ rest) ≡ Ok (taken_of own through) =
    ap (λ r. r >>= λ k. Ok (taken_of own k)) (valid_parts.instruction place instr part instr_there.0 part_there.0) in
    let joins : apply_join facts end (suc place) (edges_into (suc place) edges) (taken_of own through) ≡ Ok (taken_of more (known_before facts all every (suc place))) =
    ap₂ (λ (es : List Edge) (lines : List BodyLine). apply_join facts end (suc place) (edges_into (suc place) es) (taken_of lines through)) edges_are (append_assoc (join_lines (suc place) part.join) (lines_of (suc place) parts) rest)
    ∙ join_over facts end (suc place) _ through part.join more none (valid_parts.join place instr part instr_there.0 part_there.0)
    ∙ ap (λ (k : KnownNodes). Ok (taken_of more k)) (sym next) in
    let same : suc place + length instrs ≡ place + suc (length instrs) = omega arith in
    ap (λ t. t >>= λ through. apply_join facts end (suc place) (edges_into (suc place) edges) through >>= λ taken. check_lines_from facts end (suc place) edges (instrs ++ others) taken) says
    ∙ ap (λ t. t >>= λ taken. check_lines_from facts end (suc place) edges (instrs ++ others) taken) joins
    ∙ ap (λ (es : List Edge). check_lines_from facts end (suc place) es (instrs ++ others) (taken_of more (known_before facts all every (suc place)))) edges_are
    ∙ walk_over facts all every end (suc place) instrs parts others rest valid_parts whole instr_there.1 part_there.1 (omega (arith, count))
    ∙ ap (λ n. check_lines_from facts end n (edges_before facts all every n) others (taken_of rest (known_before facts all every n))) same
walk_over facts all every end place _ _ others rest valid_parts whole instrs_are parts_are count = absurd (omega (arith, count))

pub judged_written : (facts : Facts) (instrs : List Instr) (parts : List Part) (end : ℕ) → AreValidParts facts instrs parts → check_lines facts instrs end (lines_of 0 parts) ≡ Ok (record { known = known_before facts instrs parts (length instrs); rest = [] })
unfolding check_lines_from known_before edges_before
judged_written facts instrs parts end valid_parts =
    ap₂ (λ (instrs : List Instr) (lines : List BodyLine). check_lines facts instrs end lines) (sym (append-nil instrs)) (sym (append-nil (lines_of 0 parts)))
    ∙ walk_over facts instrs parts end 0 instrs parts [] [] valid_parts (λ place part join last given some. tt) refl refl valid_parts.part_count
    ∙ ap (λ n. Ok (taken_of [] (known_before facts instrs parts n))) (omega arith)
