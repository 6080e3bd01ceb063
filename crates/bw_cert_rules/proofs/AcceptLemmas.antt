-- Lines that are checked to be right are those of parts that obey.
use Rattle.std.proofs.Common.{◌≡◌, ◌∙◌, refl, sym, ap, ap₂, subst, ℕ, suc, ◌+◌, true, not, ◌&&◌}
use Rattle.std.proofs.Common.{List, [], ◌∷◌, ◌++◌, append-nil, append_assoc, map, length}
use Rattle.std.proofs.Common.{length-append, Option, Some, None, Result, Ok, Err, slice_get, arith}
use Rattle.std.proofs.lemmas.Bool.{eqb-true, false≢true, not-false}
use Rattle.bw_model.specs.declared.fault.Fault.{Fault}
use Rattle.bw_model.specs.Fault.{at_line, refused_if}
use Rattle.bw_model.proofs.FaultLemmas.{not_refused, bind_ok}
use Rattle.bw_diagram.specs.Facts.{Facts}
use Rattle.bw_program.specs.declared.instr.Instr.{Instr}
use Rattle.bw_cert_text.specs.declared.lines.BodyLine.{BodyLine}
use Rattle.bw_cert_text.specs.declared.lines.Entry.{Entry}
use Rattle.bw_cert_text.specs.declared.lines.Entry.TheVariants as line_of
use Rattle.bw_cert_text.specs.declared.lines.InstructionEntry.{InstructionEntry}
use Rattle.bw_cert_text.specs.declared.lines.Keep.{Keep}
use Rattle.bw_cert_rules.specs.declared.edge.Edge.{Edge}
use Rattle.bw_cert_rules.specs.Accepted.{KeepLine, JoinLines, Part, keep_line, join_lines, lines_of}
use Rattle.bw_cert_rules.specs.Accepted.{known_before, edges_before, known_after_join, kept_by}
use Rattle.bw_cert_rules.specs.Accepted.{are_kept, is_valid_join, AreValidParts, Accepts}
use Rattle.bw_cert_rules.specs.Instruction.{check_instruction_line}
use Rattle.bw_cert_rules.specs.Join.{edge_of, with_edge, edges_into, is_valid_keep}
use Rattle.bw_cert_rules.specs.Known.{KnownNodes, nothing_known, with_node}
use Rattle.bw_cert_rules.specs.Walk.{WalkState, keep_in, by_keep, keeps_taken, join_taken, is_join}
use Rattle.bw_cert_rules.specs.Walk.{instruction_on, instruction_taken, apply_join}
use Rattle.bw_cert_rules.specs.Walk.{check_lines_from, check_lines}
use Rattle.bw_cert_rules.proofs.HoldLemmas.{ok_same}
use Rattle.bw_cert_rules.proofs.PartsLemmas.{with_one, edges_here, known_here, obeys_more, lines_more}

-- what can't be returned
err_not : {A G : Type 0} {x : A} {fault : Fault} → ◌≡◌ {A = Result A Fault} (Err fault) (Ok x) → G
err_not is = cc

-- the line of an instruction
pub record Line (facts : Facts) (known : KnownNodes) (instr : Instr) (lines : List BodyLine) (through : WalkState) : Type 0 where
  pub line : ℕ
  pub entry : InstructionEntry
  pub spelled : lines ≡ record { line = line; entry = line_of.Instruction entry } ∷ through.rest
  pub says : check_instruction_line facts known line instr entry ≡ Ok through.known

pub line_read : (facts : Facts) (end : ℕ) (known : KnownNodes) (instr : Instr) (lines : List BodyLine) (through : WalkState) → instruction_taken facts end known instr lines ≡ Ok through → Line facts known instr lines through
line_read facts end known instr [] through is = cc
line_read facts end known instr (line ∷ lines) through is = at line.entry refl (bind_ok (instruction_on facts known instr line line.entry) _ through is)
  where
    at : (entry : Entry) → line.entry ≡ entry → (k : KnownNodes) × (instruction_on facts known instr line line.entry ≡ Ok k) × (◌≡◌ {A = Result WalkState Fault} (Ok (record { known = k; rest = lines })) (Ok through)) →
        Line facts known instr (line ∷ lines) through
    at (line_of.Instruction entry) there (k, says, done) =
        let same : record { known = k; rest = lines } ≡ through = ok_same done in
        record {
          line = line.line;
          entry = entry;
          spelled = ap₂ (λ (l : BodyLine) (ls : List BodyLine). l ∷ ls) (ap (λ e. record { line = line.line; entry = e }) there) (ap (λ (t : WalkState). t.rest) same);
          says = ap (instruction_on facts known instr line) (sym there) ∙ says ∙ ap (λ (t : WalkState). Ok t.known) same;
        }
    at _ there (k, says, done) = err_not (ap (instruction_on facts known instr line) (sym there) ∙ says)

-- the lines KEEP of a join
pub record Keeps (facts : Facts) (through : KnownNodes) (edges : List Edge) (least : ℕ) (kept : KnownNodes) (lines : List BodyLine) (taken : WalkState) : Type 0 where
  pub keeps : List KeepLine
  pub spelled : lines ≡ map keep_line keeps ++ taken.rest
  pub kept_are : are_kept facts through edges least keeps ≡ true
  pub known : taken.known ≡ kept_by kept keeps

pub keeps_read : (facts : Facts) (through : KnownNodes) (edges : List Edge) (least : ℕ) (kept : KnownNodes) (lines : List BodyLine) (taken : WalkState) → keeps_taken facts through edges least kept lines ≡ Ok taken →
    Keeps facts through edges least kept lines taken
unfolding keeps_taken are_kept kept_by
keeps_read facts through edges least kept [] taken is =
    let same : record { known = kept; rest = [] } ≡ taken = ok_same is in
    record { keeps = []; spelled = ap (λ (t : WalkState). t.rest) same; kept_are = refl; known = sym (ap (λ (t : WalkState). t.known) same) }
keeps_read facts through edges least kept (line ∷ lines) taken is =
    at line.entry refl is (λ keep. keeps_read facts through edges (suc keep.register) (with_node kept keep.register keep.node) lines taken)
  where
    next : Keep → Result WalkState Fault
    next keep = refused_if (not (is_valid_keep facts through edges least keep)) (at_line 608 line.line)
        (keeps_taken facts through edges (suc keep.register) (with_node kept keep.register keep.node) lines)

    stop : WalkState
    stop = record { known = kept; rest = line ∷ lines }

    ended : ◌≡◌ {A = Result WalkState Fault} (Ok stop) (Ok taken) → Keeps facts through edges least kept (line ∷ lines) taken
    ended done =
        let same : stop ≡ taken = ok_same done in
        record { keeps = []; spelled = ap (λ (t : WalkState). t.rest) same; kept_are = refl; known = sym (ap (λ (t : WalkState). t.known) same) }

    at : (entry : Entry) → line.entry ≡ entry → by_keep (keep_in line.entry) (Ok stop) next ≡ Ok taken →
        ((keep : Keep) → keeps_taken facts through edges (suc keep.register) (with_node kept keep.register keep.node) lines ≡ Ok taken → Keeps facts through edges (suc keep.register) (with_node kept keep.register keep.node) lines taken) →
        Keeps facts through edges least kept (line ∷ lines) taken
    at (line_of.Keep keep) there is rest =
        let now : next keep ≡ Ok taken = ap (λ e. by_keep (keep_in e) (Ok stop) next) (sym there) ∙ is in
        let passed = not_refused (not (is_valid_keep facts through edges least keep)) _ _ taken now in
        let more = rest keep passed.1 in
        let kept_is : is_valid_keep facts through edges least keep ≡ true = not-false _ passed.0 in
        record {
          keeps = record { line = line.line; keep = keep } ∷ more.keeps;
          spelled = ap₂ (λ (l : BodyLine) (ls : List BodyLine). l ∷ ls) (ap (λ e. record { line = line.line; entry = e }) there) more.spelled;
          kept_are = ap₂ (λ a b. a && b) kept_is more.kept_are;
          known = more.known;
        }
    at _ there is rest = ended (ap (λ e. by_keep (keep_in e) (Ok stop) next) (sym there) ∙ is)

-- the join of a place, if it has one
pub record Joined (facts : Facts) (place : ℕ) (edges : List Edge) (through taken : WalkState) : Type 0 where
  pub join : Option JoinLines
  pub spelled : through.rest ≡ join_lines place join ++ taken.rest
  pub valid_parts : is_valid_join facts through.known edges join ≡ true
  pub known : taken.known ≡ known_after_join through.known join

pub join_read : (facts : Facts) (end place : ℕ) (edges : List Edge) (through taken : WalkState) → apply_join facts end place edges through ≡ Ok taken → Joined facts place edges through taken
join_read facts end place [] through taken is =
    let same : through ≡ taken = ok_same is in
    record { join = None; spelled = ap (λ (t : WalkState). t.rest) same; valid_parts = refl; known = sym (ap (λ (t : WalkState). t.known) same) }
join_read facts end place (edge ∷ edges) through taken is = at through.rest refl (bind_ok (join_taken end place through.rest) _ taken is)
  where
    Answer : Type 0
    Answer = (lines : List BodyLine) × (join_taken end place through.rest ≡ Ok lines) × (keeps_taken facts through.known (edge ∷ edges) 0 nothing_known lines ≡ Ok taken)

    joins : (line : BodyLine) (more : List BodyLine) (entry : Entry) → line.entry ≡ entry → is_join place line.entry ≡ true → line ≡ record { line = line.line; entry = line_of.Join place }
    joins line more (line_of.Join target) there is =
        let same : target ≡ place = eqb-true target place (ap (is_join place) (sym there) ∙ is) in
        ap (λ e. record { line = line.line; entry = e }) (there ∙ ap line_of.Join same)
    joins line more _ there is = absurd (false≢true (ap (is_join place) (sym there) ∙ is))

    at : (rest : List BodyLine) → through.rest ≡ rest → Answer → Joined facts place (edge ∷ edges) through taken
    at [] there (lines, took, kept) = err_not (ap (join_taken end place) (sym there) ∙ took)
    at (line ∷ more) there (lines, took, kept) =
        let passed = not_refused (not (is_join place line.entry)) _ _ lines (ap (join_taken end place) (sym there) ∙ took) in
        let more_is : more ≡ lines = ok_same passed.1 in
        let keeps = keeps_read facts through.known (edge ∷ edges) 0 nothing_known lines taken kept in
        record {
          join = Some (record { line = line.line; keeps = keeps.keeps });
          spelled = there ∙ ap₂ (λ (l : BodyLine) (ls : List BodyLine). l ∷ ls) (joins line more line.entry refl (not-false _ passed.0)) (more_is ∙ keeps.spelled);
          valid_parts = keeps.kept_are;
          known = keeps.known;
        }

-- how far a walk has come: past some first instructions, whose lines are those of parts that obey
pub record Come (facts : Facts) (lines : List BodyLine) (first : List Instr) (parts : List Part) (edges : List Edge) (taken : WalkState) : Type 0 where
  pub valid_parts : AreValidParts facts first parts
  pub spelled : lines ≡ lines_of 0 parts ++ taken.rest
  pub known : taken.known ≡ known_before facts first parts (length first)
  pub edges_are : edges ≡ edges_before facts first parts (length first)

-- at the first instruction
pub nothing_there : (k : ℕ) (part : Part) → slice_get [] k ≡ Some part → ⊥
nothing_there k part is = cc

pub come_first : (facts : Facts) (lines : List BodyLine) → Come facts lines [] [] [] (record { known = nothing_known; rest = lines })
unfolding known_before edges_before lines_of
come_first facts lines = record {
  valid_parts = record { part_count = refl; instruction = λ k i p there given. absurd (nothing_there k p given); join = λ k i p there given. absurd (nothing_there k p given) };
  spelled = refl;
  known = refl;
  edges_are = refl;
}

-- past one more instruction
pub come_further : (facts : Facts) (lines : List BodyLine) (first : List Instr) (instr : Instr) (parts : List Part) (edges : List Edge) (taken through gone : WalkState) → Come facts lines first parts edges taken →
    (line : Line facts taken.known instr taken.rest through) (join : Joined facts (suc (length first)) (edges_into (suc (length first)) (with_edge edges (edge_of taken.known instr))) through gone) →
    Come facts lines (with_one first instr) (with_one parts (record { line = line.line; entry = line.entry; join = join.join })) (with_edge edges (edge_of taken.known instr)) gone
come_further facts lines first instr parts edges taken through gone come line join = record {
  valid_parts = obeys_more facts first instr parts part come.valid_parts.part_count through.known come.valid_parts says
      (ap (λ (edges : List Edge). is_valid_join facts through.known (edges_into (suc (length first)) edges) join.join) (sym edges_same) ∙ join.valid_parts);
  spelled = come.spelled
      ∙ ap (λ rest. lines_of 0 parts ++ rest) (line.spelled ∙ ap (λ (lines : List BodyLine). own ∷ lines) join.spelled)
      ∙ sym (append_assoc (lines_of 0 parts) (own ∷ join_lines (suc (length first)) join.join) gone.rest)
      ∙ ap (λ n. (lines_of 0 parts ++ own ∷ join_lines (suc n) join.join) ++ gone.rest) from_start
      ∙ ap (λ lines. lines ++ gone.rest) (sym (lines_more 0 parts part));
  known = join.known ∙ sym (known_here facts first instr parts part come.valid_parts.part_count through.known says)
      ∙ ap (known_before facts (with_one first instr) (with_one parts part)) one_more;
  edges_are = edges_same ∙ sym (edges_here facts first instr parts part come.valid_parts.part_count)
      ∙ ap (edges_before facts (with_one first instr) (with_one parts part)) one_more;
}
  where
    part : Part
    part = record { line = line.line; entry = line.entry; join = join.join }

    own : BodyLine
    own = record { line = line.line; entry = line_of.Instruction line.entry }

    from_start : length first ≡ 0 + length parts
    from_start = omega (arith, come.valid_parts.part_count)

    one_more : suc (length first) ≡ length (with_one first instr)
    one_more = omega (arith, length-append first (instr ∷ []))

    says : check_instruction_line facts (known_before facts first parts (length first)) line.line instr line.entry ≡ Ok through.known
    says = ap (λ (known : KnownNodes). check_instruction_line facts known line.line instr line.entry) (sym come.known) ∙ line.says

    edges_same : with_edge edges (edge_of taken.known instr) ≡ with_edge (edges_before facts first parts (length first)) (edge_of (known_before facts first parts (length first)) instr)
    edges_same = ap₂ (λ (edges : List Edge) (known : KnownNodes). with_edge edges (edge_of known instr)) come.edges_are come.known

-- to the end
come_to_end : (facts : Facts) (all others first : List Instr) (parts : List Part) (end : ℕ) (lines : List BodyLine) (edges : List Edge) (taken last : WalkState) → all ≡ first ++ others → Come facts lines first parts edges taken →
    check_lines_from facts end (length first) edges others taken ≡ Ok last → Accepts facts all lines last
unfolding check_lines_from
come_to_end facts all [] first parts end lines edges taken last program come is =
    let same : taken ≡ last = ok_same is in
    subst (Accepts facts all lines) same (subst (λ (instrs : List Instr). Accepts facts instrs lines taken) (sym (program ∙ append-nil first))
    (record { parts = parts; valid_parts = come.valid_parts; spelled = come.spelled; known = come.known }))
come_to_end facts all (instr ∷ others) first parts end lines edges taken last program come is =
    let further : List Edge = with_edge edges (edge_of taken.known instr) in
    let line = bind_ok (instruction_taken facts end taken.known instr taken.rest) _ last is in
    let join = bind_ok (apply_join facts end (suc (length first)) (edges_into (suc (length first)) further) line.0) _ last line.2 in
    let one_more : length (with_one first instr) ≡ suc (length first) = omega (arith, length-append first (instr ∷ [])) in
    come_to_end facts all others (with_one first instr) _ end lines further join.0 last (program ∙ sym (append_assoc first (instr ∷ []) others))
    (come_further facts lines first instr parts edges taken line.0 join.0 come (line_read facts end taken.known instr taken.rest line.0 line.1)
    (join_read facts end (suc (length first)) (edges_into (suc (length first)) further) line.0 join.0 join.1))
    (ap (λ n. check_lines_from facts end n further others join.0) one_more ∙ join.2)

pub judged_accepts : (facts : Facts) (instrs : List Instr) (end : ℕ) (lines : List BodyLine) (taken : WalkState) → check_lines facts instrs end lines ≡ Ok taken → Accepts facts instrs lines taken
judged_accepts facts instrs end lines taken is =
    come_to_end facts instrs instrs [] [] end lines [] (record { known = nothing_known; rest = lines }) taken refl (come_first facts lines) is
