-- Lines that are rejected have a first error, and are rejected with it.
use Rattle.std.proofs.Common.{◌≡◌, ◌∙◌, refl, sym, ap, ap₂, subst, ◌⊎◌, inl, inr, ℕ, suc, ◌+◌, ◌<◌}
use Rattle.std.proofs.Common.{true, List, [], ◌∷◌, ◌++◌, append_assoc, map, length, length-append}
use Rattle.std.proofs.Common.{Option, Some, Result, Ok, Err, slice_get, arith}
use Rattle.std.proofs.lemmas.Option.{same_Some}
use Rattle.bw_model.specs.declared.fault.Fault.{Fault}
use Rattle.bw_model.specs.Fault.{at_line, ◌>>=◌}
use Rattle.bw_diagram.specs.Facts.{Facts}
use Rattle.bw_program.specs.declared.instr.Instr.{Instr}
use Rattle.bw_cert_text.specs.declared.lines.BodyLine.{BodyLine}
use Rattle.bw_cert_text.specs.declared.lines.Entry.TheVariants as line_of
use Rattle.bw_cert_rules.specs.declared.edge.Edge.{Edge}
use Rattle.bw_cert_rules.specs.Accepted.{JoinLines, Part, keep_line, lines_of, known_before}
use Rattle.bw_cert_rules.specs.Accepted.{edges_before, is_valid_join, NoKeep, KeepsAreAll}
use Rattle.bw_cert_rules.specs.Instruction.{check_instruction_line}
use Rattle.bw_cert_rules.specs.Join.{edge_of, with_edge, edges_into}
use Rattle.bw_cert_rules.specs.Known.{KnownNodes, nothing_known}
use Rattle.bw_cert_rules.specs.Walk.{WalkState, instruction_taken, apply_join}
use Rattle.bw_cert_rules.specs.Walk.{check_lines_from, check_lines}
use Rattle.bw_cert_rules.proofs.AcceptLemmas.{Line, Joined, line_read, join_read, Come}
use Rattle.bw_cert_rules.proofs.AcceptLemmas.{nothing_there, come_first, come_further}
use Rattle.bw_cert_rules.proofs.WrittenLemmas.{taken_of, walk_over}
use Rattle.bw_cert.specs.FirstFault.{WrongLine, WrongJoin, WrongPlace}
use Rattle.bw_cert.specs.FirstFault.{known_after, edges_after, FirstFault, StandsOn}
use Rattle.bw_cert_rules.proofs.PartsLemmas.{with_one, stands_last}
use Rattle.bw_cert.proofs.FaultLemmas.{bind_err, line_wrong, wrong_line}
use Rattle.bw_cert.proofs.FaultLemmas.{join_wrong, wrong_join, join_stops, line_stands}

-- how far a walk has come, and no line KEEP is left of the last join
record ComeWhole (facts : Facts) (lines : List BodyLine) (first : List Instr) (edges : List Edge) (taken : WalkState) : Type 0 where
  parts : List Part
  come : Come facts lines first parts edges taken
  whole : KeepsAreAll parts taken.rest

-- a valid join is at the target of skips
joins_some : (facts : Facts) (through : KnownNodes) (edges : List Edge) (join : Option JoinLines) (lines : JoinLines) → join ≡ Some lines → is_valid_join facts through edges join ≡ true → 0 < length edges
joins_some facts through (edge ∷ edges) join lines some valid_parts = omega arith
joins_some facts through [] _ lines some valid_parts = cc

-- past one more instruction
whole_further : (facts : Facts) (end : ℕ) (lines : List BodyLine) (first : List Instr) (instr : Instr) (edges : List Edge) (taken through gone : WalkState) → ComeWhole facts lines first edges taken →
    Line facts taken.known instr taken.rest through → apply_join facts end (suc (length first)) (edges_into (suc (length first)) (with_edge edges (edge_of taken.known instr))) through ≡ Ok gone →
    ComeWhole facts lines (with_one first instr) (with_edge edges (edge_of taken.known instr)) gone
whole_further facts end lines first instr edges taken through gone past line took = record {
  parts = with_one past.parts part;
  come = come_further facts lines first instr past.parts edges taken through gone past.come line join;
  whole = whole;
}
  where
    into : List Edge
    into = edges_into (suc (length first)) (with_edge edges (edge_of taken.known instr))

    join : Joined facts (suc (length first)) into through gone
    join = join_read facts end (suc (length first)) into through gone took

    part : Part
    part = record { line = line.line; entry = line.entry; join = join.join }

    whole : KeepsAreAll (with_one past.parts part) gone.rest
    whole place given lines last there some =
        let at_last : place ≡ length past.parts = omega (arith, last, length-append past.parts (part ∷ [])) in
        let same : part ≡ given = same_Some _ _ (sym (stands_last past.parts part) ∙ ap (slice_get (with_one past.parts part)) (sym at_last) ∙ there) in
        let joins : join.join ≡ Some lines = ap (λ (part : Part). part.join) same ∙ some in
        join_stops facts end (suc (length first)) through.known into through.rest gone (joins_some facts through.known into join.join lines joins join.valid_parts) took

-- lines that are rejected from there on have a first error
stands_from : (facts : Facts) (end : ℕ) (lines : List BodyLine) (fault : Fault) (instrs others first : List Instr) (edges : List Edge) (taken : WalkState) → instrs ≡ first ++ others → ComeWhole facts lines first edges taken →
    check_lines_from facts end (length first) edges others taken ≡ Err fault → FirstFault facts instrs end lines fault
unfolding check_lines_from
stands_from facts end lines fault instrs [] first edges taken program come is = cc
stands_from facts end lines fault instrs (instr ∷ others) first edges taken program come is =
    at (bind_err (instruction_taken facts end taken.known instr taken.rest) _ fault is) (λ first edges taken. stands_from facts end lines fault instrs others first edges taken)
  where
    further : List Edge
    further = with_edge edges (edge_of taken.known instr)

    into : List Edge
    into = edges_into (suc (length first)) further

    into_are : into ≡ edges_after facts first come.parts instr
    into_are = ap₂ (λ (edges : List Edge) (known : KnownNodes). edges_into (suc (length first)) (with_edge edges (edge_of known instr))) come.come.edges_are come.come.known

    Goes : Type 0
    Goes = (first : List Instr) (edges : List Edge) (taken : WalkState) → instrs ≡ first ++ others → ComeWhole facts lines first edges taken →
        check_lines_from facts end (length first) edges others taken ≡ Err fault → FirstFault facts instrs end lines fault

    fault_of : WrongLine facts end (known_after facts first come.parts) instr taken.rest fault
        ⊎ WrongPlace facts end (suc (length first)) (known_after facts first come.parts) (edges_after facts first come.parts instr) instr taken.rest fault →
        FirstFault facts instrs end lines fault
    fault_of wrong = record {
      first = first;
      instr = instr;
      others = others;
      instructions = program;
      parts = come.parts;
      valid_parts = come.come.valid_parts;
      rest = taken.rest;
      spelled = come.come.spelled;
      whole = come.whole;
      wrong = wrong;
    }

    past_line : (through : WalkState) → Line facts taken.known instr taken.rest through →
        (apply_join facts end (suc (length first)) into through ≡ Err fault) ⊎ ((gone : WalkState) × (apply_join facts end (suc (length first)) into through ≡ Ok gone) × (check_lines_from facts end (suc (length first)) further others gone ≡ Err fault)) →
        Goes → FirstFault facts instrs end lines fault
    past_line through line (inl refused) goes =
        let wrong = join_wrong facts end (suc (length first)) through.known (edges_after facts first come.parts instr) through.rest fault
        (ap (λ (edges : List Edge). apply_join facts end (suc (length first)) edges through) (sym into_are) ∙ refused) in
        fault_of (inr (record {
          line = line.line;
          entry = line.entry;
          rest = through.rest;
          spelled = line.spelled;
          through = through.known;
          says = ap (λ (known : KnownNodes). check_instruction_line facts known line.line instr line.entry) (sym come.come.known) ∙ line.says;
          skips = wrong.0;
          wrong = wrong.1;
        }))
    past_line through line (inr (gone, took, refused)) goes =
        let one_more : length (with_one first instr) ≡ suc (length first) = omega (arith, length-append first (instr ∷ [])) in
        goes (with_one first instr) further gone (program ∙ sym (append_assoc first (instr ∷ []) others))
        (whole_further facts end lines first instr edges taken through gone come line took)
        (ap (λ n. check_lines_from facts end n further others gone) one_more ∙ refused)

    at : (instruction_taken facts end taken.known instr taken.rest ≡ Err fault)
        ⊎ ((through : WalkState) × (instruction_taken facts end taken.known instr taken.rest ≡ Ok through)
        × ((apply_join facts end (suc (length first)) into through >>= λ gone. check_lines_from facts end (suc (length first)) further others gone) ≡ Err fault)) →
        Goes → FirstFault facts instrs end lines fault
    at (inl refused) goes =
        fault_of (inl (subst (λ (known : KnownNodes). WrongLine facts end known instr taken.rest fault) come.come.known (line_wrong facts end taken.known instr taken.rest fault refused)))
    at (inr (through, took, refused)) goes =
        past_line through (line_read facts end taken.known instr taken.rest through took)
        (bind_err (apply_join facts end (suc (length first)) into through) (λ gone. check_lines_from facts end (suc (length first)) further others gone) fault refused) goes

pub first_fault_stands : (facts : Facts) (instrs : List Instr) (end : ℕ) (lines : List BodyLine) (fault : Fault) → check_lines facts instrs end lines ≡ Err fault → FirstFault facts instrs end lines fault
first_fault_stands facts instrs end lines fault is =
    stands_from facts end lines fault instrs instrs [] [] (taken_of lines nothing_known) refl
    (record { parts = []; come = come_first facts lines; whole = λ place part join last given some. absurd (nothing_there place part given) }) is

-- lines with a first error are rejected with it
pub refused_with_first : (facts : Facts) (instrs : List Instr) (end : ℕ) (lines : List BodyLine) (fault : Fault) → FirstFault facts instrs end lines fault → check_lines facts instrs end lines ≡ Err fault
unfolding check_lines_from known_before edges_before
refused_with_first facts instrs end lines fault f =
    let from_start : 0 + length f.first ≡ length f.first = omega arith in
    ap₂ (λ (instrs : List Instr) (lines : List BodyLine). check_lines facts instrs end lines) f.instructions f.spelled
    ∙ walk_over facts f.first f.parts end 0 f.first f.parts (f.instr ∷ f.others) f.rest f.valid_parts f.whole refl refl f.valid_parts.part_count
    ∙ ap (λ n. check_lines_from facts end n (edges_before facts f.first f.parts n) (f.instr ∷ f.others) (taken_of f.rest (known_before facts f.first f.parts n))) from_start
    ∙ at f.wrong
  where
    known : KnownNodes
    known = known_after facts f.first f.parts

    edges : List Edge
    edges = edges_before facts f.first f.parts (length f.first)

    further : List Edge
    further = with_edge edges (edge_of known f.instr)

    past_join : WalkState → Result WalkState Fault
    past_join gone = check_lines_from facts end (suc (length f.first)) further f.others gone

    past_line : WalkState → Result WalkState Fault
    past_line through = apply_join facts end (suc (length f.first)) (edges_into (suc (length f.first)) further) through >>= past_join

    at : WrongLine facts end known f.instr f.rest fault ⊎ WrongPlace facts end (suc (length f.first)) known (edges_after facts f.first f.parts f.instr) f.instr f.rest fault →
        check_lines_from facts end (length f.first) edges (f.instr ∷ f.others) (taken_of f.rest known) ≡ Err fault
    at (inl line) = ap (λ t. t >>= past_line) (wrong_line facts end known f.instr f.rest fault line)
    at (inr place) =
        ap (λ (rest : List BodyLine). instruction_taken facts end known f.instr rest >>= past_line) place.spelled
        ∙ ap (λ (r : Result KnownNodes Fault). (r >>= λ through. Ok (taken_of place.rest through)) >>= past_line) place.says
        ∙ ap (λ t. t >>= past_join) (wrong_join facts end (suc (length f.first)) place.through (edges_after facts f.first f.parts f.instr) place.rest fault place.skips place.wrong)

-- and the error is the same whatever lines come after the one on which it stands
at_end : (code end : ℕ) (fault : Fault) → fault ≡ at_line code end → fault ≡ at_line fault.code end
at_end code end fault is = is ∙ ap (λ (fault : Fault). at_line fault.code end) (sym is)

pub lines_after : (facts : Facts) (instrs : List Instr) (end : ℕ) (lines : List BodyLine) (fault : Fault) → FirstFault facts instrs end lines fault → StandsOn facts instrs end lines fault ⊎ (fault ≡ at_line fault.code end)
lines_after facts instrs end lines fault f = at f.wrong
  where
    known : KnownNodes
    known = known_after facts f.first f.parts

    edges : List Edge
    edges = edges_after facts f.first f.parts f.instr

    front : List BodyLine
    front = lines_of 0 f.parts

    -- other lines with that error
    refused : (rest : List BodyLine) → KeepsAreAll f.parts rest → WrongLine facts end known f.instr rest fault ⊎ WrongPlace facts end (suc (length f.first)) known edges f.instr rest fault →
        check_lines facts instrs end (front ++ rest) ≡ Err fault
    refused rest whole wrong = refused_with_first facts instrs end (front ++ rest) fault (record {
      first = f.first;
      instr = f.instr;
      others = f.others;
      instructions = f.instructions;
      parts = f.parts;
      valid_parts = f.valid_parts;
      rest = rest;
      spelled = refl;
      whole = whole;
      wrong = wrong;
    })

    by_line : (rest : List BodyLine) → f.rest ≡ rest → WrongLine facts end known f.instr rest fault → StandsOn facts instrs end lines fault ⊎ (fault ≡ at_line fault.code end)
    by_line [] there is = inr (at_end 607 end fault is)
    by_line (line ∷ others) there is = inl (record {
      upto = front;
      line = line;
      others = others;
      spelled = f.spelled ∙ ap (λ rest. front ++ rest) there;
      stands = line_stands facts known f.instr line line.entry fault is;
      alike = λ check_instruction_line. refused (line ∷ check_instruction_line) (λ place part join last given some. subst NoKeep there (f.whole place part join last given some)) (inl is);
    })

    own : WrongPlace facts end (suc (length f.first)) known edges f.instr f.rest fault → BodyLine
    own place = record { line = place.line; entry = line_of.Instruction place.entry }

    again : (place : WrongPlace facts end (suc (length f.first)) known edges f.instr f.rest fault) (rest : List BodyLine) → WrongJoin facts end (suc (length f.first)) place.through edges rest fault →
        check_lines facts instrs end (front ++ own place ∷ rest) ≡ Err fault
    again place rest wrong = refused (own place ∷ rest) (λ at part join last given some. refl) (inr (record {
      line = place.line;
      entry = place.entry;
      rest = rest;
      spelled = refl;
      through = place.through;
      says = place.says;
      skips = place.skips;
      wrong = wrong;
    }))

    by_join : (place : WrongPlace facts end (suc (length f.first)) known edges f.instr f.rest fault) (rest : List BodyLine) → place.rest ≡ rest → WrongJoin facts end (suc (length f.first)) place.through edges rest fault →
        StandsOn facts instrs end lines fault ⊎ (fault ≡ at_line fault.code end)
    by_join place [] there wrong = inr (at_end 608 end fault wrong)
    by_join place (line ∷ others) there (inl (other, stands)) = inl (record {
      upto = front ++ own place ∷ [];
      line = line;
      others = others;
      spelled = f.spelled ∙ ap (λ (rest : List BodyLine). front ++ rest) (place.spelled ∙ ap (λ (rest : List BodyLine). own place ∷ rest) there) ∙ sym (append_assoc front (own place ∷ []) (line ∷ others));
      stands = at_end 608 line.line fault stands;
      alike = λ check_instruction_line. ap (check_lines facts instrs end) (append_assoc front (own place ∷ []) (line ∷ check_instruction_line)) ∙ again place (line ∷ check_instruction_line) (inl (other, stands));
    })
    by_join place (line ∷ others) there (inr (joins, keep)) = inl (record {
      upto = front ++ own place ∷ line ∷ map keep_line keep.keeps;
      line = keep_line keep.wrong;
      others = keep.others;
      spelled = f.spelled
          ∙ ap (λ (rest : List BodyLine). front ++ rest) (place.spelled ∙ ap (λ (rest : List BodyLine). own place ∷ rest) (there ∙ ap (λ (lines : List BodyLine). line ∷ lines) keep.spelled))
          ∙ sym (append_assoc front (own place ∷ line ∷ map keep_line keep.keeps) (keep_line keep.wrong ∷ keep.others));
      stands = at_end 608 keep.wrong.line fault keep.stands;
      alike = λ check_instruction_line. ap (check_lines facts instrs end) (append_assoc front (own place ∷ line ∷ map keep_line keep.keeps) (keep_line keep.wrong ∷ check_instruction_line))
          ∙ again place (line ∷ map keep_line keep.keeps ++ keep_line keep.wrong ∷ check_instruction_line) (inr (
            joins,
            record {
              keeps = keep.keeps;
              wrong = keep.wrong;
              others = check_instruction_line;
              spelled = refl;
              kept = keep.kept;
              broken = keep.broken;
              stands = keep.stands;
            },
          ));
    })

    at : WrongLine facts end known f.instr f.rest fault ⊎ WrongPlace facts end (suc (length f.first)) known edges f.instr f.rest fault → StandsOn facts instrs end lines fault ⊎ (fault ≡ at_line fault.code end)
    at (inl line) = by_line f.rest refl line
    at (inr place) = by_join place place.rest refl place.wrong
