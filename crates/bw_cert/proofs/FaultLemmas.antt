-- Where the lines of instructions and joins are rejected, and that a first error is what they are
-- rejected with.
use Rattle.std.proofs.Common.{◌≡◌, ◌∙◌, refl, sym, ap, ap₂, subst, ◌⊎◌, inl, inr, ℕ, suc, ◌<◌, Bool}
use Rattle.std.proofs.Common.{true, false, not, ◌&&◌, List, [], ◌∷◌, ◌++◌, map, length, Option}
use Rattle.std.proofs.Common.{Some, None, Result, Ok, Err, IfErr, arith}
use Rattle.std.proofs.Math.Bool.{and-true}
use Rattle.bw_model.proofs.BitsLemmas.{both}
use Rattle.bw_model.specs.declared.fault.Fault.{Fault}
use Rattle.bw_model.specs.Fault.{at_line, ◌>>=◌, refused_if}
use Rattle.bw_model.proofs.FaultLemmas.{not_refused, bind_ok, then_so, refused_so, fault_so}
use Rattle.bw_diagram.specs.declared.chain.ChainKind.{ChainKind}
use Rattle.bw_diagram.specs.declared.chain.ChainKind.TheVariants.{Less, Equal}
use Rattle.bw_diagram.specs.declared.product.Connective.{Connective}
use Rattle.bw_diagram.specs.declared.product.Connective.TheVariants as connective
use Rattle.bw_diagram.specs.References.{product_node, variable_node}
use Rattle.bw_diagram.specs.Facts.{Facts}
use Rattle.bw_program.specs.declared.instr.Instr.{Instr}
use Rattle.bw_program.specs.declared.instr.Instr.TheVariants as does
use Rattle.bw_program.specs.ProgramText.{found_on}
use Rattle.bw_cert_text.specs.declared.lines.BodyLine.{BodyLine}
use Rattle.bw_cert_text.specs.declared.lines.Entry.{Entry}
use Rattle.bw_cert_text.specs.declared.lines.Entry.TheVariants as line_of
use Rattle.bw_cert_text.specs.declared.lines.InstructionEntry.{InstructionEntry}
use Rattle.bw_cert_text.specs.declared.lines.Keep.{Keep}
use Rattle.bw_cert_rules.specs.declared.edge.Edge.{Edge}
use Rattle.bw_cert_rules.specs.Accepted.{KeepLine, keep_line, are_kept, NoKeep}
use Rattle.bw_cert_rules.specs.Instruction.{check_instruction_line, set_register, is_fill, is_skip_line}
use Rattle.bw_cert_rules.specs.Instruction.{loaded_node, operation_row, byte_chain, byte_node}
use Rattle.bw_cert_rules.specs.Instruction.{plane_on, read_on, joined_on, opposite_on}
use Rattle.bw_cert_rules.specs.Instruction.{byte_on}
use Rattle.bw_cert_rules.specs.Join.{is_valid_keep}
use Rattle.bw_cert_rules.specs.Known.{KnownNodes, node_of, nothing_known, with_node}
use Rattle.bw_cert_rules.specs.Walk.{WalkState, keep_in, by_keep, keeps_taken, join_taken, is_join}
use Rattle.bw_cert_rules.specs.Walk.{instruction_on, instruction_taken, apply_join}
use Rattle.bw_cert_rules.proofs.JoinLemmas.{keep_step}
use Rattle.bw_cert_rules.proofs.WrittenLemmas.{taken_of}
use Rattle.bw_cert.specs.FirstFault.{WrongLine, WrongKeep, WrongJoin}
use Rattle.bw_cert_rules.proofs.HoldLemmas.{ok_same}

pub err_same : (A : Type 0) (x y : Fault) → ◌≡◌ {A = Result A Fault} (Err x) (Err y) → x ≡ y
err_same A x y is = cc

-- what was rejected along a chain was rejected at its first step, or after it
pub bind_err : {A B : Type 0} (r : Result A Fault) (f : A → Result B Fault) (fault : Fault) → (r >>= f) ≡ Err fault → (r ≡ Err fault) ⊎ ((x : A) × (r ≡ Ok x) × (f x ≡ Err fault))
bind_err (Ok x) f fault is = inr (x, refl, is)
bind_err {A = A} {B = B} (Err first) f fault is = inl (ap (λ (fault : Fault). Err fault) (err_same B first fault is))

map_err : {A B : Type 0} (r : Result A Fault) (g : A → B) (fault : Fault) → ◌≡◌ {A = Result B Fault} (r >>= λ x. Ok (g x)) (Err fault) → r ≡ Err fault
map_err (Ok x) g fault is = cc
map_err {A = A} {B = B} (Err first) g fault is = ap (λ (fault : Fault). Err fault) (err_same B first fault is)

-- the line of an instruction
pub line_wrong : (facts : Facts) (end : ℕ) (known : KnownNodes) (instr : Instr) (lines : List BodyLine) (fault : Fault) → instruction_taken facts end known instr lines ≡ Err fault → WrongLine facts end known instr lines fault
line_wrong facts end known instr [] fault is = sym (err_same WalkState (at_line 607 end) fault is)
line_wrong facts end known instr (line ∷ lines) fault is = map_err (instruction_on facts known instr line line.entry) (taken_of lines) fault is

pub wrong_line : (facts : Facts) (end : ℕ) (known : KnownNodes) (instr : Instr) (lines : List BodyLine) (fault : Fault) → WrongLine facts end known instr lines fault → instruction_taken facts end known instr lines ≡ Err fault
wrong_line facts end known instr [] fault is = ap (λ (fault : Fault). Err fault) (sym is)
wrong_line facts end known instr (line ∷ lines) fault is = ap (λ (r : Result KnownNodes Fault). r >>= λ known. Ok (taken_of lines known)) is

-- a line that says what is kept of a register
entry_is : (entry : Entry) (keep : Keep) → keep_in entry ≡ Some keep → entry ≡ line_of.Keep keep
entry_is (line_of.Keep k) keep is = let same : k ≡ keep = cc in ap line_of.Keep same
entry_is _ keep is = cc

abbrev kept_of : BodyLine → Keep → KeepLine
kept_of line keep = record { line = line.line; keep = keep }

line_is : (line : BodyLine) (keep : Keep) → keep_in line.entry ≡ Some keep → line ≡ keep_line (kept_of line keep)
line_is line keep is = ap (λ (entry : Entry). record { line = line.line; entry = entry }) (entry_is line.entry keep is)

module _ (facts : Facts) (through : KnownNodes) (edges : List Edge) where
  abbrev pub next_keep : ℕ → KnownNodes → BodyLine → List BodyLine → Keep → Result WalkState Fault
  next_keep least kept line lines keep =
      refused_if (not (is_valid_keep facts through edges least keep)) (at_line 608 line.line) (keeps_taken facts through edges (suc keep.register) (with_node kept keep.register keep.node) lines)

  pub keep_wrong : (least : ℕ) (kept : KnownNodes) (lines : List BodyLine) (fault : Fault) → keeps_taken facts through edges least kept lines ≡ Err fault → WrongKeep facts through edges least lines fault
  unfolding keeps_taken are_kept
  keep_wrong least kept [] fault is = cc
  keep_wrong least kept (line ∷ lines) fault is =
      at (keep_in line.entry) refl is (λ keep. keep_wrong (suc keep.register) (with_node kept keep.register keep.node) lines fault)
    where
      judged : (keep : Keep) (holds : Bool) → keep_in line.entry ≡ Some keep → is_valid_keep facts through edges least keep ≡ holds →
          refused_if (not holds) (at_line 608 line.line) (keeps_taken facts through edges (suc keep.register) (with_node kept keep.register keep.node) lines) ≡ Err fault →
          (keeps_taken facts through edges (suc keep.register) (with_node kept keep.register keep.node) lines ≡ Err fault → WrongKeep facts through edges (suc keep.register) lines fault) →
          WrongKeep facts through edges least (line ∷ lines) fault
      judged keep false there holds is rest = record {
        keeps = [];
        wrong = kept_of line keep;
        others = lines;
        spelled = ap (λ (line : BodyLine). line ∷ lines) (line_is line keep there);
        kept = refl;
        broken = ap (λ b. b && true) holds;
        stands = sym (err_same WalkState (at_line 608 line.line) fault is);
      }
      judged keep true there holds is rest =
          let more = rest is in
          record {
            keeps = kept_of line keep ∷ more.keeps;
            wrong = more.wrong;
            others = more.others;
            spelled = ap₂ (λ (line : BodyLine) (lines : List BodyLine). line ∷ lines) (line_is line keep there) more.spelled;
            kept = ap₂ (λ a b. a && b) holds more.kept;
            broken = ap₂ (λ a b. a && b) holds more.broken;
            stands = more.stands;
          }

      at : (said : Option Keep) → keep_in line.entry ≡ said → by_keep said (Ok (taken_of (line ∷ lines) kept)) (next_keep least kept line lines) ≡ Err fault →
          ((keep : Keep) → keeps_taken facts through edges (suc keep.register) (with_node kept keep.register keep.node) lines ≡ Err fault → WrongKeep facts through edges (suc keep.register) lines fault) →
          WrongKeep facts through edges least (line ∷ lines) fault
      at None there is rest = cc
      at (Some keep) there is rest = judged keep (is_valid_keep facts through edges least keep) there refl is (rest keep)

  wrong_keep : (least : ℕ) (kept : KnownNodes) (keeps : List KeepLine) (wrong : KeepLine) (others : List BodyLine) → are_kept facts through edges least keeps ≡ true →
      are_kept facts through edges least (keeps ++ wrong ∷ []) ≡ false → keeps_taken facts through edges least kept (map keep_line keeps ++ keep_line wrong ∷ others) ≡ Err (at_line 608 wrong.line)
  unfolding are_kept
  wrong_keep least kept [] wrong others hold broken =
      keep_step facts through edges least kept _ others (keep_line wrong) wrong.keep false refl refl (sym (and-true (is_valid_keep facts through edges least wrong.keep)) ∙ broken)
  wrong_keep least kept (k ∷ keeps) wrong others hold broken =
      let now = both (is_valid_keep facts through edges least k.keep) (are_kept facts through edges (suc k.keep.register) keeps) hold in
      let rest = are_kept facts through edges (suc k.keep.register) (keeps ++ wrong ∷ []) in
      keep_step facts through edges least kept _ (map keep_line keeps ++ keep_line wrong ∷ others) (keep_line k) k.keep true refl refl now.0
      ∙ wrong_keep (suc k.keep.register) (with_node kept k.keep.register k.keep.node) keeps wrong others now.1 (sym (ap (λ b. b && rest) now.0) ∙ broken)

  -- after the lines KEEP that were taken comes another line, or none
  pub keeps_stop : (least : ℕ) (kept : KnownNodes) (lines : List BodyLine) (taken : WalkState) → keeps_taken facts through edges least kept lines ≡ Ok taken → NoKeep taken.rest
  unfolding keeps_taken
  keeps_stop least kept [] taken is = subst (λ (t : WalkState). NoKeep t.rest) (ok_same is) tt
  keeps_stop least kept (line ∷ lines) taken is =
      at (keep_in line.entry) refl is (λ keep. keeps_stop (suc keep.register) (with_node kept keep.register keep.node) lines taken)
    where
      at : (said : Option Keep) → keep_in line.entry ≡ said → by_keep said (Ok (taken_of (line ∷ lines) kept)) (next_keep least kept line lines) ≡ Ok taken →
          ((keep : Keep) → keeps_taken facts through edges (suc keep.register) (with_node kept keep.register keep.node) lines ≡ Ok taken → NoKeep taken.rest) → NoKeep taken.rest
      at None there is rest = subst (λ (t : WalkState). NoKeep t.rest) (ok_same is) there
      at (Some keep) there is rest = rest keep (not_refused (not (is_valid_keep facts through edges least keep)) _ _ taken is).1

-- the join of a place
module _ (facts : Facts) (end place : ℕ) (through : KnownNodes) where
  abbrev pub after_join : List Edge → List BodyLine → Result WalkState Fault
  after_join edges lines = keeps_taken facts through edges 0 nothing_known lines

  pub join_wrong : (edges : List Edge) (lines : List BodyLine) (fault : Fault) → apply_join facts end place edges (taken_of lines through) ≡ Err fault → (0 < length edges) × WrongJoin facts end place through edges lines fault
  join_wrong [] lines fault is = cc
  join_wrong (edge ∷ edges) [] fault is = (omega arith, sym (err_same WalkState (at_line 608 end) fault is))
  join_wrong (edge ∷ edges) (line ∷ lines) fault is = (omega arith, at (is_join place line.entry) refl is)
    where
      at : (joins : Bool) → is_join place line.entry ≡ joins → (refused_if (not joins) (at_line 608 line.line) (Ok lines) >>= after_join (edge ∷ edges)) ≡ Err fault → WrongJoin facts end place through (edge ∷ edges) (line ∷ lines) fault
      at false joins is = inl (joins, sym (err_same WalkState (at_line 608 line.line) fault is))
      at true joins is = inr (joins, keep_wrong facts through (edge ∷ edges) 0 nothing_known lines fault is)

  pub wrong_join : (edges : List Edge) (lines : List BodyLine) (fault : Fault) → 0 < length edges → WrongJoin facts end place through edges lines fault → apply_join facts end place edges (taken_of lines through) ≡ Err fault
  wrong_join [] lines fault some wrong = absurd (omega (arith, some))
  wrong_join (edge ∷ edges) [] fault some wrong = ap (λ (fault : Fault). Err fault) (sym wrong)
  wrong_join (edge ∷ edges) (line ∷ lines) fault some (inl (other, stands)) =
      ap (λ b. refused_if (not b) (at_line 608 line.line) (Ok lines) >>= after_join (edge ∷ edges)) other ∙ ap (λ (fault : Fault). Err fault) (sym stands)
  wrong_join (edge ∷ edges) (line ∷ lines) fault some (inr (joins, keep)) =
      ap (λ b. refused_if (not b) (at_line 608 line.line) (Ok lines) >>= after_join (edge ∷ edges)) joins
      ∙ ap (after_join (edge ∷ edges)) keep.spelled
      ∙ wrong_keep facts through (edge ∷ edges) 0 nothing_known keep.keeps keep.wrong keep.others keep.kept keep.broken
      ∙ ap (λ (fault : Fault). Err fault) (sym keep.stands)

  -- if a join was taken, no further line KEEP follows it
  pub join_stops : (edges : List Edge) (lines : List BodyLine) (taken : WalkState) → 0 < length edges → apply_join facts end place edges (taken_of lines through) ≡ Ok taken → NoKeep taken.rest
  join_stops [] lines taken some is = absurd (omega (arith, some))
  join_stops (edge ∷ edges) lines taken some is =
      let check_instruction_line = bind_ok (join_taken end place lines) (after_join (edge ∷ edges)) taken is in
      keeps_stop facts through (edge ∷ edges) 0 nothing_known check_instruction_line.0 taken check_instruction_line.2

-- an error on this line
abbrev IsOn : ℕ → Fault → Type 0
IsOn line fault = fault ≡ at_line fault.code line

-- the errors of an instruction's line are on it
module _ (facts : Facts) (known : KnownNodes) (line : ℕ) where
  found_stands : {A : Type 0} (code : ℕ) (o : Option A) → IfErr (found_on code line o) (IsOn line)
  found_stands code None = refl
  found_stands code (Some x) = tt

  put_stands : (register : ℕ) (given : Result ℕ Fault) → IfErr given (IsOn line) → IfErr (set_register known register given) (IsOn line)
  put_stands register given here = then_so (IsOn line) given _ here (λ node. tt)

  plane_stands : (there : Bool) (variable : ℕ) (given : InstructionEntry) → IfErr (plane_on facts line there variable given) (IsOn line)
  plane_stands there variable given =
      then_so (IsOn line) (found_on 607 line (loaded_node given)) _ (found_stands 607 (loaded_node given))
      (λ node. refused_so (IsOn line) (not there) (at_line 607 line) _ refl (found_stands 607 (variable_node facts variable node)))

  joined_stands : (op : Connective) (x y : ℕ) (given : InstructionEntry) → IfErr (joined_on facts known line op x y given) (IsOn line)
  joined_stands op x y given =
      then_so (IsOn line) (found_on 607 line (operation_row given)) _ (found_stands 607 (operation_row given))
      (λ row. then_so (IsOn line) (read_on known line x) _ (found_stands 609 (node_of known x))
      (λ a. then_so (IsOn line) (read_on known line y) _ (found_stands 609 (node_of known y)) (λ b. found_stands 607 (product_node facts op a b row))))

  opposite_stands : (x : ℕ) (given : InstructionEntry) → IfErr (opposite_on facts known line x given) (IsOn line)
  opposite_stands x given =
      then_so (IsOn line) (found_on 607 line (operation_row given)) _ (found_stands 607 (operation_row given))
      (λ row. then_so (IsOn line) (read_on known line x) _ (found_stands 609 (node_of known x)) (λ a. found_stands 607 (product_node facts connective.Diff 1 a row)))

  byte_stands : (kind : ChainKind) (there : Bool) (column slice k : ℕ) (given : InstructionEntry) → IfErr (byte_on facts line kind there column slice k given) (IsOn line)
  byte_stands kind there column slice k given =
      then_so (IsOn line) (found_on 607 line (byte_chain given)) _ (found_stands 607 (byte_chain given))
      (λ chain. refused_so (IsOn line) (not there) (at_line 607 line) _ refl (found_stands 607 (byte_node facts kind column slice k chain)))

  after_stands : (i : Instr) (given : InstructionEntry) → IfErr (check_instruction_line facts known line i given) (IsOn line)
  unfolding check_instruction_line
  after_stands (does.Load r column bit) given = put_stands r _ (plane_stands _ _ given)
  after_stands (does.Nulls r column) given = put_stands r _ (plane_stands _ _ given)
  after_stands (does.Fill r bit) given = refused_so (IsOn line) (not (is_fill given)) (at_line 607 line) _ refl tt
  after_stands (does.And r x y) given = put_stands r _ (joined_stands connective.And x y given)
  after_stands (does.Or r x y) given = put_stands r _ (joined_stands connective.Or x y given)
  after_stands (does.Xor r x y) given = put_stands r _ (joined_stands connective.Xor x y given)
  after_stands (does.Not r x) given = put_stands r _ (opposite_stands x given)
  after_stands (does.ByteLt r column slice k) given = put_stands r _ (byte_stands Less _ column slice k given)
  after_stands (does.ByteEq r column slice k) given = put_stands r _ (byte_stands Equal _ column slice k given)
  after_stands (does.Skip x target) given =
      refused_so (IsOn line) (not (is_skip_line given)) (at_line 607 line) _ refl (then_so (IsOn line) (read_on known line x) _ (found_stands 609 (node_of known x)) (λ node. tt))

-- a line that is rejected in place of an instruction's is so on that line
pub line_stands : (facts : Facts) (known : KnownNodes) (instr : Instr) (line : BodyLine) (entry : Entry) (fault : Fault) → instruction_on facts known instr line entry ≡ Err fault → fault ≡ at_line fault.code line.line
line_stands facts known instr line (line_of.Instruction given) fault is =
    fault_so (IsOn line.line) (check_instruction_line facts known line.line instr given) fault (after_stands facts known line.line instr given) is
line_stands facts known instr line _ fault is = fault_so {A = KnownNodes} (IsOn line.line) (Err (at_line 607 line.line)) fault refl is
