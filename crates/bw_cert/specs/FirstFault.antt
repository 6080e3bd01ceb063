-- The first error in the lines of a program's instructions and joins, by the lines before it: those
-- of parts that satisfy their rules. `FirstFault` doesn't mention any walk over the lines;
-- `StandsOn` states that the walk looks no further.
use Rattle.std.specs.Prelude.{◌≡◌, ◌<◌, ◌⊎◌, ℕ, suc, false, IsTrue, List, [], ◌∷◌, ◌++◌, length}
use Rattle.std.specs.Prelude.{map, Ok, Err}
use Rattle.bw_model.specs.FaultTable.{INSTRUCTION_LINE, JOIN}
use Rattle.bw_model.specs.declared.fault.Fault.{Fault}
use Rattle.bw_model.specs.Fault.{at_line}
use Rattle.bw_diagram.specs.Facts.{Facts}
use Rattle.bw_program.specs.declared.instr.Instr.{Instr}
use Rattle.bw_cert_text.specs.declared.lines.BodyLine.{BodyLine}
use Rattle.bw_cert_text.specs.declared.lines.Entry.TheVariants as line_of
use Rattle.bw_cert_text.specs.declared.lines.InstructionEntry.{InstructionEntry}
use Rattle.bw_cert_rules.specs.declared.edge.Edge.{Edge}
use Rattle.bw_cert_rules.specs.Accepted.{KeepLine, Part, AreValidParts, keep_line}
use Rattle.bw_cert_rules.specs.Accepted.{lines_of, known_before, edges_before, are_kept, KeepsAreAll}
use Rattle.bw_cert_rules.specs.Instruction.{check_instruction_line}
use Rattle.bw_cert_rules.specs.Join.{edge_of, with_edge, edges_into}
use Rattle.bw_cert_rules.specs.Known.{KnownNodes}
use Rattle.bw_cert_rules.specs.Walk.{instruction_on, is_join, check_lines}

-- The line of an instruction is expected. The next line is another, or breaks its rule, whatever
-- follows it; or there is none, and the error is at END (607).
abbrev pub WrongLine : Facts → ℕ → KnownNodes → Instr → List BodyLine → Fault → Type 0
WrongLine facts end known instr [] fault = fault ≡ at_line INSTRUCTION_LINE end
WrongLine facts end known instr (line ∷ lines) fault = instruction_on facts known instr line
    line.entry ≡ Err fault

-- After lines KEEP that are true, of registers that ascend from the least, follows one that isn't,
-- whatever follows it (608).
pub record WrongKeep (facts : Facts) (through : KnownNodes) (edges : List Edge) (least : ℕ)
    (lines : List BodyLine)
    (fault : Fault) : Type 0 where
  pub keeps : List KeepLine
  pub wrong : KeepLine
  pub others : List BodyLine
  pub spelled : lines ≡ map keep_line keeps ++ keep_line wrong ∷ others
  pub kept : IsTrue (are_kept facts through edges least keeps)
  pub broken : are_kept facts through edges least (keeps ++ wrong ∷ []) ≡ false
  pub stands : fault ≡ at_line JOIN wrong.line

-- The line JOIN of a place is expected. The next line is another (608); or there is none, and the
-- error is at END; or it is that line, and a line KEEP after it isn't true.
abbrev pub WrongJoin : Facts → ℕ → ℕ → KnownNodes → List Edge → List BodyLine → Fault → Type 0
WrongJoin facts end place through edges [] fault = fault ≡ at_line JOIN end
WrongJoin facts end place through edges (line ∷ lines) fault =
    ((is_join place line.entry ≡ false) × (fault ≡ at_line JOIN line.line))
    ⊎ (IsTrue (is_join place line.entry) × WrongKeep facts through edges 0 lines fault)

-- The next line is the instruction's and satisfies its rule. Skips lead to the place after it, but
-- the next lines aren't that place's join.
pub record WrongPlace (facts : Facts) (end place : ℕ) (known : KnownNodes) (edges : List Edge)
    (instr : Instr)
    (lines : List BodyLine) (fault : Fault) : Type 0 where
  pub line : ℕ
  pub entry : InstructionEntry
  pub rest : List BodyLine
  pub spelled : lines ≡ record { line = line; entry = line_of.Instruction entry } ∷ rest
  pub through : KnownNodes
  pub says : check_instruction_line facts known line instr entry ≡ Ok through
  pub skips : 0 < length edges
  pub wrong : WrongJoin facts end place through edges rest fault

-- what is known after these first instructions
abbrev pub known_after : Facts → List Instr → List Part → KnownNodes
known_after facts first parts = known_before facts first parts (length first)

-- the edges of the skips, among these and one more instruction, that lead to the place after them
abbrev pub edges_after : Facts → List Instr → List Part → Instr → List Edge
edges_after facts first parts instr =
    edges_into (suc (length first)) (with_edge (edges_before facts first parts (length first))
    (edge_of (known_after facts first parts) instr))

-- The first error in the lines, if END has this number.
pub record FirstFault (facts : Facts) (instrs : List Instr) (end : ℕ) (lines : List BodyLine)
    (fault : Fault) : Type 0 where
  -- the instructions are some first ones, then this one, then others
  pub first : List Instr
  pub instr : Instr
  pub others : List Instr
  pub instructions : instrs ≡ first ++ instr ∷ others
  -- the lines begin with those of parts that satisfy the rules of the first instructions
  pub parts : List Part
  pub valid_parts : AreValidParts facts first parts
  pub rest : List BodyLine
  pub spelled : lines ≡ lines_of 0 parts ++ rest
  pub whole : KeepsAreAll parts rest
  -- of the remaining lines, that of this instruction, or of the join after it, is the first that
  -- breaks its rule
  pub wrong : WrongLine facts end (known_after facts first parts) instr rest fault
      ⊎ WrongPlace facts end (suc (length first)) (known_after facts first parts)
      (edges_after facts first parts instr) instr rest fault

-- The error is on one of the lines, and is the same whatever lines follow that one.
pub record StandsOn (facts : Facts) (instrs : List Instr) (end : ℕ) (lines : List BodyLine)
    (fault : Fault) : Type 0 where
  pub upto : List BodyLine
  pub line : BodyLine
  pub others : List BodyLine
  pub spelled : lines ≡ upto ++ line ∷ others
  pub stands : fault ≡ at_line fault.code line.line
  pub alike : (further : List BodyLine) → check_lines facts instrs end (upto ++ line ∷ further)
      ≡ Err fault
