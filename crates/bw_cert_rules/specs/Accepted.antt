-- When lines state what is known of a program's registers, place by place. It doesn't mention how
-- lines are checked.
use Rattle.std.specs.Prelude.{◌≡◌, ℕ, zero, suc, Bool, true, false, ◌&&◌, IsTrue, List, [], ◌∷◌}
use Rattle.std.specs.Prelude.{◌++◌, length, map, Option, Some, None, Result, Ok, Err, slice_get, ⊤}
use Rattle.bw_model.specs.declared.fault.Fault.{Fault}
use Rattle.bw_diagram.specs.Facts.{Facts}
use Rattle.bw_program.specs.declared.instr.Instr.{Instr}
use Rattle.bw_cert_text.specs.declared.lines.BodyLine.{BodyLine}
use Rattle.bw_cert_text.specs.declared.lines.Entry.TheVariants as line_of
use Rattle.bw_cert_text.specs.declared.lines.InstructionEntry.{InstructionEntry}
use Rattle.bw_cert_text.specs.declared.lines.Keep.{Keep}
use Rattle.bw_cert_rules.specs.declared.edge.Edge.{Edge}
use Rattle.bw_cert_rules.specs.Known.{KnownNodes, nothing_known, with_node}
use Rattle.bw_cert_rules.specs.Instruction.{check_instruction_line}
use Rattle.bw_cert_rules.specs.Walk.{WalkState, keep_in}
use Rattle.bw_cert_rules.specs.Join.{edge_of, with_edge, edges_into, is_valid_keep}

-- a line KEEP with its number
pub record KeepLine : Type 0 where
  pub line : ℕ
  pub keep : Keep

-- the number of a line JOIN, and the lines KEEP after it
pub record JoinLines : Type 0 where
  pub line : ℕ
  pub keeps : List KeepLine

-- the lines of one instruction: its own, and those of the join after it, if there is one
pub record Part : Type 0 where
  pub line : ℕ
  pub entry : InstructionEntry
  pub join : Option JoinLines

abbrev pub keep_line : KeepLine → BodyLine
keep_line k = record { line = k.line; entry = line_of.Keep k.keep }

abbrev pub join_lines : ℕ → Option JoinLines → List BodyLine
join_lines place None = []
join_lines place (Some join) = record { line = join.line; entry = line_of.Join place }
    ∷ map keep_line join.keeps

-- the lines of parts, the first of which has this number
unfoldable pub lines_of : ℕ → List Part → List BodyLine
lines_of place [] = []
lines_of place (part ∷ parts) =
    record { line = part.line; entry = line_of.Instruction part.entry }
    ∷ (join_lines (suc place) part.join ++ lines_of (suc place) parts)

-- what is known after lines KEEP: the registers that they name, and nothing else
unfoldable pub kept_by : KnownNodes → List KeepLine → KnownNodes
kept_by known [] = known
kept_by known (k ∷ keeps) = kept_by (with_node known k.keep.register k.keep.node) keeps

-- What is known on fall-through from an instruction, by its line; nothing if the line breaks its
-- rule.
abbrev pub known_or_nothing : Result KnownNodes Fault → KnownNodes
known_or_nothing (Ok known) = known
known_or_nothing (Err fault) = nothing_known

abbrev pub known_on_fallthrough : Facts → KnownNodes → Instr → Part → KnownNodes
known_on_fallthrough facts known instr part = known_or_nothing
    (check_instruction_line facts known part.line instr part.entry)

-- what is known after an instruction: what its join keeps, or what falls through if there is no
-- join
abbrev pub known_after_join : KnownNodes → Option JoinLines → KnownNodes
known_after_join through None = through
known_after_join through (Some join) = kept_by nothing_known join.keeps

abbrev pub known_past : Facts → KnownNodes → Option Instr → Option Part → KnownNodes
known_past facts known (Some instr) (Some part) = known_after_join
    (known_on_fallthrough facts known instr part) part.join
known_past facts known _ _ = nothing_known

-- What is known before each place.
unfoldable pub known_before : Facts → List Instr → List Part → ℕ → KnownNodes
known_before facts instrs parts zero = nothing_known
known_before facts instrs parts (suc place) =
    known_past facts (known_before facts instrs parts place) (slice_get instrs place)
    (slice_get parts place)

-- the edge of the skip at a place, if there is one
abbrev pub edge_at : KnownNodes → Option Instr → Option Edge
edge_at known None = None
edge_at known (Some instr) = edge_of known instr

-- the edges of the skips before a place
unfoldable pub edges_before : Facts → List Instr → List Part → ℕ → List Edge
edges_before facts instrs parts zero = []
edges_before facts instrs parts (suc place) =
    with_edge (edges_before facts instrs parts place)
    (edge_at (known_before facts instrs parts place)
    (slice_get instrs place))

-- the lines KEEP are of ascending registers, from the least on, and each is true
unfoldable pub are_kept : Facts → KnownNodes → List Edge → ℕ → List KeepLine → Bool
are_kept facts through edges least [] = true
are_kept facts through edges least (k ∷ keeps) =
    is_valid_keep facts through edges least k.keep
    && are_kept facts through edges (suc k.keep.register) keeps

-- There is a join exactly if skips lead to the place, and what it keeps is true on fall-through and
-- by each skip.
abbrev pub is_valid_join : Facts → KnownNodes → List Edge → Option JoinLines → Bool
is_valid_join facts through [] None = true
is_valid_join facts through (edge ∷ edges) (Some join) = are_kept facts through
    (edge ∷ edges) 0 join.keeps
is_valid_join facts through _ _ = false

-- Parts, one for each instruction, satisfy their rules: each instruction's line its own, and each
-- place's join its own.
pub record AreValidParts (facts : Facts) (instrs : List Instr) (parts : List Part) : Type 0 where
  pub part_count : length parts ≡ length instrs
  pub instruction : (place : ℕ) (instr : Instr) (part : Part) → slice_get instrs place ≡ Some instr
      → slice_get parts place ≡ Some part
      → check_instruction_line facts (known_before facts instrs parts place) part.line instr
      part.entry
      ≡ Ok (known_on_fallthrough facts (known_before facts instrs parts place) instr part)
  pub join : (place : ℕ) (instr : Instr) (part : Part) → slice_get instrs place ≡ Some instr
      → slice_get parts place
      ≡ Some part
      → IsTrue (is_valid_join facts
      (known_on_fallthrough facts (known_before facts instrs parts place) instr part)
      (edges_into (suc place) (edges_before facts instrs parts (suc place))) part.join)

-- The lines state what is known at the end of a program, and others follow: they are those of parts
-- that satisfy their rules.
pub record Accepts (facts : Facts) (instrs : List Instr) (lines : List BodyLine)
    (taken : WalkState) : Type 0 where
  pub parts : List Part
  pub valid_parts : AreValidParts facts instrs parts
  pub spelled : lines ≡ lines_of 0 parts ++ taken.rest
  pub known : taken.known ≡ known_before facts instrs parts (length instrs)

-- the lines don't begin with a line KEEP
abbrev pub NoKeep : List BodyLine → Type 0
NoKeep [] = ⊤
NoKeep (line ∷ lines) = keep_in line.entry ≡ None

-- if the last part has a join, no line KEEP follows those of the join
abbrev pub KeepsAreAll : List Part → List BodyLine → Type 0
KeepsAreAll parts rest =
    (place : ℕ) (part : Part) (join : JoinLines)
    → suc place ≡ length parts → slice_get parts place ≡ Some part → part.join ≡ Some join
    → NoKeep rest
