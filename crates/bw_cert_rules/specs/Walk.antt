-- The lines of a program's instructions and joins, checked one after another: what is known at the
-- end, or the first error.
use Rattle.std.specs.Prelude.{ℕ, suc, Bool, false, not, ◌==◌, List, [], ◌∷◌, map, Option, Some}
use Rattle.std.specs.Prelude.{None, Result, Ok, Err}
use Rattle.bw_model.specs.FaultTable.{INSTRUCTION_LINE, JOIN}
use Rattle.bw_model.specs.declared.fault.Fault.{Fault}
use Rattle.bw_model.specs.Fault.{at_line, ◌>>=◌, refused_if}
use Rattle.bw_diagram.specs.Facts.{Facts}
use Rattle.bw_program.specs.declared.instr.Instr.{Instr}
use Rattle.bw_cert_text.specs.declared.lines.BodyLine.{BodyLine}
use Rattle.bw_cert_text.specs.declared.lines.Entry.{Entry}
use Rattle.bw_cert_text.specs.declared.lines.Entry.TheVariants as line_of
use Rattle.bw_cert_text.specs.declared.lines.Keep.{Keep}
use Rattle.bw_cert_text.specs.CertificateFields.{BodyFields, body_fields}
use Rattle.bw_cert_rules.specs.declared.edge.Edge.{Edge}
use Rattle.bw_cert_rules.specs.Known.{KnownNodes, with_node, nothing_known}
use Rattle.bw_cert_rules.specs.Instruction.{check_instruction_line}
use Rattle.bw_cert_rules.specs.Join.{edge_of, with_edge, edges_into, is_valid_keep}

-- what is known after the lines that were consumed, and the other lines
pub record WalkState : Type 0 where
  pub known : KnownNodes
  pub rest : List BodyLine

-- The same result with each line replaced by its fields, so that equal lines at different addresses
-- compare equal.
abbrev pub line_fields : Result WalkState Fault → Result (KnownNodes × List BodyFields) Fault
line_fields (Ok taken) = Ok (taken.known, map body_fields taken.rest)
line_fields (Err fault) = Err fault

-- the line of an instruction is expected: any other is wrong (607), and if the lines have run out,
-- END is
abbrev pub instruction_on : Facts → KnownNodes → Instr → BodyLine → Entry → Result KnownNodes Fault
instruction_on facts known instr line (line_of.Instruction given) = check_instruction_line facts
    known line.line
    instr given
instruction_on facts known instr line (line_of.Keep keep) = Err (at_line INSTRUCTION_LINE line.line)
instruction_on facts known instr line _ = Err
    (at_line INSTRUCTION_LINE line.line)

abbrev pub instruction_taken : Facts → ℕ → KnownNodes → Instr → List BodyLine
    → Result WalkState Fault
instruction_taken facts end known instr [] = Err (at_line INSTRUCTION_LINE end)
instruction_taken facts end known instr (line ∷ lines) =
    instruction_on facts known instr line line.entry
    >>= λ through. Ok (record { known = through; rest = lines })

-- the line JOIN of a place
abbrev pub is_join : ℕ → Entry → Bool
is_join place (line_of.Join target) = target == place
is_join place _ = false

abbrev pub join_taken : ℕ → ℕ → List BodyLine → Result (List BodyLine) Fault
join_taken end place [] = Err (at_line JOIN end)
join_taken end place (line ∷ lines) = refused_if (not (is_join place line.entry))
    (at_line JOIN line.line) (Ok lines)

abbrev pub keep_in : Entry → Option Keep
keep_in (line_of.Keep keep) = Some keep
keep_in _ = None

-- a result for a line KEEP, or another for any other line
abbrev pub by_keep : {A : Type 0} → Option Keep → A → (Keep → A) → A
by_keep None other kept = other
by_keep (Some keep) other kept = kept keep

-- All KEEP lines that follow, of ascending registers from the least on: only those registers then
-- have nodes. A line that breaks its rule is 608.
unfoldable pub keeps_taken : Facts → KnownNodes → List Edge → ℕ → KnownNodes → List BodyLine
    → Result WalkState Fault
keeps_taken facts through edges least kept [] = Ok (record { known = kept; rest = [] })
keeps_taken facts through edges least kept (line ∷ lines) =
    by_keep (keep_in line.entry) (Ok (record { known = kept; rest = line ∷ lines }))
    (λ keep. refused_if (not (is_valid_keep facts through edges least keep))
    (at_line JOIN line.line)
    (keeps_taken facts through edges (suc keep.register) (with_node kept keep.register keep.node)
    lines))

-- if skips lead to a place, its join is expected; else what falls through is known
abbrev pub apply_join : Facts → ℕ → ℕ → List Edge → WalkState → Result WalkState Fault
apply_join facts end place [] taken = Ok taken
apply_join facts end place (edge ∷ edges) taken =
    join_taken end place taken.rest >>= λ lines. keeps_taken facts taken.known
    (edge ∷ edges) 0 nothing_known lines

-- the lines of instructions from a place on, to which these edges lead from before it, with what is
-- known there
unfoldable pub check_lines_from : Facts → ℕ → ℕ → List Edge → List Instr → WalkState
    → Result WalkState Fault
check_lines_from facts end place edges [] taken = Ok taken
check_lines_from facts end place edges (instr ∷ instrs) taken =
    instruction_taken facts end taken.known instr taken.rest >>= λ through.
    apply_join facts end (suc place)
    (edges_into (suc place) (with_edge edges (edge_of taken.known instr))) through
    >>= λ apply_join.
    check_lines_from facts end (suc place) (with_edge edges (edge_of taken.known instr)) instrs
    apply_join

-- the lines of all of a program's instructions; END has the number `end`
abbrev pub check_lines : Facts → List Instr → ℕ → List BodyLine → Result WalkState Fault
check_lines facts instrs end lines = check_lines_from facts end 0 [] instrs
    (record { known = nothing_known; rest = lines })
