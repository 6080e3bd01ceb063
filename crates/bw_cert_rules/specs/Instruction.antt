-- The rules of instructions' lines: what is known of the registers after an instruction, by its
-- line.
use Rattle.std.specs.Prelude.{ℕ, ◌*◌, ◌^◌, Bool, true, false, not, Option, Some, None, Result, Ok}
use Rattle.std.specs.Prelude.{if◌then◌else◌, nat_le}
use Rattle.bw_model.specs.FaultTable.{INSTRUCTION_LINE, REGISTER_UNKNOWN}
use Rattle.bw_model.specs.declared.fault.Fault.{Fault}
use Rattle.bw_model.specs.Fault.{at_line, ◌>>=◌, refused_if}
use Rattle.bw_model.specs.StoredCodes.{bits_in_slice}
use Rattle.bw_model.specs.Variable.{first_variable, bit_variable}
use Rattle.bw_diagram.specs.declared.chain.ChainKind.{ChainKind}
use Rattle.bw_diagram.specs.declared.chain.ChainKind.TheVariants.{Less, Equal}
use Rattle.bw_diagram.specs.declared.product.Connective.{Connective}
use Rattle.bw_diagram.specs.declared.product.Connective.TheVariants as connective
use Rattle.bw_diagram.specs.Facts.{Facts}
use Rattle.bw_diagram.specs.References.{product_node, comparison_node, variable_node}
use Rattle.bw_program.specs.declared.instr.Instr.{Instr}
use Rattle.bw_program.specs.declared.instr.Instr.TheVariants.{Load, Nulls, Fill, And, Or, Xor, Not}
use Rattle.bw_program.specs.declared.instr.Instr.TheVariants.{ByteLt, ByteEq, Skip}
use Rattle.bw_program.specs.Program.{instr_fits}
use Rattle.bw_program.specs.ProgramText.{found_on}
use Rattle.bw_cert_text.specs.declared.lines.InstructionEntry.{InstructionEntry}
use Rattle.bw_cert_text.specs.declared.lines.InstructionEntry.TheVariants as entry
use Rattle.bw_cert_rules.specs.Known.{KnownNodes, node_of, with_node}

-- the fields of a line of each kind: the node of a plane, the product row of an operation, or the
-- chain of a byte comparison, if it names one; or that it is the line of a constant or of a skip
abbrev pub loaded_node : InstructionEntry → Option ℕ
loaded_node (entry.Load node) = Some node
loaded_node _ = None

abbrev pub operation_row : InstructionEntry → Option ℕ
operation_row (entry.Op row) = Some row
operation_row _ = None

abbrev pub byte_chain : InstructionEntry → Option (Option ℕ)
byte_chain (entry.Byte chain) = Some chain
byte_chain _ = None

abbrev pub is_fill : InstructionEntry → Bool
is_fill entry.Fill = true
is_fill _ = false

abbrev pub is_skip_line : InstructionEntry → Bool
is_skip_line entry.Skip = true
is_skip_line _ = false

-- the terminal of a bit
abbrev pub terminal : Bool → ℕ
terminal true = 1
terminal false = 0

-- A plane that exists has the node that the line names, if that is the node of its variable. Else
-- the line is wrong (607).
abbrev pub plane_on : Facts → ℕ → Bool → ℕ → InstructionEntry → Result ℕ Fault
plane_on facts line there variable given =
    found_on INSTRUCTION_LINE line (loaded_node given) >>= λ node.
    refused_if (not there) (at_line INSTRUCTION_LINE line)
    (found_on INSTRUCTION_LINE line (variable_node facts variable node))

-- An operation on two nodes has the third node of the product row that its line names, if that is
-- the row of these nodes.
abbrev pub operation_on : Facts → ℕ → Connective → ℕ → ℕ → ℕ → Result ℕ Fault
operation_on facts line op a b row = found_on INSTRUCTION_LINE line (product_node facts op a b row)

-- the node of a register that is read, which must be known (609)
abbrev pub read_on : KnownNodes → ℕ → ℕ → Result ℕ Fault
read_on known line register = found_on REGISTER_UNKNOWN line (node_of known register)

-- an operation on two registers
abbrev pub joined_on : Facts → KnownNodes → ℕ → Connective → ℕ → ℕ → InstructionEntry
    → Result ℕ Fault
joined_on facts known line op x y given =
    found_on INSTRUCTION_LINE line (operation_row given) >>= λ row.
    read_on known line x >>= λ a. read_on known line y >>= λ b. operation_on facts line op a b row

-- the complement of a register, which is "1 and not" its node
abbrev pub opposite_on : Facts → KnownNodes → ℕ → ℕ → InstructionEntry → Result ℕ Fault
opposite_on facts known line x given =
    found_on INSTRUCTION_LINE line (operation_row given) >>= λ row.
    read_on known line x >>= λ a. operation_on facts line connective.Diff 1 a row

-- every byte of a slice is less than a number past them, and none equals it
abbrev pub past_node : ChainKind → ℕ
past_node Less = 1
past_node Equal = 0

-- the node of a byte comparison: a terminal if the number is past the slice's bytes and the line
-- names no chain; else that of the chain it names, over the slice's bits and with this bound
abbrev pub byte_node : Facts → ChainKind → ℕ → ℕ → ℕ → Option ℕ → Option ℕ
byte_node facts kind column slice k None =
    if nat_le (2 ^ bits_in_slice facts.columns column slice) k then Some (past_node kind) else None
byte_node facts kind column slice k (Some chain) =
    if nat_le (2 ^ bits_in_slice facts.columns column slice) k then None
    else comparison_node facts kind column (8 * slice) (bits_in_slice facts.columns column slice) k
    chain

-- a byte comparison, of a slice that exists
abbrev pub byte_on : Facts → ℕ → ChainKind → Bool → ℕ → ℕ → ℕ → InstructionEntry → Result ℕ Fault
byte_on facts line kind there column slice k given =
    found_on INSTRUCTION_LINE line (byte_chain given) >>= λ chain.
    refused_if (not there) (at_line INSTRUCTION_LINE line)
    (found_on INSTRUCTION_LINE line (byte_node facts kind column slice k chain))

-- the register gets the node, if there is one
abbrev pub set_register : KnownNodes → ℕ → Result ℕ Fault → Result KnownNodes Fault
set_register known register given = given >>= λ node. Ok (with_node known register node)

-- the register gets the node of a constant, if the line is a constant's
abbrev pub fill : KnownNodes → ℕ → ℕ → Bool → InstructionEntry → Result KnownNodes Fault
fill known line register bit given = refused_if (not (is_fill given))
    (at_line INSTRUCTION_LINE line)
    (Ok (with_node known register (terminal bit)))

-- the register that a skip reads must have a node, and the line must be a skip's
abbrev pub check_skip : KnownNodes → ℕ → ℕ → InstructionEntry → Result KnownNodes Fault
check_skip known line register given = refused_if (not (is_skip_line given))
    (at_line INSTRUCTION_LINE line)
    (read_on known line register >>= λ node. Ok known)

-- What is known after an instruction, by its line: the register that it writes has the node that
-- the line shows. A line of another kind, or one that doesn't show it, is 607. A line of the right
-- kind is 609 if the instruction reads a register without a node. A skip changes nothing.
unfoldable pub check_instruction_line : Facts → KnownNodes → ℕ → Instr → InstructionEntry
    → Result KnownNodes Fault
check_instruction_line facts known line (Load r column bit) given =
    set_register known r (plane_on facts line (instr_fits facts.columns (Load r column bit))
    (bit_variable facts.columns column bit) given)
check_instruction_line facts known line (Nulls r column) given =
    set_register known r (plane_on facts line (instr_fits facts.columns (Nulls r column))
    (first_variable facts.columns column) given)
check_instruction_line facts known line (Fill r bit) given = fill known line r bit given
check_instruction_line facts known line (And r x y) given = set_register known r
    (joined_on facts known line connective.And x y given)
check_instruction_line facts known line (Or r x y) given = set_register known r
    (joined_on facts known line connective.Or x y given)
check_instruction_line facts known line (Xor r x y) given = set_register known r
    (joined_on facts known line connective.Xor x y given)
check_instruction_line facts known line (Not r x) given = set_register known r
    (opposite_on facts known line x given)
check_instruction_line facts known line (ByteLt r column slice k) given =
    set_register known r (byte_on facts line Less
    (instr_fits facts.columns (ByteLt r column slice k)) column slice k given)
check_instruction_line facts known line (ByteEq r column slice k) given =
    set_register known r (byte_on facts line Equal
    (instr_fits facts.columns (ByteEq r column slice k)) column slice k given)
check_instruction_line facts known line (Skip x target) given = check_skip known line x given
