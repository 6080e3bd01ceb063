-- What is known of a program's registers at a place: for each of the 64 the node whose value it has
-- in every lane, or none.
use Rattle.std.specs.Prelude.{ℕ, Bool, ◌&&◌, ◌||◌, List, replicate, Option, Some, None, nat_le}
use Rattle.std.specs.Prelude.{slice_index_or, slice_set}
use Rattle.bw_model.specs.FaultTable.{INSTRUCTION_LINE, REGISTER_UNKNOWN}
use Rattle.bw_model.specs.declared.fault.Fault.{Fault}
use Rattle.bw_model.specs.Fault.{is_memory}
use Rattle.bw_text.specs.Register.{register_count}

abbrev pub KnownNodes : Type 0
KnownNodes = List (Option ℕ)

-- the node of a register, if one is known
abbrev pub node_of : KnownNodes → ℕ → Option ℕ
node_of known register = slice_index_or known register None

-- nothing is known, as at the start
unfoldable pub nothing_known : KnownNodes
nothing_known = replicate register_count None

-- this register has this node, and the others have what they had
abbrev pub with_node : KnownNodes → ℕ → ℕ → KnownNodes
with_node known register node = slice_set known register (Some node)

-- the error is one of 607 to 609, or out of memory
abbrev pub is_known_fault : Fault → Bool
is_known_fault fault = (nat_le INSTRUCTION_LINE fault.code && nat_le fault.code REGISTER_UNKNOWN)
    || is_memory fault
