-- The numbers of a statement's errors.
use Rattle.std.specs.Prelude.{ℕ, Bool, IsTrue, ◌&&◌, ◌||◌, nat_le}
use Rattle.bw_model.specs.FaultTable.{CHARACTER, SYNTAX, UNKNOWN_TABLE, UNKNOWN_COLUMN, LITERAL}
use Rattle.bw_model.specs.FaultTable.{MIXED_ITEMS, NESTING}
use Rattle.bw_sql.specs.declared.reader.Refusal.{Refusal}
use Rattle.bw_sql.specs.declared.reader.Refusal.TheVariants.{Syntax, UnknownTable, UnknownColumn}
use Rattle.bw_sql.specs.declared.reader.Refusal.TheVariants.{Literal, MixedItems, Nesting}
use Rattle.bw_model.specs.declared.fault.Fault.{Fault}
use Rattle.bw_model.specs.Fault.{is_memory}

abbrev pub code_of : Refusal → ℕ
code_of Syntax = SYNTAX
code_of UnknownTable = UNKNOWN_TABLE
code_of UnknownColumn = UNKNOWN_COLUMN
code_of Literal = LITERAL
code_of MixedItems = MIXED_ITEMS
code_of Nesting = NESTING

-- one of 401 to 408, or out of memory
abbrev pub is_statement_fault : Fault → Bool
is_statement_fault fault = (nat_le CHARACTER fault.code && nat_le fault.code NESTING)
    || is_memory fault

abbrev pub IsStatementFault : Fault → Type 0
IsStatementFault fault = IsTrue (is_statement_fault fault)
