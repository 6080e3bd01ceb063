-- The columns of a file by columns that have been read.
use Rattle.std.specs.Prelude.{◌≡◌, ◌≢◌, ◌<◌, ℕ, List, Option, false, slice_index_or}
use Rattle.bw_model.specs.declared.fault.Fault.{Fault}
use Rattle.bw_io.specs.Source.{is_input_fault}
use Rattle.bw_file.specs.TableReading.{IsTableFault}
use Rattle.bw_memory.specs.Columnar.{column_count, table_in}
use Rattle.bw_memory.specs.ColumnStore.{HasColumn, HasColumnFault, IsBlankColumn, header_of, in_file}
use Rattle.bw_memory.specs.declared.column_state.ColumnState.{ColumnState}
use Rattle.bw_memory.specs.declared.column_state.ColumnState.TheVariants as state
use Rattle.bw_memory.specs.declared.columnar.ColumnarTable.{ColumnarTable}

-- what is known of a column
abbrev pub state_of : List ColumnState → ℕ → ColumnState
state_of states column = slice_index_or states column state.Unread

-- a column that was read has the file's blocks
abbrev pub HasColumnsRead : Option (List ℕ) → ColumnarTable → List ColumnState → Type 0
HasColumnsRead known columnar states = (column : ℕ) → state_of states column ≡ state.Read
    → HasColumn (in_file known (header_of columnar)) (table_in columnar) column

-- and each other one blank blocks
abbrev pub IsBlankElsewhere : ColumnarTable → List ColumnState → Type 0
IsBlankElsewhere columnar states = (column : ℕ) → column < column_count columnar
    → state_of states column ≢ state.Read → IsBlankColumn (table_in columnar) column

-- the error of a damaged column is one that the file has in it, whoever reads it
abbrev pub HasColumnDamage : Option (List ℕ) → ColumnarTable → List ColumnState → Type 0
HasColumnDamage known columnar states = (column : ℕ) (fault : Fault)
    → state_of states column ≡ state.Damaged fault
    → HasColumnFault (in_file known (header_of columnar)) column fault × IsTableFault fault
    × (is_input_fault fault ≡ false)
