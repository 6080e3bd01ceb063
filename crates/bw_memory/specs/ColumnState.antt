-- What is known of a column, and what reading it gives then.
use Rattle.std.specs.Prelude.{◌≡◌, Bool, Result, Ok, Err, false, true}
use Rattle.bw_model.specs.declared.fault.Fault.{Fault}
use Rattle.bw_model.specs.Fault.{nowhere}
use Rattle.bw_model.specs.FaultTable.{READ_FAILED}
use Rattle.bw_io.specs.Source.{is_input_fault}
use Rattle.bw_memory.specs.declared.column_state.ColumnState.{ColumnState}
use Rattle.bw_memory.specs.declared.column_state.ColumnState.TheVariants.{Unread, Read, Damaged}

-- A column that was read needs no reading, and one that is damaged has its error again. If the file
-- is read no more, a column that wasn't read can't be.
abbrev pub IsReadAgain : Bool → ColumnState → Result (Unit {0}) Fault → Type 0
IsReadAgain lost Read result = result ≡ Ok tt
IsReadAgain lost (Damaged fault) result = result ≡ Err fault
IsReadAgain lost Unread result = lost ≡ true → result ≡ Err (nowhere READ_FAILED)

-- What is known once it was to be read. A failed read, or memory that is refused, tells nothing.
abbrev pub IsStateAfter : Result (Unit {0}) Fault → ColumnState → Type 0
IsStateAfter (Ok x) now = now ≡ Read
IsStateAfter (Err fault) now = is_input_fault fault ≡ false → now ≡ Damaged fault
