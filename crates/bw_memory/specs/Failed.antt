-- Reads that failed.
use Rattle.std.specs.Prelude.{Bool, Result, Ok, Err, false}
use Rattle.bw_model.specs.declared.fault.Fault.{Fault}
use Rattle.bw_io.specs.Source.{is_read_fault}

-- a call failed by a failed read
abbrev pub has_failed_to_read : {T : Type 0} → Result T Fault → Bool
has_failed_to_read (Ok x) = false
has_failed_to_read (Err fault) = is_read_fault fault
