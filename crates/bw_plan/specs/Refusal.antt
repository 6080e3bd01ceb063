-- Why nothing is proposed.
use Rattle.std.specs.Prelude.{Bool, IsTrue, ◌==◌, ◌||◌, ◌&&◌}
use Rattle.bw_model.specs.FaultTable.{NO_PROGRAM, OUT_OF_MEMORY}
use Rattle.bw_model.specs.declared.fault.Fault.{Fault}
use Rattle.bw_model.specs.Fault.{is_nowhere}

-- no program within the limits, or out of memory; neither has a place
abbrev pub is_refusal : Fault → Bool
is_refusal fault = ((fault.code == NO_PROGRAM) || (fault.code == OUT_OF_MEMORY))
    && is_nowhere fault.place

abbrev pub IsRefusal : Fault → Type 0
IsRefusal fault = IsTrue (is_refusal fault)
