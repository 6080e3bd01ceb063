-- Why nothing is proposed, and the error that it is.
use Rattle.bw_model.specs.FaultTable.{NO_PROGRAM}
use Rattle.bw_model.specs.declared.fault.Fault.{Fault}
use Rattle.bw_model.specs.Fault.{nowhere, no_memory}
use Rattle.bw_prover.specs.declared.unproved.Unproved.{Unproved}
use Rattle.bw_prover.specs.declared.unproved.Unproved.TheVariants as unproved
use Rattle.bw_plan.specs.declared.unplanned.Unplanned.{Unplanned}
use Rattle.bw_plan.specs.declared.unplanned.Unplanned.TheVariants.{Limit, Length, Uncertified}
use Rattle.bw_plan.specs.declared.unplanned.Unplanned.TheVariants.{Memory}

-- Memory stays memory. A value that isn't known to be the same by each way may be known with fewer
-- skips; a limit stays passed.
abbrev pub unplanned_of : Unproved → Unplanned
unplanned_of unproved.Memory = Memory
unplanned_of (unproved.Unknown instruction register join skip witness) = Uncertified
unplanned_of unproved.Unordered = Uncertified
unplanned_of _ = Limit

-- out of memory is 801, and all else is 651, at no place
abbrev pub fault_of : Unplanned → Fault
fault_of Memory = no_memory
fault_of Limit = nowhere NO_PROGRAM
fault_of Length = nowhere NO_PROGRAM
fault_of Uncertified = nowhere NO_PROGRAM
