-- What is made of a CSV text that wasn't read completely.
use Rattle.std.proofs.Common.{ℕ, List, Result, Ok, Err}
use Rattle.bw_model.specs.declared.fault.Fault.{Fault}
use Rattle.bw_io.specs.Source.{Arrival, NotReached, Whole, TooLong, Failed}
use Rattle.bw_csv.specs.Input.{IsMadeOf}

-- whatever is to be made, the error of what came is the same
pub made_of_none : (make : List ℕ → Result (List ℕ) Fault) (csv : Arrival) (fault : Fault) → IsMadeOf {A = List ℕ} Ok csv (Err fault) → IsMadeOf make csv (Err fault)
made_of_none make NotReached fault made = made
made_of_none make (Whole text) fault made = absurd (cc made)
made_of_none make TooLong fault made = made
made_of_none make (Failed other) fault made = made
