-- What a source yielded to a call that read it completely.
use Rattle.std.specs.Prelude.{Result, Ok, Err}
use Rattle.bw_model.specs.declared.fault.Fault.{Fault}
use Rattle.bw_io.specs.declared.input.Input.{Input}
use Rattle.bw_io.specs.declared.input.Input.TheVariants as input
use Rattle.bw_io.specs.Source.{Arrival, Whole, TooLong, Failed}

-- what a source yielded, by the result of the call that read it completely
abbrev pub arrival : Result Input Fault → Arrival
arrival (Ok (input.Whole bytes)) = Whole bytes.items
arrival (Ok input.Over) = TooLong
arrival (Err fault) = Failed fault
