-- What a call that encodes did, by where it ended.
use Rattle.std.proofs.Common.{◌≡◌, refl, Bool, true, false, ◌||◌, List, ℕ, Ok, Err}
use Rattle.bw_model.specs.declared.fault.Fault.{Fault}
use Rattle.bw_csv.specs.Input.{IsMadeOf}
use Rattle.bw_io.specs.Sink.{SinkState}
use Rattle.bw_io.specs.Source.{Arrival, NotReached, Whole, TooLong, Failed}
use Rattle.bw_encode.specs.declared.dialect.Dialect.{Dialect}
use Rattle.bw_encode.specs.declared.selection.Selection.{Selection}
use Rattle.bw_encode.specs.Encode.{IsRefusedBy, IsUntouched}

-- a text that wasn't read completely is refused by the error
pub refused_read : (dialect : Dialect) (selection : Selection) (came : Arrival) (fault : Fault) → IsMadeOf {A = List ℕ} Ok came (Err fault) → IsRefusedBy dialect selection came fault
refused_read dialect selection NotReached fault h = h
refused_read dialect selection (Whole text) fault h = absurd (cc h)
refused_read dialect selection TooLong fault h = cc h
refused_read dialect selection (Failed failed) fault h = cc h

pub untouched : (state : SinkState) → IsUntouched state state
untouched state = record { taken = refl; failures = refl }

pub second_false : (a b : Bool) → (a || b) ≡ false → b ≡ false
second_false true b h = absurd (cc h)
second_false false b h = h
