-- That an error's place is of the kind that the table of errors lists for its number.
use Rattle.std.specs.Prelude.{◌≡◌}
use Rattle.bw_model.specs.declared.fault.Fault.{Fault}
use Rattle.bw_model.specs.declared.fault.Place.{Place}
use Rattle.bw_model.specs.declared.fault.Place.TheVariants.{Nowhere, Byte, Line, Rec}
use Rattle.bw_model.specs.FaultTable.{Standing, Unplaced, InBytes, InLines, InRecords, standing_of}

-- the kind of a place
abbrev pub standing_at : Place → Standing
standing_at Nowhere = Unplaced
standing_at (Byte at) = InBytes
standing_at (Line at) = InLines
standing_at (Rec at) = InRecords

-- an error's place is of the kind that is listed for it: none, a byte, a line or a record
abbrev pub StandsAsListed : Fault → Type 0
StandsAsListed fault = standing_at fault.place ≡ standing_of fault.code
