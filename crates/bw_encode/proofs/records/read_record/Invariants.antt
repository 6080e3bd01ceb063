use Rattle.std.proofs.Common.{drop, length, ◌≤◌, ◌-◌}
use Rattle.bw_encode.specs.Place.{state_of}
use Rattle.bw_encode.proofs.ReadLemmas.{GoesOn}
use Rattle.bw_encode.proofs.records.read_record.Given as goal

-- the record goes on with the byte of this index
abbrev pub invariant-bytes : goal.invariant-bytes
invariant-bytes l = record {
  on : GoesOn l.dialect (state_of l.fn.place) l.text (state_of l.at) l.fields l.field.items (drop l.i l.text) l.is_loose;
  within : l.i ≤ length l.text;
}

abbrev pub decreases-bytes : goal.decreases-bytes
decreases-bytes l = length l.text - l.i
