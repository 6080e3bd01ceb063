use Rattle.std.proofs.Common.{◌≡◌, take}
use Rattle.bw_encode.specs.Fields.{texts_under}
use Rattle.bw_encode.specs.Ranked.{entries_bytes}
use Rattle.bw_encode.proofs.ranked.fields_of.Given as goal

abbrev pub invariant-loop-entry : goal.invariant-loop-entry
invariant-loop-entry l = texts_under l.fields.items ≡ entries_bytes (take l.entry-index l.entries)
