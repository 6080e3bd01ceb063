use Rattle.std.proofs.Common.{◌≡◌, take}
use Rattle.bw_encode.specs.Fields.{texts_under}
use Rattle.bw_encode.specs.FieldSet.{keys_bytes}
use Rattle.bw_encode.proofs.field_set.FieldSet.fields.Given as goal

abbrev pub invariant-loop-key : goal.invariant-loop-key
invariant-loop-key l = texts_under l.fields.items ≡ keys_bytes (take l.key-index l.key-items)
