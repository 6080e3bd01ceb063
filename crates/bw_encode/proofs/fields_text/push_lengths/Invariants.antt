use Rattle.std.proofs.Common.{◌≡◌, ◌++◌, take}
use Rattle.bw_encode.specs.Fields.{texts_under}
use Rattle.bw_encode.specs.FieldsText.{lengths_bytes}
use Rattle.bw_encode.proofs.fields_text.push_lengths.Given as goal

abbrev pub invariant-loop-field : goal.invariant-loop-field
invariant-loop-field l = l.text.items ≡ l.fn.text.items ++ lengths_bytes (texts_under (take l.field-index l.fields))
