use Rattle.std.proofs.Common.{◌≡◌, ◌++◌, take}
use Rattle.bw_encode.specs.FieldsText.{numbers_bytes}
use Rattle.bw_encode.proofs.fields_text.push_counts.Given as goal

abbrev pub invariant-loop-count : goal.invariant-loop-count
invariant-loop-count l = l.text.items ≡ l.fn.text.items ++ numbers_bytes (take l.count-index l.counts)
