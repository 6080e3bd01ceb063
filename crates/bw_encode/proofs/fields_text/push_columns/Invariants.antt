use Rattle.std.proofs.Common.{◌≡◌, ◌++◌, take}
use Rattle.std.specs.List.{flat_map}
use Rattle.bw_encode.specs.Coded.{encoding_of}
use Rattle.bw_encode.specs.FieldsText.{encoding_bytes}
use Rattle.bw_encode.proofs.fields_text.push_columns.Given as goal

abbrev pub invariant-loop-column : goal.invariant-loop-column
invariant-loop-column l = l.text.items ≡ l.fn.text.items ++ flat_map (λ column. encoding_bytes (encoding_of column)) (take l.column-index l.columns)
