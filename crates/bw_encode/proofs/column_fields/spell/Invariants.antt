use Rattle.std.proofs.Common.{◌≡◌, map, take}
use Rattle.bw_encode.specs.Number.{value_text}
use Rattle.bw_encode.proofs.column_fields.spell.Given as goal

-- the values before this one are spelled
abbrev pub invariant-loop-value : goal.invariant-loop-value
invariant-loop-value l = l.fields ≡ map value_text (take l.value-index l.values)
