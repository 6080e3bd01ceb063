use Rattle.std.proofs.Common.{sym, subst}
use Rattle.bw_encode.specs.ColumnFields.{AreStored}
use Rattle.bw_encode.proofs.NumberLemmas.{stored_none}
use Rattle.bw_encode.proofs.column_fields.ColumnFields.new.Goals as goal

pub invariant_of-result : goal.invariant_of-result
invariant_of-result c = subst (λ values. AreStored values c.new-2.result) (sym c.new.ensures.items) (stored_none c.new-2.result c.new-2.ensures)
