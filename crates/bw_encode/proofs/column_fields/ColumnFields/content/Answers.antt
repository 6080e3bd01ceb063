-- Stored values are those of the fields.
use Rattle.std.proofs.Common.{◌≡◌, map, subst}
use Rattle.bw_encode.specs.Column.{AreNumbers}
use Rattle.bw_encode.specs.ColumnFields.{AreStored}
use Rattle.bw_encode.specs.Number.{value_text}
use Rattle.bw_encode.proofs.NumberLemmas.{stored_numbers}
use Rattle.bw_encode.proofs.column_fields.ColumnFields.content.Goals as goal

pub returns-else-self : goal.returns-else-self
returns-else-self c =
    let stored : AreStored c.self.inside.values.items c.self.inside.seen = rw c.if-self.false at c.self.invariant in
    let fields : map value_text c.self.inside.values.items ≡ c.args.self.now = rw c.if-self.false at c.self.view_is in
    rw c.deref.ensures.value (subst (λ texts. AreNumbers texts c.self.inside.values.items) fields (stored_numbers c.self.inside.values.items c.self.inside.seen stored), stored.bounds, stored.range)
