-- A field that isn't stored as a value makes no column of numbers of those before it.
use Rattle.std.proofs.Common.{◌≡◌, ◌∙◌, map, ap}
use Rattle.bw_encode.specs.Column.{AreTexts}
use Rattle.bw_encode.specs.ColumnFields.{AreStored, IsNoNext}
use Rattle.bw_encode.specs.Number.{value_text}
use Rattle.bw_encode.proofs.NumberLemmas.{still_texts}
use Rattle.bw_encode.specs.declared.column_fields.ColumnFields.TheInside.{Inside}
use Rattle.bw_encode.proofs.column_fields.ColumnFields.push.Goals as goal
use Rattle.bw_encode.proofs.column_fields.ColumnFields.push.Goals.{then-not-self+in_default+in_ok-spell, else-not-self}

pub invariant_of-self-2 : goal.invariant_of-self-2
invariant_of-self-2 c = rw c.in_default-push.ensures
    (elim c.if-not-self.branch [
      | then-not-self+in_default+in_ok-spell w ↦
          let stored : AreStored c.self.inside.values.items c.self.inside.seen = rw w.if-not-self.true at c.self.invariant in
          let fields : c.if-not-self.self-inside.fields ≡ map value_text c.self.inside.values.items = ap (λ (inside : Inside). inside.fields) w.self-inside-is ∙ w.in_ok-spell.ensures ∙ ap (map value_text) w.deref.ensures.value in
          let none : IsNoNext c.self.inside.seen c.args.field.now = rw w.in_default.is at w.next_value.ensures.text in
          rw fields (none c.self.inside.values.items stored)
      | else-not-self w ↦
          let texts : AreTexts c.self.inside.fields = rw w.if-not-self.false at c.self.invariant in
          rw w.self-inside-is (still_texts c.self.inside.fields c.args.field.now texts)
    ])
