-- The field spells no value, or one that is too far from others.
use Rattle.std.proofs.Common.{rules, ◌≡◌, ◌∙◌, false, sym, subst, Some, None, FitsSigned, w64}
use Rattle.std.proofs.lemmas.Int.{to_z-of_z}
use Rattle.bw_model.specs.SchemaText.{is_range}
use Rattle.bw_encode.specs.Number.{IsValueOf}
use Rattle.bw_encode.proofs.NumberLemmas.{no_numbers, too_far}
use Rattle.bw_encode.proofs.column_fields.next_value.Goals as goal

pub returns-in_default-clause-text : goal.returns-in_default-clause-text
returns-in_default-clause-text c =
    let none : IsValueOf c.args.field.now None = subst (IsValueOf c.args.field.now) c.in_default.is c.value_of.ensures in
    λ values stored. no_numbers _ c.args.field.now none

pub returns-else-is_range-clause-text : goal.returns-else-is_range-clause-text
returns-else-is_range-clause-text c =
    let spells : IsValueOf c.args.field.now (Some c.in-Some.value) = subst (IsValueOf c.args.field.now) c.in-Some.is c.value_of.ensures in
    let lo : FitsSigned w64 c.and-seen.result.lo = search rules in
    let hi : FitsSigned w64 c.and-seen.result.hi = search rules in
    let far : is_range c.and-seen.result.lo c.and-seen.result.hi ≡ false =
    rw (to_z-of_z w64 c.and-seen.result.lo lo, to_z-of_z w64 c.and-seen.result.hi hi) at (sym c.is_range.ensures.test ∙ c.if-is_range.false) in
    λ values stored. too_far values c.in-Some.value c.args.field.now c.and-seen.result stored.fit spells (c.and-seen.ensures values stored.bounds) far
