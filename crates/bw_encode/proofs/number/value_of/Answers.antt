-- The field is the number that is read from it, or spells no value.
use Rattle.std.proofs.Common.{rules, ◌∙◌, sym, FitsSigned, w64}
use Rattle.std.proofs.lemmas.Int.{to_z-of_z}
use Rattle.bw_encode.proofs.NumberLemmas.{no_number, starts_otherwise, starts_spelled}
use Rattle.bw_encode.proofs.number.value_of.Goals as goal

pub returns-then-not-starts_number : goal.returns-then-not-starts_number
returns-then-not-starts_number c = starts_otherwise c.args.field.now (search rules) (sym c.starts_number.ensures ∙ c.if-not-starts_number.true)

pub returns-in_default : goal.returns-in_default
returns-in_default c = no_number c.args.field.now (search rules) (sym c.number_of.ensures ∙ c.in_default.is)

pub returns : goal.returns
returns c =
    let fits : FitsSigned w64 c.in-Some.n = search rules in
    rw (to_z-of_z w64 c.in-Some.n fits) (record {
      fits = fits;
      text = starts_spelled c.args.field.now c.in-Some.n (sym c.starts_number.ensures ∙ c.if-not-starts_number.false) (sym c.number_of.ensures ∙ c.in-Some.is);
    })
