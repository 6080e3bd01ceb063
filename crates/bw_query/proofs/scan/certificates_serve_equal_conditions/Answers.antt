use Rattle.std.proofs.Common.{◌∙◌, refl, sym}
use Rattle.bw_query.proofs.scan.certificates_serve_equal_conditions.Goals as goal

pub returns : goal.returns
returns c = λ columns cond same program certificate tree valid.
    let alike = c.certificates_are_checked_by_their_fields.ensures columns cond same program certificate certificate tree refl in
    c.valid_exactly_where_checked.ensures.sound columns same program certificate valid.facts (sym alike ∙ c.valid_exactly_where_checked.ensures.complete columns cond program certificate valid)
