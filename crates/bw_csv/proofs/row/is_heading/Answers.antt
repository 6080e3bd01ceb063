-- Each turn compares one more name.
use Rattle.std.proofs.Common.{◌≡◌, ◌∙◌, refl, sym, arith, length}
use Rattle.std.proofs.lemmas.List.{drop_all}
use Rattle.bw_csv.proofs.FieldLemmas.{drop-column, drop-field_at, drop-no_field, field_found}
use Rattle.bw_csv.proofs.FieldLemmas.{is_heading-next, is_heading-short, is_heading-end}
use Rattle.bw_csv.proofs.row.is_heading.Goals as goal

pub returns-in_default : goal.returns-in_default
returns-in_default c =
    let column = drop-column _ _ _ c.loop-i-test.true c.index-columns-i.is in
    let none = drop-no_field _ c.loop-i.i (sym c.in_default.ensures.value) in
    sym (c.loop-i.invariant.rest ∙ is_heading-short _ _ _ _ column none)

pub returns-then-not-is : goal.returns-then-not-is
returns-then-not-is c =
    let column = drop-column _ _ _ c.loop-i-test.true c.index-columns-i.is in
    let field = drop-field_at _ c.loop-i.i _ (sym c.in-Some.ensures.value) in
    sym (c.loop-i.invariant.rest ∙ is_heading-next _ _ _ _ _ _ column field ∙ rw (← c.without_blanks.ensures, ← c.is.ensures, c.if-not-is.true) refl)

pub loop-i-preserved : goal.loop-i-preserved
loop-i-preserved c =
    let column = drop-column _ _ _ c.loop-i-test.true c.index-columns-i.is in
    let field = drop-field_at _ c.loop-i.i _ (sym c.in-Some.ensures.value) in
    let within = (field_found _ c.loop-i.i _ (sym c.in-Some.ensures.value)).0 in
    record {
      within = omega arith;
      rest = c.loop-i.invariant.rest ∙ is_heading-next _ _ _ _ _ _ column field ∙ rw (← c.without_blanks.ensures, ← c.is.ensures, c.if-not-is.false) refl;
    }

pub returns : goal.returns
returns c =
    let i = c.loop-i.i in
    let all : i ≡ length c.args.columns.now = omega arith in
    let none = drop_all i c.args.columns.now c.loop-i-test.false in
    rw (c.len.ensures, ← all) (sym (c.loop-i.invariant.rest ∙ is_heading-end _ _ i none c.loop-i.invariant.within))
