-- Each turn cuts one field more.
use Rattle.std.proofs.Common.{◌∙◌, ◌∷◌, [], refl, sym}
use Rattle.std.proofs.lemmas.Bool.{ne_eqb}
use Rattle.std.proofs.lemmas.List.{map-append}
use borrow.Author.Tests.{eq-eqb}
use Rattle.bw_encode.specs.Fields.{text_under}
use Rattle.bw_encode.proofs.CutLemmas.{cut_last, cut_more, cut_none}
use Rattle.bw_encode.proofs.cut.cut_record.Goals as goal

pub fields-init : goal.fields-init
fields-init c = rw c.clear.ensures.items (cut_none c.args.dialect c.args.text.now (sym c.starts_record.ensures ∙ c.if-not-starts_record.false))

pub fields-preserved : goal.fields-preserved
fields-preserved c = rw (c.in_ok-push.ensures.items, map-append text_under c.fields.parts.items (c.in-Some.cut.field ∷ []))
    (cut_more c.args.dialect c.args.text.now _ c.fields.rest.now c.in-Some.cut c.fields.invariant c.in-Some.ensures.cut (eq-eqb c.in-Some.cut.end c.args.dialect.separator c.if-cut-dialect.false))

pub returns-then-cut-dialect : goal.returns-then-cut-dialect
returns-then-cut-dialect c = rw (c.in_ok-push.ensures.items, map-append text_under c.fields.parts.items (c.in-Some.cut.field ∷ []))
    (cut_last c.args.dialect c.args.text.now _ c.fields.rest.now c.in-Some.cut c.fields.invariant c.in-Some.ensures.cut _ (ne_eqb c.in-Some.cut.end c.args.dialect.separator c.if-cut-dialect.true) refl c.place_after.ensures refl)
