-- The first line is taken off.
use Rattle.std.proofs.Common.{◌∙◌, sym, ap, ap₂, ◌∷◌, take, drop, arith}
use Rattle.bw_cert_text.specs.BodyLines.{body_lines}
use Rattle.bw_cert_text.specs.StoredLines.{pairs_of, lines_of, line_of}
use Rattle.bw_cert_text.proofs.StoredLineLemmas.{no_forms, too_short, too_few, line_there}
use Rattle.bw_cert_text.proofs.body.BodyLines.next.Goals as goal

pub returns-in_err-form : goal.returns-in_err-form
unfolding body_lines
returns-in_err-form c = rw c.from_residual.ensures (record { cases = no_forms _ _ _ c.in_err-form.ensures.cases })

pub returns-in_err-own : goal.returns-in_err-own
unfolding body_lines
returns-in_err-own c =
    rw c.from_residual-in_err-own.ensures (record { cases = too_short _ _ c.args.self.numbers.now _ _ c.in_ok-form.ensures.cases.0 (omega (arith, c.in_err-own.ensures.cases, c.size.ensures)) })

pub returns-then-count-self : goal.returns-then-count-self
unfolding body_lines
returns-then-count-self c =
    let cut = c.in_ok-own.ensures.cases in
    let own = cut.1 ∙ ap (λ n. take n c.args.self.numbers.now) c.size.ensures in
    let count = c.pairs_in-count.ensures ∙ ap (pairs_of c.in_ok-form.form.now) own in
    record { cases = too_few _ _ c.args.self.numbers.now _ _ c.in_ok-form.ensures.cases.0 (omega (arith, cut.0, c.size.ensures)) (omega (arith, c.if-count-self.true, count)) }

pub returns : goal.returns
unfolding body_lines
returns c =
    let cut = c.in_ok-own.ensures.cases in
    let own = cut.1 ∙ ap (λ n. take n c.args.self.numbers.now) c.size.ensures in
    let left = cut.2 ∙ ap (λ n. drop n c.args.self.numbers.now) c.size.ensures in
    let count = c.pairs_in-count.ensures ∙ ap (pairs_of c.in_ok-form.form.now) own in
    let edges = c.split_at.ensures.front ∙ ap (λ n. take n c.args.self.pairs.now) count in
    let more = c.split_at.ensures.back ∙ ap (λ n. drop n c.args.self.pairs.now) count in
    let line = c.line_in-line.ensures ∙ ap₂ (line_of c.in_ok-form.form.now) own edges in
    let all = line_there _ _ c.args.self.numbers.now c.args.self.pairs.now _ c.in_ok-form.ensures.cases.0 (omega (arith, cut.0, c.size.ensures)) (omega (arith, c.if-count-self.false, count)) in
    record { cases = all ∙ sym (ap₂ ◌∷◌ line (ap₂ (lines_of c.in_ok-form.forms.now) left more)) }
