-- Each exit, by the line's word.
use Rattle.std.proofs.Common.{◌∙◌, not, sym}
use Rattle.bw_text.specs.Lines.{cut_lines}
use Rattle.bw_model.specs.Fault.{at_line}
use Rattle.bw_model.proofs.ErrLemmas.{err_passed_on}
use Rattle.bw_recode.specs.Numbers.{is_narrower}
use Rattle.bw_recode.proofs.LineLemmas.{replacement-none, replacement-null, replacement-kept}
use Rattle.bw_recode.proofs.LineLemmas.{replacement-other, replacement-fault, replacement-listed}
use Rattle.bw_recode.proofs.LineLemmas.{kept_matches}
use Rattle.bw_recode.proofs.numbers.read_replacement.Goals as goal

pub returns-in_default-clause-read : goal.returns-in_default-clause-read
returns-in_default-clause-read c = λ kept.
    rw (c.at_line.ensures, c.number-number.ensures) (replacement-none _ _ _ _ c.in_default.ensures.none.0)

pub returns-then-not-keeps_nulls-clause-read : goal.returns-then-not-keeps_nulls-clause-read
returns-then-not-keeps_nulls-clause-read c = λ kept.
    rw (c.at_line-then-not-keeps_nulls.ensures, c.number-number.ensures)
    (replacement-null _ _ _ _ _ _ c.in-Some.ensures.line (sym c.keeps_nulls.ensures ∙ c.if-not-keeps_nulls.true))

pub returns-then-is_same_text-clause-read : goal.returns-then-is_same_text-clause-read
returns-then-is_same_text-clause-read c =
    let is = replacement-kept c.args.old.now c.args.new.now c.args.lines.now.number (cut_lines c.args.lines.now.text) (cut_lines c.cut_line.new.self.text) c.in-Some.line.now
    c.in-Some.ensures.line (sym c.keeps_nulls.ensures ∙ c.if-not-keeps_nulls.false) (sym c.is_same_text.ensures ∙ c.if-is_same_text.true) in
    rw (c.keep_values.ensures, c.number-number.ensures, is) (kept_matches (not (is_narrower c.args.old.now c.args.new.now)) (at_line 205 c.args.lines.now.number))

pub returns-then-not-is_same_text-clause-read : goal.returns-then-not-is_same_text-clause-read
returns-then-not-is_same_text-clause-read c = λ kept.
    rw (c.at_line-then-not-is_same_text.ensures, c.number-number.ensures)
    (replacement-other _ _ _ _ _ _ c.in-Some.ensures.line (sym c.keeps_nulls.ensures ∙ c.if-not-keeps_nulls.false) (sym c.is_same_text.ensures ∙ c.if-is_same_text.false) (sym c.is_same_text-2.ensures ∙ c.if-not-is_same_text.true))

pub returns-in_err-read_values-clause-read : goal.returns-in_err-read_values-clause-read
returns-in_err-read_values-clause-read c =
    rw (err_passed_on _ c.from_residual.ensures.1) (λ kept.
    replacement-fault _ _ _ _ _ _ _ c.in-Some.ensures.line (sym c.keeps_nulls.ensures ∙ c.if-not-keeps_nulls.false) (sym c.is_same_text.ensures ∙ c.if-is_same_text.false) (sym c.is_same_text-2.ensures ∙ c.if-not-is_same_text.false)
    (rw (c.of.ensures, c.code_count.ensures, c.in-Some.ensures.number) at (c.in_err-read_values.ensures.values kept)))

pub returns-clause-read : goal.returns-clause-read
returns-clause-read c =
    replacement-listed _ _ _ _ _ _ _ c.in-Some.ensures.line (sym c.keeps_nulls.ensures ∙ c.if-not-keeps_nulls.false) (sym c.is_same_text.ensures ∙ c.if-is_same_text.false) (sym c.is_same_text-2.ensures ∙ c.if-not-is_same_text.false)
    (rw (c.of.ensures, c.code_count.ensures, c.in-Some.ensures.number) at c.in_ok-read_values.ensures.values)
