use Rattle.std.proofs.Common.{◌∙◌, sym, ap, subst, length, length-take, arith}
use Rattle.bw_text.specs.Lines.{Unread}
use Rattle.bw_cert.proofs.SplitLemmas.{CutSoFar, cut_none, cut_nowhere, cut_there, numbered_within}
use Rattle.bw_cert.proofs.SplitLemmas.{passed, shorter, within}
use Rattle.bw_cert.proofs.program_file.split_file.Goals as goal

pub lines-init : goal.lines-init
lines-init c = subst (λ (u : Unread). CutSoFar c.args.file.now 0 u.text u.number) (sym c.new-lines.ensures) (cut_none c.args.file.now)

pub slice_bounds-result-end : goal.slice_bounds-result-end
slice_bounds-result-end c =
    let total = within _ _ _ _ c.lines.invariant in
    omega (arith, total, length-take c.lines.read c.args.file.now)

pub returns-then-divides-clause-cut : goal.returns-then-divides-clause-cut
returns-then-divides-clause-cut c =
    let line = c.in-Some.ensures.line in
    let number = c.in-Some.ensures.number in
    rw (c.rest.ensures, c.number.ensures, number) (cut_there _ _ _ _ c.in-Some.line.now _ c.lines.invariant line (sym c.divides.ensures ∙ c.if-divides.true))

pub returns-then-divides-clause-first : goal.returns-then-divides-clause-first
returns-then-divides-clause-first c =
    let total = within _ _ _ _ c.lines.invariant in
    let less = shorter _ _ _ c.in-Some.ensures.split c.in-Some.ensures.line in
    let first = c.lines.invariant.first in
    rw (c.number.ensures, c.in-Some.ensures.number) (omega arith, omega (arith, total, less, first.1))

pub overflow_sub-read : goal.overflow_sub-read
overflow_sub-read c =
    let total = within _ _ _ _ c.lines.invariant in
    let less = shorter _ _ _ c.in-Some.ensures.split c.in-Some.ensures.line in
    let rest = ap length c.rest-in-Some.ensures in
    omega (arith, total, less, rest)

pub lines-smaller : goal.lines-smaller
lines-smaller c = shorter _ _ _ c.in-Some.ensures.split c.in-Some.ensures.line

pub lines-preserved : goal.lines-preserved
lines-preserved c =
    rw (c.rest-in-Some.ensures, c.in-Some.ensures.number) (passed _ _ _ _ c.in-Some.line.now _ c.lines.invariant c.in-Some.ensures.split c.in-Some.ensures.line (sym c.divides.ensures ∙ c.if-divides.false))

pub returns-clause-cut : goal.returns-clause-cut
returns-clause-cut c =
    let none = c.in_default.ensures.none in
    rw (c.number-2.ensures, ap (λ (u : Unread). u.number) none.1) (cut_nowhere _ _ _ _ c.lines.invariant none.0)

pub returns-clause-first : goal.returns-clause-first
returns-clause-first c =
    let none = c.in_default.ensures.none in
    rw (c.number-2.ensures, ap (λ (u : Unread). u.number) none.1) (numbered_within _ _ _ _ c.lines.invariant)
