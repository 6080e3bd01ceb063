-- Each turn reads one more field.
use Rattle.std.proofs.Common.{◌≡◌, ◌∙◌, ◌+◌, false, true, ap, sym, arith, length, drop}
use Rattle.std.proofs.lemmas.List.{drop_all, drop_more}
use Rattle.bw_csv.specs.Plain.{is_line_end}
use Rattle.bw_csv.proofs.PlainRows.{read-last, read-next, read-nothing}
use Rattle.bw_csv.proofs.plain_row.row_at.Goals as goal

pub loop-i-init : goal.loop-i-init
loop-i-init c = rw c.clear.ensures.items (read-nothing c.args.number c.args.rules.now c.args.text.now c.requires.record)

pub returns-then-i-rules-clause-row : goal.returns-then-i-rules-clause-row
returns-then-i-rules-clause-row c =
    let all : c.loop-i.i + 1 ≡ length c.args.rules.now = c.if-i-rules.true in
    let here = drop_more _ c.loop-i.i _ c.loop-i-test.true in
    let end : is_line_end (drop c.in-Some.found.len c.loop-i.rest.now) ≡ true =
    ap is_line_end (sym c.skip_bytes-left.ensures) ∙ sym c.is_line_end.ensures ∙ c.if-is_line_end.true in
    rw (c.skip_bytes-left.ensures, c.in-Ok.ensures.items)
    (read-last _ _ _ _ _ _ _ _ _ c.loop-i.invariant here c.in-Some.ensures.plain c.in-Some.ensures.value end c.requires.within_limit all (drop_all (c.loop-i.i + 1) c.args.rules.now (omega arith)))

pub loop-i-preserved : goal.loop-i-preserved
loop-i-preserved c =
    let here = drop_more _ c.loop-i.i _ c.loop-i-test.true in
    let more : is_line_end (drop c.in-Some.found.len c.loop-i.rest.now) ≡ false =
    ap is_line_end (sym c.skip_bytes-left.ensures) ∙ sym c.is_line_end.ensures ∙ c.if-is_line_end.false in
    rw (c.skip_bytes-rest.ensures, c.skip_bytes-left.ensures, c.in-Ok.ensures.items)
    (read-next _ _ _ _ _ _ _ _ _ c.loop-i.invariant here c.in-Some.ensures.plain c.in-Some.ensures.value more)
