-- Each turn continues by one byte.
use Rattle.std.proofs.Common.{◌∙◌, ◌+◌, List, ℕ, sym, subst, drop, get_or}
use Rattle.std.proofs.lemmas.List.{drop_all, drop_more}
use Rattle.bw_csv.proofs.HeadingLemmas.{GoesOn, goes-end, goes-first, goes-last, goes-next}
use Rattle.bw_csv.proofs.heading_end.after_record.Goals as goal

pub loop-i-init : goal.loop-i-init
loop-i-init c = goes-first c.args.text.now

pub loop-i-preserved : goal.loop-i-preserved
loop-i-preserved c =
    let text = c.args.text.now in
    let i = c.loop-i.i in
    let on = subst (λ (rest : List ℕ). GoesOn text rest c.loop-i.inside) (drop_more text i 0 c.loop-i-test.true) c.loop-i.invariant in
    goes-next text (drop (i + 1) text) (get_or text i 0) c.loop-i.inside c.inside_after-inside.result on (sym c.ends_record.ensures.end ∙ c.if-ends_record.false) c.inside_after-inside.ensures

pub returns-then-ends_record-clause-rest : goal.returns-then-ends_record-clause-rest
returns-then-ends_record-clause-rest c = λ fields more all.
    let text = c.args.text.now in
    let i = c.loop-i.i in
    let here = drop_more text i 0 c.loop-i-test.true in
    let on = subst (λ (rest : List ℕ). GoesOn text rest c.loop-i.inside) here c.loop-i.invariant in
    goes-end text c.skip_bytes.result.now i c.loop-i.inside fields more on (c.ends_record.ensures.line c.if-ends_record.true) (sym c.ends_record.ensures.end ∙ c.if-ends_record.true) (c.skip_bytes.ensures ∙ here) all

pub returns-clause-rest : goal.returns-clause-rest
returns-clause-rest c = λ fields more all.
    let text = c.args.text.now in
    let on = subst (λ (rest : List ℕ). GoesOn text rest c.loop-i.inside) (drop_all c.loop-i.i text c.loop-i-test.false) c.loop-i.invariant in
    goes-last text c.loop-i.inside fields more on all
