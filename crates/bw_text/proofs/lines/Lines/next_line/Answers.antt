-- Each turn takes the first line off the text, and returns it if it isn't skipped.
use Rattle.std.proofs.Common.{◌≡◌, ◌∙◌, sym, true, false, arith, eqb-true}
use Rattle.bw_text.specs.Lines.{is_skipped, words_of}
use Rattle.bw_text.proofs.LineLemmas.{numbered_from-said, numbered_from-skipped, count_more}
use Rattle.bw_text.proofs.LineLemmas.{nothing_in, cons-words}
use Rattle.bw_text.proofs.lines.Lines.next_line.Goals as goal

pub returns-then-not-skipped-clause-line : goal.returns-then-not-skipped-clause-line
returns-then-not-skipped-clause-line c =
    let words = c.in_ok-words.ensures in
    let said : is_skipped (words_of c.split_line.result.0.now) ≡ false =
    rw (← words, ← c.deref.ensures.value, ← c.is_skipped-skipped.ensures) c.if-not-skipped.true in
    c.loop-alloc.invariant.lines
    ∙ numbered_from-said _ _ _ _ c.split_line.ensures.cut said
    ∙ cons-words _ _ _ _ (sym words)

pub loop-alloc-preserved : goal.loop-alloc-preserved
loop-alloc-preserved c =
    let words = c.in_ok-words.ensures in
    let skipped : is_skipped (words_of c.split_line.result.0.now) ≡ true =
    rw (← words, ← c.deref.ensures.value, ← c.is_skipped-skipped.ensures) c.if-not-skipped.false in
    record {
      bound = omega arith;
      lines = c.loop-alloc.invariant.lines ∙ numbered_from-skipped _ _ _ _ c.split_line.ensures.cut skipped;
      end = c.loop-alloc.invariant.end ∙ count_more _ _ _ _ c.split_line.ensures.cut;
    }

pub returns-clause-none : goal.returns-clause-none
returns-clause-none c =
    let nothing = nothing_in c.loop-alloc.self-inside.number c.loop-alloc.self-inside.text.now (eqb-true _ _ (sym c.is_empty.ensures ∙ c.loop-alloc-test.false)) in
    (c.loop-alloc.invariant.lines ∙ nothing.0, c.loop-alloc.invariant.end ∙ nothing.1)
