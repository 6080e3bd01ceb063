-- Each word that is written goes over from what is left.
use Rattle.std.proofs.Common.{arith}
use Rattle.bw_text.proofs.PrintedLemmas.{spaced-next, spaced-end, written_after, all_written}
use Rattle.bw_text.proofs.printed_word.push_spaced.Goals as goal

pub loop-word-preserved : goal.loop-word-preserved
loop-word-preserved c =
    written_after c.loop-word.text.items _ _ _ _ _ c.push_word.new.text.items 32 c.in_ok-push.ensures.items c.in_ok-push_word.ensures
    (spaced-next c.args.words.now c.loop-word.word-index _ (omega (arith, c.loop-word-test.true))) c.loop-word.invariant

pub returns : goal.returns
returns c =
    all_written c.loop-word.text.items _ _ (spaced-end c.args.words.now c.loop-word.word-index (omega (arith, c.loop-word-test.false))) c.loop-word.invariant
