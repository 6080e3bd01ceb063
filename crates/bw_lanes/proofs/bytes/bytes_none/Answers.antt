use Rattle.std.proofs.Common.{◌∙◌, ◌++◌, sym, ap, ap₂, take_all, rules, arith}
use Rattle.bw_lanes.specs.Lanes.{lanes_of_words}
use Rattle.bw_lanes.proofs.ByteLemmas.{none_more, none_whole}
use Rattle.bw_lanes.proofs.WordLemmas.{lanes_set}
use Rattle.bw_lanes.proofs.bytes.bytes_none.Goals as goal

pub loop-word-preserved : goal.loop-word-preserved
loop-word-preserved c = record {
  eight = search rules;
  lanes = lanes_set _ _ _ c.loop-word.invariant.eight (omega arith) ∙ ap₂ ◌++◌ c.loop-word.invariant.lanes (c.eq.ensures ∙ c.or_slices.ensures) ∙ sym (none_more _ _ (omega arith));
}

pub returns : goal.returns
returns c = ap lanes_of_words (sym (take_all c.loop-word.word c.loop-word.words (omega arith))) ∙ c.loop-word.invariant.lanes ∙ none_whole _ c.loop-word.word (omega arith)
