-- The pieces between blanks, of which those that aren't empty are collected.
use Rattle.std.proofs.Common.{ap, ◌∙◌, rules, not}
use Rattle.std.proofs.lemmas.Iterator.Consumers.{map_from_collect, YieldsList-from_filter}
use Rattle.std.proofs.lemmas.Iterator.Splits.{YieldsList-from_slice_split}
use Rattle.std.specs.Slice.Iter.{split_rest, split_done, split_callee}
use borrow.Author.Tests.{tests}
use Rattle.bw_text.specs.Lines.{is_blank, is_empty}
use Rattle.bw_text.proofs.lines.words_between_blanks.Goals as goal

pub returns : goal.returns
returns c =
    let pieces = c.filter.ensures.source in
    map_from_collect _ c.collect.ensures.ran
    (YieldsList-from_filter _ (λ word. not (is_empty word))
    (YieldsList-from_slice_split _ is_blank c.args.line.now (ap split_rest pieces ∙ c.split.ensures.rest) (ap split_done pieces ∙ c.split.ensures.done)
    (ap split_callee pieces ∙ c.split.ensures.closure) (λ x b q k. search (rules, tests)))
    c.filter.ensures.closure (λ x b q k. search (rules, tests)))
