-- The pieces between blanks, of which those that aren't empty are counted.
use Rattle.std.proofs.Common.{ap, ◌∙◌, rules, not}
use Rattle.std.proofs.lemmas.Iterator.Consumers.{count_from_yields_List, YieldsList-from_filter}
use Rattle.std.proofs.lemmas.Iterator.Splits.{YieldsList-from_slice_split}
use Rattle.std.specs.Slice.Iter.{split_rest, split_done, split_callee}
use borrow.Author.Tests.{tests}
use Rattle.bw_text.specs.Lines.{is_blank, is_empty}
use Rattle.bw_text.proofs.lines.count_words.Goals as goal

pub returns : goal.returns
returns c =
    let pieces = c.filter.ensures.source in
    count_from_yields_List _ _ c.count.ensures.ran
    (YieldsList-from_filter _ (λ word. not (is_empty word))
    (YieldsList-from_slice_split _ is_blank c.args.line.now (ap split_rest pieces ∙ c.split.ensures.rest) (ap split_done pieces ∙ c.split.ensures.done)
    (ap split_callee pieces ∙ c.split.ensures.closure) (λ x b q k. search (rules, tests)))
    c.filter.ensures.closure (λ x b q k. search (rules, tests)))
