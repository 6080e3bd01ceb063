-- The first of the pieces between blanks that isn't empty.
use Rattle.std.proofs.Common.{rules, not}
use Rattle.std.proofs.lemmas.Iterator.Search.{find_from_yields_List}
use Rattle.std.proofs.lemmas.Iterator.Splits.{YieldsList-from_slice_split}
use borrow.Author.Tests.{tests}
use Rattle.bw_text.specs.Lines.{is_blank, is_empty}
use Rattle.bw_text.proofs.lines.first_word.Goals as goal

pub returns : goal.returns
returns c =
    find_from_yields_List (λ word. not (is_empty word)) _ _ _ c.find.ensures.ran
    (YieldsList-from_slice_split _ is_blank c.args.line.now c.split.ensures.rest c.split.ensures.done c.split.ensures.closure (λ x b q k. search (rules, tests)))
    (λ x b q k. search (rules, tests))
