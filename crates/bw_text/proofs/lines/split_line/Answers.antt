-- The line ends at the first line feed.
use Rattle.std.proofs.Common.{◌+◌, ◌-◌, ◌∙◌, ◌≤◌, sym, length, drop, arith, length-drop, take_all}
use Rattle.bw_text.specs.Lines.{cut_lines}
use Rattle.bw_text.proofs.LineLemmas.{cut_at, cut_whole, first_at, first_whole}
use Rattle.bw_text.proofs.lines.split_line.Goals as goal

pub returns-in-Some-clause-cut : goal.returns-in-Some-clause-cut
returns-in-Some-clause-cut c =
    let rest = drop (c.in-Some.at + 1) c.args.text.now in
    let short : length rest ≤ length c.args.text.now - (c.in-Some.at + 1) = omega (arith, length-drop (c.in-Some.at + 1) c.args.text.now) in
    rw (take_all (length c.args.text.now - (c.in-Some.at + 1)) rest short)
    (cut_at c.args.text.now c.in-Some.at c.requires (sym c.line_feed_in.ensures ∙ c.in-Some.is))

pub returns-in-None-clause-cut : goal.returns-in-None-clause-cut
unfolding cut_lines
returns-in-None-clause-cut c = cut_whole c.args.text.now c.requires (sym c.line_feed_in.ensures ∙ c.in-None.is)

pub returns-in-Some-clause-split : goal.returns-in-Some-clause-split
returns-in-Some-clause-split c =
    let rest = drop (c.in-Some.at + 1) c.args.text.now in
    let short : length rest ≤ length c.args.text.now - (c.in-Some.at + 1) = omega (arith, length-drop (c.in-Some.at + 1) c.args.text.now) in
    rw (take_all (length c.args.text.now - (c.in-Some.at + 1)) rest short)
    (first_at c.args.text.now c.in-Some.at (sym c.line_feed_in.ensures ∙ c.in-Some.is))

pub returns-in-None-clause-split : goal.returns-in-None-clause-split
returns-in-None-clause-split c = first_whole c.args.text.now (sym c.line_feed_in.ensures ∙ c.in-None.is)
