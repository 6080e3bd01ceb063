use Rattle.std.proofs.Common.{◌≡◌, ◌++◌, map, take, drop}
use Rattle.bw_lanes.specs.Lanes.{lanes_of_words}
use Rattle.bw_rowwise.specs.Accumulator.{Tally}
use Rattle.bw_aggregate.specs.Selected.{selected_rows, with_selected}
use Rattle.bw_answer.proofs.selected.total_selected.Given as goal

-- the totals so far have the selected rows
abbrev pub invariant-loop-total : goal.invariant-loop-total
invariant-loop-total g l =
    l.totals ≡ map (λ (tally : Tally). with_selected tally (selected_rows (g.S.Segment.meaning l.segment) (lanes_of_words l.selection))) (take l.total-index l.fn.totals)
    ++ drop l.total-index l.fn.totals
