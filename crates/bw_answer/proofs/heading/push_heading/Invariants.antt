use Rattle.std.proofs.Common.{ℕ, List, [], map, take}
use Rattle.bw_model.specs.Column.{names_of}
use Rattle.bw_answer.specs.Answer.{heading_of}
use Rattle.bw_answer.specs.Draft.{Holds}
use Rattle.bw_answer.proofs.heading.push_heading.Given as goal

-- the headings of the items so far
abbrev pub invariant-loop-item : goal.invariant-loop-item
invariant-loop-item l =
    (ended : List ℕ) → Holds l.fn.text ended [] → Holds l.text ended (map (heading_of (names_of l.columns)) (take l.item-index l.items))
