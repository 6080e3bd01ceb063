use Rattle.std.proofs.Common.{ℕ, List, [], map, take}
use Rattle.bw_answer.specs.Aggregates.{answer_for}
use Rattle.bw_answer.specs.Answer.{value_text}
use Rattle.bw_answer.specs.Draft.{Holds}
use Rattle.bw_answer.proofs.totals.push_totals.Given as goal

-- the totals of the items so far
abbrev pub invariant-loop-item : goal.invariant-loop-item
invariant-loop-item l =
    (ended : List ℕ) → Holds l.fn.text ended [] → Holds l.text ended (map (λ item. value_text (answer_for l.totals item)) (take l.item-index l.items))
