-- All lanes are those of the first rows, or none are.
use Rattle.std.proofs.Common.{◌∙◌, sym, ap, true, false, replicate, get_or, append-nil}
use Rattle.std.proofs.lemmas.List.{get_or-replicate}
use Rattle.bw_rowwise.proofs.planes.every_lane.Goals as goal

pub returns-then-is_one : goal.returns-then-is_one
returns-then-is_one c = λ lane within.
    ap (λ l. get_or l lane false) (c.mask.ensures ∙ append-nil (replicate 512 true)) ∙ get_or-replicate 512 lane true false within ∙ sym c.if-is_one.true

pub returns-else-is_one : goal.returns-else-is_one
returns-else-is_one c = λ lane within.
    ap (λ l. get_or l lane false) c.mask-else-is_one.ensures ∙ get_or-replicate 512 lane false false within ∙ sym c.if-is_one.false
