-- A condition that is equal to one of a list changes nothing.
use Rattle.std.proofs.Common.{◌∙◌, sym, ap}
use Rattle.bw_model.specs.Cond.{truth_of}
use Rattle.bw_model.specs.CondTree.{tree_truth}
use Rattle.bw_model.proofs.SameLemmas.{truth_of-tree_of}
use Rattle.bw_rowwise.proofs.PreparedLemmas.{member_absorbed}
use Rattle.bw_rowwise.proofs.prepared.has_at.Goals as goal

pub returns-then-place-conds : goal.returns-then-place-conds
returns-then-place-conds c = λ same row.
    let x = c.index-conds-place.result in
    let cond = c.args.cond.now in
    member_absorbed (truth_of row) c.args.conds.now c.args.place x (truth_of row cond) c.if-place-conds.true
    (truth_of-tree_of row cond ∙ ap (tree_truth row) (sym (c.is_same.ensures.same same)) ∙ sym (truth_of-tree_of row x)
    ∙ ap (truth_of row) c.index-conds-place.is)
