use Rattle.std.proofs.Common.{◌∙◌, sym, ap}
use Rattle.bw_model.specs.CondTree.{tree_truth, tree_within, is_whole_tree}
use Rattle.bw_model.proofs.SameLemmas.{truth_of-tree_of, names_within-tree_of, is_whole-tree_of}
use Rattle.bw_model.proofs.cond.Cond.same_meaning.Goals as goal

pub returns : goal.returns
returns c =
    let self = c.args.self.now in
    let other = c.args.other.now in
    record {
      truth = λ row. truth_of-tree_of row self ∙ ap (tree_truth row) c.requires ∙ sym (truth_of-tree_of row other);
      columns = λ n. names_within-tree_of n self ∙ ap (tree_within n) c.requires ∙ sym (names_within-tree_of n other);
      whole = is_whole-tree_of self ∙ ap is_whole_tree c.requires ∙ sym (is_whole-tree_of other);
    }
