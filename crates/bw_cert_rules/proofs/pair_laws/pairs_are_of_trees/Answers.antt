-- Both are what the tree's lines are read as.
use Rattle.std.proofs.Common.{◌∙◌, sym, ap}
use Rattle.bw_model.specs.CondTree.{tree_of}
use Rattle.bw_cert_rules.specs.Pair.{line_fields}
use Rattle.bw_cert_rules.proofs.TreeLemmas.{tree_pair, tree-steady, pair_of-tree_of}
use Rattle.bw_cert_rules.proofs.pair_laws.pairs_are_of_trees.Goals as goal

pub returns : goal.returns
returns c columns facts end cond same lines others trees say =
    ap (λ reader. line_fields (reader lines)) (pair_of-tree_of columns facts end cond)
    ∙ ap (λ tree. line_fields (tree_pair columns facts end tree lines)) trees
    ∙ tree-steady columns facts end (tree_of same) lines others say
    ∙ sym (ap (λ reader. line_fields (reader others)) (pair_of-tree_of columns facts end same))
