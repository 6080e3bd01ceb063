-- Pairs tell truths.
use Rattle.std.proofs.Common.{◌≡◌, subst, length, List, Ok, true}
use Rattle.bw_model.specs.declared.column.Column.{Column}
use Rattle.bw_model.specs.Cond.{names_within, truth_of}
use Rattle.bw_model.specs.Variable.{row_of}
use Rattle.bw_cert_rules.specs.Meaning.{Tells}
use Rattle.bw_cert_rules.specs.Pair.{pair_of}
use Rattle.bw_cert_rules.proofs.TruthLemmas.{pair_of-sound}
use Rattle.bw_cert_rules.proofs.pair_laws.pairs_tell_truths.Goals as goal

pub returns : goal.returns
returns c columns facts end cond lines rest pair same true_facts names is =
    subst (λ (columns : List Column). names_within (length columns) cond ≡ true → pair_of columns facts end cond lines ≡ Ok (pair, rest) → Tells facts.nodes (λ assignment. truth_of (row_of columns assignment) cond) pair)
    same (λ names is. pair_of-sound facts (c.cited_nodes_have_stated_values.ensures facts true_facts) end cond names lines rest pair is) names is
