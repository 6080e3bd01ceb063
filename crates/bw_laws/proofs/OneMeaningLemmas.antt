-- Queries of the same items, whose conditions have the same tree, have one meaning.
use Rattle.std.proofs.Common.{◌≡◌, ◌∙◌, ℕ, cond, List, [], ◌∷◌, map, filter_map, refl, sym, ap, ap₂}
use Rattle.std.proofs.Common.{Bool, if◌then◌else◌}
use Rattle.bw_model.specs.declared.cond.Truth.{Truth}
use Rattle.bw_model.specs.declared.cond.Truth.TheVariants.{Yes}
use Rattle.bw_model.specs.declared.cond.Cond.{Cond}
use Rattle.bw_model.specs.declared.query.Item.{Item}
use Rattle.bw_model.specs.declared.query.Query.{Query}
use Rattle.bw_model.specs.Cond.{is_match}
use Rattle.bw_model.specs.CondTree.{tree_of, tree_truth}
use Rattle.bw_model.specs.Row.{Value}
use Rattle.bw_model.specs.Selection.{matching_rows}
use Rattle.bw_model.specs.Total.{total}
use Rattle.bw_model.specs.Truth.{is_truth}
use Rattle.bw_model.proofs.SameLemmas.{truth_of-tree_of}
use Rattle.bw_sql.specs.QueryShape.{QueryShape, query_shape}
use Rattle.bw_answer.specs.Answer.{meaning, heading_of, lists_rows, field_of, value_text}

kept_alike : (cond other : Cond) (rows : List (List Value)) → tree_of cond ≡ tree_of other → matching_rows cond rows ≡ matching_rows other rows
kept_alike cond other [] same = refl
kept_alike cond other (row ∷ rows) same =
    let truth = truth_of-tree_of row cond ∙ ap (tree_truth row) same ∙ sym (truth_of-tree_of row other) in
    let one : is_match cond row ≡ is_match other row = ap (λ (t : Truth). is_truth t Yes) truth in
    ap₂ (λ (b : Bool) (rest : List (List Value)). if b then row ∷ rest else rest) one (kept_alike cond other rows same)

-- the meaning of items over the rows that are kept
abbrev meaning_over : List (List ℕ) → List Item → List (List Value) → List (List (List ℕ))
meaning_over names items rows =
    map (heading_of names) items
    ∷ (if lists_rows items then map (λ row. filter_map (field_of row) items) rows else map (λ item. value_text (total item rows)) items ∷ [])

pub one_meaning : (names : List (List ℕ)) (query other : Query) (rows : List (List Value)) → query_shape query ≡ query_shape other
    → meaning names query rows ≡ meaning names other rows
unfolding meaning
one_meaning names query other rows same =
    ap₂ (meaning_over names) (ap (λ (a : QueryShape). a.items) same) (kept_alike query.cond other.cond rows (ap (λ (a : QueryShape). a.cond) same))
