-- What nodes are worth: the laws of the terminals and of a node, and that later nodes change
-- nothing.
use Rattle.std.proofs.Common.{◌≡◌, ◌∙◌, refl, sym, ap, subst, ℕ, zero, suc, ◌+◌, ◌-◌, ◌<◌, Bool}
use Rattle.std.proofs.Common.{true, false, cond, List, [], ◌∷◌, ◌++◌, length, length-append, get_or}
use Rattle.std.proofs.Common.{Option, Some, None, slice_get, arith, add-zero, ltb, eqb, ltb-false}
use Rattle.std.proofs.Common.{eqb-true}
use Rattle.std.proofs.Math.ListN.{get_or-append}
use Rattle.std.proofs.Math.Seq.{get_or-append_seam}
use Rattle.bw_model.specs.Variable.{Assignment}
use Rattle.bw_diagram.specs.declared.node.Node.{Node}
use Rattle.bw_diagram.specs.Node.{IsNode, node_at, child, child_value, values_from, node_value}
use Rattle.bw_diagram.specs.Node.{child_if_tested, cofactor, AreOrdered}

pub length-values_from : (assignment : Assignment) (before : List Bool) (nodes : List Node) → length (values_from assignment before nodes) ≡ length before + length nodes
length-values_from assignment before [] = omega arith
length-values_from assignment before (node ∷ nodes) =
    omega (arith, length-values_from assignment (before ++ child_value assignment before node ∷ []) nodes, length-append before (child_value assignment before node ∷ []))

-- later nodes leave what comes before them
pub values_from-before : (assignment : Assignment) (before : List Bool) (nodes : List Node) (n : ℕ) → n < length before → get_or (values_from assignment before nodes) n false ≡ get_or before n false
values_from-before assignment before [] n lt = refl
values_from-before assignment before (node ∷ nodes) n lt =
    let c : List Bool = child_value assignment before node ∷ [] in
    values_from-before assignment (before ++ c) nodes n (omega (arith, length-append before c)) ∙ get_or-append before c false n lt

pub values_from-append : (assignment : Assignment) (before : List Bool) (xs ys : List Node) → values_from assignment before (xs ++ ys) ≡ values_from assignment (values_from assignment before xs) ys
values_from-append assignment before [] ys = refl
values_from-append assignment before (x ∷ xs) ys = values_from-append assignment (before ++ child_value assignment before x ∷ []) xs ys

-- a node has its child's value, if the child comes before it
values_from-at : (assignment : Assignment) (before : List Bool) (nodes : List Node) (k : ℕ) (node : Node) → slice_get nodes k ≡ Some node → child (assignment node.v) node < length before + k →
    get_or (values_from assignment before nodes) (length before + k) false ≡ get_or (values_from assignment before nodes) (child (assignment node.v) node) false
values_from-at assignment before [] k node is lt = cc
values_from-at assignment before (x ∷ nodes) zero node is lt =
    let same : x ≡ node = cc in
    let P : Node → Type 0 = λ n. child (assignment n.v) n < length before + 0 → get_or (values_from assignment before (x ∷ nodes)) (length before + 0) false ≡ get_or (values_from assignment before (x ∷ nodes)) (child (assignment n.v) n) false in
    subst P same (first x) lt
  where
    first : (x : Node) → child (assignment x.v) x < length before + 0 → get_or (values_from assignment before (x ∷ nodes)) (length before + 0) false ≡ get_or (values_from assignment before (x ∷ nodes)) (child (assignment x.v) x) false
    first x lt =
        let c : List Bool = child_value assignment before x ∷ [] in
        let n : ℕ = child (assignment x.v) x in
        let longer : length (before ++ c) ≡ length before + 1 = length-append before c in
        let here : length before + 0 ≡ length before = add-zero (length before) in
        ap (λ i. get_or (values_from assignment (before ++ c) nodes) i false) here
        ∙ values_from-before assignment (before ++ c) nodes (length before) (omega arith)
        ∙ get_or-append_seam before (child_value assignment before x) [] false
        ∙ sym (get_or-append before c false n (omega arith))
        ∙ sym (values_from-before assignment (before ++ c) nodes n (omega arith))
values_from-at assignment before (x ∷ nodes) (suc k) node is lt =
    let c : List Bool = child_value assignment before x ∷ [] in
    let here : length (before ++ c) + k ≡ length before + suc k = omega (arith, length-append before c) in
    ap (λ i. get_or (values_from assignment (before ++ c) nodes) i false) (sym here)
    ∙ values_from-at assignment (before ++ c) nodes k node is (omega arith)

-- the terminals
pub node_value-zero : (nodes : List Node) (assignment : Assignment) → node_value nodes assignment 0 ≡ false
unfolding node_value
node_value-zero nodes assignment = values_from-before assignment (false ∷ true ∷ []) nodes 0 (omega arith)

pub node_value-one : (nodes : List Node) (assignment : Assignment) → node_value nodes assignment 1 ≡ true
unfolding node_value
node_value-one nodes assignment = values_from-before assignment (false ∷ true ∷ []) nodes 1 (omega arith)

-- a node
pub node_value-node : (nodes : List Node) (assignment : Assignment) (k : ℕ) (node : Node) → AreOrdered nodes → slice_get nodes k ≡ Some node → node_value nodes assignment (2 + k) ≡ node_value nodes assignment (child (assignment node.v) node)
unfolding node_value
node_value-node nodes assignment k node ordered is =
    values_from-at assignment (false ∷ true ∷ []) nodes k node is (ordered k node (assignment node.v) is)

-- a number that has a node is 2 or more, and the node stands 2 before it
pub node_at-some : (nodes : List Node) (n : ℕ) (node : Node) → node_at nodes n ≡ Some node → (n ≡ 2 + (n - 2)) × (slice_get nodes (n - 2) ≡ Some node)
node_at-some nodes n node is = by_size (ltb n 2) refl is
  where
    by_size : (small : Bool) → ltb n 2 ≡ small → cond small None (slice_get nodes (n - 2)) ≡ Some node → (n ≡ 2 + (n - 2)) × (slice_get nodes (n - 2) ≡ Some node)
    by_size true small is = cc
    by_size false small is = (omega (arith, ltb-false n 2 small), is)

-- a node by its number
pub node_value-node_at : (nodes : List Node) (n : ℕ) (node : Node) (assignment : Assignment) → AreOrdered nodes → node_at nodes n ≡ Some node → node_value nodes assignment n ≡ node_value nodes assignment (child (assignment node.v) node)
node_value-node_at nodes n node assignment ordered is =
    let there = node_at-some nodes n node is in
    ap (node_value nodes assignment) there.0 ∙ node_value-node nodes assignment (n - 2) node ordered there.1

-- later nodes change no value
pub node_value-append : (nodes more : List Node) (assignment : Assignment) (n : ℕ) → IsNode nodes n → node_value (nodes ++ more) assignment n ≡ node_value nodes assignment n
unfolding node_value
node_value-append nodes more assignment n lt =
    let start : List Bool = false ∷ true ∷ [] in
    ap (λ vs. get_or vs n false) (values_from-append assignment start nodes more)
    ∙ values_from-before assignment (values_from assignment start nodes) more n (omega (arith, length-values_from assignment start nodes, lt))

-- on the side of a variable's bit, a cofactor has the value of its node
pub node_value-cofactor : (nodes : List Node) (assignment : Assignment) (v : ℕ) (bit : Bool) (n : ℕ) → AreOrdered nodes → assignment v ≡ bit → node_value nodes assignment (cofactor nodes v bit n) ≡ node_value nodes assignment n
unfolding cofactor
node_value-cofactor nodes assignment v bit n ordered side = at (node_at nodes n) refl
  where
    chosen_child : (node : Node) (tested : Bool) → eqb node.v v ≡ tested → node_at nodes n ≡ Some node → node_value nodes assignment (cond tested (child bit node) n) ≡ node_value nodes assignment n
    chosen_child node false tested is = refl
    chosen_child node true tested is =
        let bit_is : assignment node.v ≡ bit = ap assignment (eqb-true node.v v tested) ∙ side in
        ap (λ b. node_value nodes assignment (child b node)) (sym bit_is)
        ∙ sym (node_value-node_at nodes n node assignment ordered is)

    at : (found : Option Node) → node_at nodes n ≡ found → node_value nodes assignment (child_if_tested v bit n found) ≡ node_value nodes assignment n
    at None is = refl
    at (Some node) is = chosen_child node (eqb node.v v) refl is
