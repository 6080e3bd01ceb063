-- What each line leaves true.
use Rattle.std.proofs.Common.{◌≡◌, ◌∙◌, refl, sym, ap₂, subst, ℕ, zero, suc, ◌+◌, ◌<◌, Bool, true}
use Rattle.std.proofs.Common.{false, not, List, [], ◌∷◌, ◌++◌, length, Option, Some, None}
use Rattle.std.proofs.Common.{slice_get, ◌⊎◌, inl, inr, ⊎_elim, arith, length-append, Result, Ok}
use Rattle.std.proofs.Common.{Err, leb}
use Rattle.std.proofs.lemmas.Bool.{ltb-true, eqb-true, leb-false, not-false}
use Rattle.bw_model.specs.Variable.{variables_of}
use Rattle.bw_model.specs.declared.fault.Fault.{Fault}
use Rattle.bw_model.specs.Fault.{refused_if, nowhere, ◌>>=◌}
use Rattle.bw_model.proofs.BitsLemmas.{both}
use Rattle.bw_model.proofs.FaultLemmas.{not_refused}
use Rattle.bw_diagram.specs.declared.node.Node.{Node}
use Rattle.bw_diagram.specs.declared.product.Product.{Product}
use Rattle.bw_diagram.specs.declared.product.Reason.{Reason}
use Rattle.bw_diagram.specs.Node.{child, is_valid_node}
use Rattle.bw_diagram.specs.declared.chain.Chain.{Chain}
use Rattle.bw_diagram.specs.Chain.{IsChain, is_valid_chain}
use Rattle.bw_diagram.specs.Product.{apply_connective, IsProduct}
use Rattle.bw_diagram.specs.Facts.{Facts, AreTrue, with_node, with_chain, with_product, accept_node}
use Rattle.bw_diagram.specs.Facts.{accept_chain, accept_if_named, accept_product, most_nodes}
use Rattle.bw_diagram.specs.Facts.{most_chains}
use Rattle.bw_diagram.proofs.NodeLemmas.{node_value-append}
use Rattle.bw_diagram.proofs.ChainLemmas.{IsChain-append, is_valid_chain-chain}
use Rattle.bw_diagram.proofs.ProductLemmas.{is_valid_product-product}

-- an item of a list with one more is an item of the list, or the one more
pub slice_get-append_one : {A : Type 0} (xs : List A) (y : A) (k : ℕ) (x : A) → slice_get (xs ++ y ∷ []) k ≡ Some x → (slice_get xs k ≡ Some x) ⊎ ((k ≡ length xs) × (y ≡ x))
slice_get-append_one [] y zero x is = inr (refl, cc)
slice_get-append_one [] y (suc k) x is = cc
slice_get-append_one (z ∷ xs) y zero x is = inl is
slice_get-append_one (z ∷ xs) y (suc k) x is =
    ⊎_elim (λ there. inl there) (λ last. inr (omega (arith, last.0), last.1)) (slice_get-append_one xs y k x is)

-- what a node's rule says
pub record IsValidNode (variables : ℕ) (nodes : List Node) (number : ℕ) (node : Node) : Type 0 where
  pub next : number ≡ 2 + length nodes
  pub variable : node.v < variables
  pub low : node.low < number
  pub high : node.high < number

pub is_valid_node-is : (variables : ℕ) (nodes : List Node) (number : ℕ) (node : Node) → is_valid_node variables nodes number node ≡ true → IsValidNode variables nodes number node
unfolding is_valid_node
is_valid_node-is variables nodes number node is =
    let upper = both _ _ is in
    let middle = both _ _ upper.0 in
    let lower = both _ _ middle.0 in
    record {
      next = eqb-true number (2 + length nodes) lower.0;
      variable = ltb-true node.v variables lower.1;
      low = ltb-true node.low number middle.1;
      high = ltb-true node.high number upper.1;
    }

IsProduct-append : (nodes more : List Node) (row : Product) → IsProduct nodes row → IsProduct (nodes ++ more) row
IsProduct-append nodes more row product = record {
  a_node = omega (arith, length-append nodes more, product.a_node);
  b_node = omega (arith, length-append nodes more, product.b_node);
  c_node = omega (arith, length-append nodes more, product.c_node);
  joins = λ assignment. node_value-append nodes more assignment row.c product.c_node
      ∙ product.joins assignment
      ∙ sym (ap₂ (apply_connective row.op) (node_value-append nodes more assignment row.a product.a_node) (node_value-append nodes more assignment row.b product.b_node));
}

-- what isn't rejected by two tests meets both
refused_if-ok : {A : Type 0} (full broken : Bool) (no_room breach : Fault) (x accepted : A) → refused_if full no_room (refused_if broken breach (Ok x)) ≡ Ok accepted → (full ≡ false) × (broken ≡ false) × (x ≡ accepted)
refused_if-ok full broken no_room breach x accepted is =
    let room = not_refused full no_room (refused_if broken breach (Ok x)) accepted is in
    let rule = not_refused broken breach (Ok x) accepted room.1 in
    let same : x ≡ accepted = cc rule.1 in
    (room.0, rule.0, same)

-- what is accepted has room
pub accept_node-room : (facts : Facts) (number : ℕ) (node accepted : Node) → accept_node facts number node ≡ Ok accepted → length facts.nodes < most_nodes
unfolding accept_node
accept_node-room facts number node accepted is = leb-false most_nodes (length facts.nodes) (not_refused _ _ _ accepted is).0

pub accept_chain-room : (facts : Facts) (number : ℕ) (named : Option Chain) (accepted : Chain) → accept_chain facts number named ≡ Ok accepted → length facts.chains < most_chains
unfolding accept_chain
accept_chain-room facts number named accepted is = leb-false most_chains (length facts.chains) (not_refused _ _ _ accepted is).0

-- a node that is accepted leaves all true
pub accept_node-true : (facts : Facts) (number : ℕ) (node accepted : Node) → accept_node facts number node ≡ Ok accepted → AreTrue facts → AreTrue (record facts { nodes = facts.nodes ++ accepted ∷ [] })
unfolding accept_node
accept_node-true facts number node accepted is true_before =
    let checked = refused_if-ok _ _ _ _ _ accepted is in
    let obeys = is_valid_node-is (variables_of facts.columns) facts.nodes number node (not-false _ checked.1) in
    let P : Node → Type 0 = λ n. AreTrue (record facts { nodes = facts.nodes ++ n ∷ [] }) in
    subst P checked.2 (with_node-true facts number node obeys true_before)
  where
    with_node-true : (facts : Facts) (number : ℕ) (node : Node) → IsValidNode (variables_of facts.columns) facts.nodes number node → AreTrue facts → AreTrue (record facts { nodes = facts.nodes ++ node ∷ [] })
    with_node-true facts number node obeys true_before = record {
      ordered = λ k other bit is. ⊎_elim (λ there. true_before.ordered k other bit there) (λ last. last_ordered k other bit last.0 last.1) (slice_get-append_one facts.nodes node k other is);
      chains = λ k chain is. IsChain-append facts.columns facts.nodes (node ∷ []) chain (true_before.chains k chain is);
      products = λ k row is. IsProduct-append facts.nodes (node ∷ []) row (true_before.products k row is);
    }
      where
        children : (bit : Bool) → child bit node < number
        children true = obeys.high
        children false = obeys.low

        last_ordered : (k : ℕ) (other : Node) (bit : Bool) → k ≡ length facts.nodes → node ≡ other → child bit other < 2 + k
        last_ordered k other bit at same =
            let here : child bit node < 2 + k = omega (arith, children bit, obeys.next) in
            let P : Node → Type 0 = λ n. child bit n < 2 + k in subst P same here

-- a product row that is accepted leaves all true
pub accept_product-true : (facts : Facts) (number : ℕ) (row accepted : Product) (reason : Reason) → accept_product facts number row reason ≡ Ok accepted → AreTrue facts → AreTrue (record facts { products = facts.products ++ accepted ∷ [] })
unfolding accept_product
accept_product-true facts number row accepted reason is true_before =
    let checked = refused_if-ok _ _ _ _ _ accepted is in
    let product = is_valid_product-product (variables_of facts.columns) facts.nodes facts.products number row reason true_before.ordered true_before.products (not-false _ checked.1) in
    let P : Product → Type 0 = λ r. AreTrue (record facts { products = facts.products ++ r ∷ [] }) in
    subst P checked.2 (record {
      ordered = true_before.ordered;
      chains = true_before.chains;
      products = λ k other is. ⊎_elim (λ there. true_before.products k other there) (λ last. subst (IsProduct facts.nodes) last.1 product) (slice_get-append_one facts.products row k other is);
    })

-- a chain that is accepted leaves all true
pub accept_chain-true : (facts : Facts) (number : ℕ) (named : Option Chain) (accepted : Chain) → accept_chain facts number named ≡ Ok accepted → AreTrue facts → AreTrue (record facts { chains = facts.chains ++ accepted ∷ [] })
unfolding accept_chain
accept_chain-true facts number named accepted is true_before =
    if_named named (not_refused (leb most_chains (length facts.chains)) (nowhere 604) (accept_if_named facts number named) accepted is).1
  where
    if_named : (named : Option Chain) → accept_if_named facts number named ≡ Ok accepted → AreTrue (record facts { chains = facts.chains ++ accepted ∷ [] })
    if_named None is = cc
    if_named (Some chain) is =
        let checked = refused_if-ok false (not (is_valid_chain facts.columns facts.nodes facts.chains number chain)) (nowhere 604) (nowhere 603) chain accepted is in
        let claimed = is_valid_chain-chain facts.columns facts.nodes facts.chains number chain true_before.ordered true_before.chains (not-false (is_valid_chain facts.columns facts.nodes facts.chains number chain) checked.1) in
        let P : Chain → Type 0 = λ c. AreTrue (record facts { chains = facts.chains ++ c ∷ [] }) in
        subst P checked.2 (record {
          ordered = true_before.ordered;
          chains = λ k other is. ⊎_elim (λ there. true_before.chains k other there) (λ last. subst (IsChain facts.columns facts.nodes) last.1 claimed) (slice_get-append_one facts.chains chain k other is);
          products = true_before.products;
        })

-- what follows from an answer and is an answer follows from some answer
bind-ok : {A B : Type 0} (r : Result A Fault) (f : A → B) (y : B) → (r >>= λ x. Ok (f x)) ≡ Ok y → (x : A) × (r ≡ Ok x) × (f x ≡ y)
bind-ok (Ok x) f y is = (x, refl, cc)
bind-ok (Err fault) f y is = cc

-- lines that are accepted leave all true
pub with_node-true : (facts after : Facts) (n : ℕ) (node : Node) → AreTrue facts → with_node facts n node ≡ Ok after → AreTrue after
with_node-true facts after n node true_before is =
    let found = bind-ok (accept_node facts n node) (λ node. record facts { nodes = facts.nodes ++ node ∷ [] }) after is in
    subst AreTrue found.2 (accept_node-true facts n node found.0 found.1 true_before)

pub with_chain-true : (facts after : Facts) (n : ℕ) (named : Option Chain) → AreTrue facts → with_chain facts n named ≡ Ok after → AreTrue after
with_chain-true facts after n named true_before is =
    let found = bind-ok (accept_chain facts n named) (λ chain. record facts { chains = facts.chains ++ chain ∷ [] }) after is in
    subst AreTrue found.2 (accept_chain-true facts n named found.0 found.1 true_before)

pub with_product-true : (facts after : Facts) (n : ℕ) (row : Product) (reason : Reason) → AreTrue facts → with_product facts n row reason ≡ Ok after → AreTrue after
with_product-true facts after n row reason true_before is =
    let found = bind-ok (accept_product facts n row reason) (λ row. record facts { products = facts.products ++ row ∷ [] }) after is in
    subst AreTrue found.2 (accept_product-true facts n row found.0 reason found.1 true_before)
