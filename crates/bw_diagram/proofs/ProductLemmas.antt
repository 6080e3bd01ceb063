-- Product rows are true: by their shortcuts, or by the rows of their cofactors.
use Rattle.std.proofs.Common.{◌≡◌, ◌∙◌, refl, sym, ap, ap₂, ℕ, Bool, true, false, not, ◌&&◌, ◌||◌}
use Rattle.std.proofs.Common.{◌+◌, List, length, Option, Some, None, slice_get, eqb, eqb-true}
use Rattle.std.proofs.Common.{ltb-true}
use Rattle.bw_model.proofs.BitsLemmas.{both}
use Rattle.bw_diagram.specs.declared.product.Connective.{Connective}
use Rattle.bw_diagram.specs.declared.product.Connective.TheVariants.{And, Or, Xor, Diff}
use Rattle.bw_diagram.specs.declared.product.Product.{Product}
use Rattle.bw_diagram.specs.declared.product.Reason.{Reason}
use Rattle.bw_diagram.specs.declared.product.Reason.TheVariants.{Shortcut, Cofactors}
use Rattle.bw_diagram.specs.declared.node.Node.{Node}
use Rattle.bw_model.specs.Variable.{Assignment}
use Rattle.bw_diagram.specs.Node.{AreOrdered, node_value}
use Rattle.bw_diagram.specs.Product.{apply_connective, is_shortcut, same_connective, same_product}
use Rattle.bw_diagram.specs.Product.{is_product, cofactor_product, follows, is_valid_product}
use Rattle.bw_diagram.specs.Product.{IsProduct}
use Rattle.bw_diagram.proofs.NodeLemmas.{node_value-zero, node_value-one, node_value-cofactor}

-- what follows from each of two tests follows from either
pub either : {G : Type 0} (a b : Bool) → (a ≡ true → G) → (b ≡ true → G) → (a || b) ≡ true → G
either true b left right is = left refl
either false b left right is = right is

-- what follows from two equations follows from their tests
meets : {G : Type 0} (a x c y : ℕ) → (a ≡ x → c ≡ y → G) → (eqb a x && eqb c y) ≡ true → G
meets a x c y then is = let each = both (eqb a x) (eqb c y) is in then (eqb-true a x each.0) (eqb-true c y each.1)

-- what a connective gives if a bit is known, or both are the same
and_false : (p : Bool) → false ≡ (p && false)
and_false true = refl
and_false false = refl

and_true : (p : Bool) → p ≡ (p && true)
and_true true = refl
and_true false = refl

and_same : (p : Bool) → p ≡ (p && p)
and_same true = refl
and_same false = refl

or_false : (p : Bool) → p ≡ (p || false)
or_false true = refl
or_false false = refl

or_true : (p : Bool) → true ≡ (p || true)
or_true true = refl
or_true false = refl

or_same : (p : Bool) → p ≡ (p || p)
or_same true = refl
or_same false = refl

xor_false : (p : Bool) → p ≡ apply_connective Xor false p
xor_false true = refl
xor_false false = refl

xor_same : (p : Bool) → false ≡ apply_connective Xor p p
xor_same true = refl
xor_same false = refl

diff_same : (p : Bool) → false ≡ (p && not p)
diff_same true = refl
diff_same false = refl

-- from three values to the claim of a row
claim : (op : Connective) (f : ℕ → Bool) (a b c : ℕ) (p q r : Bool) → f a ≡ p → f b ≡ q → f c ≡ r → r ≡ apply_connective op p q → f c ≡ apply_connective op (f a) (f b)
claim op f a b c p q r fa fb fc is = fc ∙ is ∙ ap₂ (apply_connective op) (sym fa) (sym fb)

-- each shortcut is true of any values that 0 and 1 have at the terminals
pub shortcut_joins : (f : ℕ → Bool) → f 0 ≡ false → f 1 ≡ true → (op : Connective) (a b c : ℕ) → is_shortcut op a b c ≡ true → f c ≡ apply_connective op (f a) (f b)
unfolding is_shortcut
shortcut_joins f zero one And a b c =
    either _ _ (either _ _ (either _ _ (either _ _
    (meets a 0 c 0 (λ x y. claim And f a b c false (f b) false (ap f x ∙ zero) refl (ap f y ∙ zero) refl))
    (meets b 0 c 0 (λ x y. claim And f a b c (f a) false false refl (ap f x ∙ zero) (ap f y ∙ zero) (and_false (f a)))))
    (meets a 1 c b (λ x y. claim And f a b c true (f b) (f b) (ap f x ∙ one) refl (ap f y) refl)))
    (meets b 1 c a (λ x y. claim And f a b c (f a) true (f a) refl (ap f x ∙ one) (ap f y) (and_true (f a)))))
    (meets a b c a (λ x y. claim And f a b c (f a) (f a) (f a) refl (ap f (sym x)) (ap f y) (and_same (f a))))
shortcut_joins f zero one Or a b c =
    either _ _ (either _ _ (either _ _ (either _ _
    (meets a 0 c b (λ x y. claim Or f a b c false (f b) (f b) (ap f x ∙ zero) refl (ap f y) refl))
    (meets b 0 c a (λ x y. claim Or f a b c (f a) false (f a) refl (ap f x ∙ zero) (ap f y) (or_false (f a)))))
    (meets a 1 c 1 (λ x y. claim Or f a b c true (f b) true (ap f x ∙ one) refl (ap f y ∙ one) refl)))
    (meets b 1 c 1 (λ x y. claim Or f a b c (f a) true true refl (ap f x ∙ one) (ap f y ∙ one) (or_true (f a)))))
    (meets a b c a (λ x y. claim Or f a b c (f a) (f a) (f a) refl (ap f (sym x)) (ap f y) (or_same (f a))))
shortcut_joins f zero one Xor a b c =
    either _ _ (either _ _
    (meets a 0 c b (λ x y. claim Xor f a b c false (f b) (f b) (ap f x ∙ zero) refl (ap f y) (xor_false (f b))))
    (meets b 0 c a (λ x y. claim Xor f a b c (f a) false (f a) refl (ap f x ∙ zero) (ap f y) refl)))
    (meets a b c 0 (λ x y. claim Xor f a b c (f a) (f a) false refl (ap f (sym x)) (ap f y ∙ zero) (xor_same (f a))))
shortcut_joins f zero one Diff a b c =
    either _ _ (either _ _ (either _ _
    (meets a 0 c 0 (λ x y. claim Diff f a b c false (f b) false (ap f x ∙ zero) refl (ap f y ∙ zero) refl))
    (meets b 0 c a (λ x y. claim Diff f a b c (f a) false (f a) refl (ap f x ∙ zero) (ap f y) (and_true (f a)))))
    (meets a b c 0 (λ x y. claim Diff f a b c (f a) (f a) false refl (ap f (sym x)) (ap f y ∙ zero) (diff_same (f a)))))
    (meets b 1 c 0 (λ x y. claim Diff f a b c (f a) true false refl (ap f x ∙ one) (ap f y ∙ zero) (and_false (f a))))

-- a test of connectives tells that they are the same
pub same_connective-true : (op other : Connective) → same_connective op other ≡ true → op ≡ other
same_connective-true And And is = refl
same_connective-true Or Or is = refl
same_connective-true Xor Xor is = refl
same_connective-true Diff Diff is = refl
same_connective-true _ _ is = cc

same_product-true : (row other : Product) → same_product row other ≡ true → row ≡ other
same_product-true row other is =
    let c = both _ _ is in
    let b = both _ _ c.0 in
    let a = both _ _ b.0 in
    let with : Connective → ℕ → ℕ → ℕ → Product = λ op a b c. record { op = op; a = a; b = b; c = c } in
    ap (λ op. with op row.a row.b row.c) (same_connective-true row.op other.op a.0)
    ∙ ap (λ n. with other.op n row.b row.c) (eqb-true row.a other.a a.1)
    ∙ ap (λ n. with other.op other.a n row.c) (eqb-true row.b other.b b.1)
    ∙ ap (λ n. with other.op other.a other.b n) (eqb-true row.c other.c c.1)

is_product-some : (row : Product) (found : Option Product) → is_product row found ≡ true → found ≡ Some row
is_product-some row None is = cc
is_product-some row (Some other) is = ap Some (same_product-true other row is)

-- the claims of the rows of its cofactors give the claim of a row
cofactors_join : (nodes : List Node) (v : ℕ) (row : Product) → AreOrdered nodes → IsProduct nodes (cofactor_product nodes v false row) → IsProduct nodes (cofactor_product nodes v true row) → (assignment : Assignment) →
    node_value nodes assignment row.c ≡ apply_connective row.op (node_value nodes assignment row.a) (node_value nodes assignment row.b)
cofactors_join nodes v row ordered low high assignment = by_side (assignment v) refl
  where
    from : (bit : Bool) → assignment v ≡ bit → IsProduct nodes (cofactor_product nodes v bit row) → node_value nodes assignment row.c ≡ apply_connective row.op (node_value nodes assignment row.a) (node_value nodes assignment row.b)
    from bit side product =
        sym (node_value-cofactor nodes assignment v bit row.c ordered side)
        ∙ product.joins assignment
        ∙ ap₂ (apply_connective row.op) (node_value-cofactor nodes assignment v bit row.a ordered side) (node_value-cofactor nodes assignment v bit row.b ordered side)

    by_side : (bit : Bool) → assignment v ≡ bit → node_value nodes assignment row.c ≡ apply_connective row.op (node_value nodes assignment row.a) (node_value nodes assignment row.b)
    by_side true side = from true side high
    by_side false side = from false side low

-- a row that obeys its rule is true, if the rows before it are
pub is_valid_product-product : (variables : ℕ) (nodes : List Node) (rows : List Product) (number : ℕ) (row : Product) (reason : Reason) → AreOrdered nodes →
    ((k : ℕ) (row : Product) → slice_get rows k ≡ Some row → IsProduct nodes row) → is_valid_product variables nodes rows number row reason ≡ true → IsProduct nodes row
unfolding is_valid_product
is_valid_product-product variables nodes rows number row reason ordered before is =
    let reasoned = both _ _ is in
    let c = both _ _ reasoned.0 in
    let b = both _ _ c.0 in
    let a = both _ _ b.0 in
    record {
      a_node = ltb-true row.a (2 + length nodes) a.1;
      b_node = ltb-true row.b (2 + length nodes) b.1;
      c_node = ltb-true row.c (2 + length nodes) c.1;
      joins = by_reason reason reasoned.1;
    }
  where
    by_reason : (reason : Reason) → follows variables nodes rows row reason ≡ true → (assignment : Assignment) →
        node_value nodes assignment row.c ≡ apply_connective row.op (node_value nodes assignment row.a) (node_value nodes assignment row.b)
    by_reason Shortcut is assignment =
        shortcut_joins (node_value nodes assignment) (node_value-zero nodes assignment) (node_value-one nodes assignment) row.op row.a row.b row.c is
    by_reason (Cofactors v i j) is assignment =
        let high = both _ _ is in
        let low = both _ _ high.0 in
        cofactors_join nodes v row ordered
        (before i (cofactor_product nodes v false row) (is_product-some _ _ low.1))
        (before j (cofactor_product nodes v true row) (is_product-some _ _ high.1)) assignment
