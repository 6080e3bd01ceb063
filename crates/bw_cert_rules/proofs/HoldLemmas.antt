-- Known nodes and what registers hold.
use Rattle.std.proofs.Common.{◌≡◌, ◌≢◌, ◌∙◌, refl, ap, ap₂, ◌⊎◌, inl, inr, ℕ, zero, suc, Bool, true}
use Rattle.std.proofs.Common.{false, cond, List, [], ◌∷◌, map, replicate, get_or, Option, Some}
use Rattle.std.proofs.Common.{None, Result, Ok, arith, eqb, eqb-true, eq-eqb}
use Rattle.bw_model.specs.declared.fault.Fault.{Fault}
use Rattle.bw_model.specs.Variable.{Assignment}
use Rattle.bw_diagram.specs.Facts.{Facts}
use Rattle.bw_diagram.specs.Node.{node_value}
use Rattle.bw_program.specs.Machine.{with_register}
use Rattle.bw_text.specs.Register.{register_count}
use Rattle.bw_program.specs.ProgramText.{found_on}
use Rattle.bw_cert_rules.specs.Known.{KnownNodes, node_of, nothing_known, with_node}
use Rattle.bw_cert_rules.specs.Sound.{Hold}

pub ok_same : {A : Type 0} {x y : A} → ◌≡◌ {A = Result A Fault} (Ok x) (Ok y) → x ≡ y
ok_same is = cc

pub found_ok : {A : Type 0} (code line : ℕ) (o : Option A) (x : A) → found_on code line o ≡ Ok x → o ≡ Some x
found_ok code line None x is = cc
found_ok code line (Some y) x is = cc

-- functions that agree give the same list
pub map_same : {A B : Type 0} (f g : A → B) (xs : List A) → ((x : A) → f x ≡ g x) → map f xs ≡ map g xs
map_same f g [] same = refl
map_same {B = B} f g (x ∷ xs) same = ap₂ (λ (y : B) (ys : List B). y ∷ ys) (same x) (map_same f g xs same)

-- the node of a register, if one has been given a node: its own, or what it was
pub looked : (known : KnownNodes) (r register node n : ℕ) → node_of (with_node known r node) register ≡ Some n → ((register ≡ r) × (node ≡ n)) ⊎ ((register ≢ r) × (node_of known register ≡ Some n))
looked [] r register node n is = cc
looked (k ∷ known) zero zero node n is = inl (refl, cc)
looked (k ∷ known) (suc r) (suc register) node n is = up (looked known r register node n is)
  where
    up : ((register ≡ r) × (node ≡ n)) ⊎ ((register ≢ r) × (node_of known register ≡ Some n)) → ((suc register ≡ suc r) × (node ≡ n)) ⊎ ((suc register ≢ suc r) × (node_of known register ≡ Some n))
    up (inl (same, node_is)) = inl (ap suc same, node_is)
    up (inr (other, is)) = inr ((λ same. other (omega (arith, same))), is)
looked (k ∷ known) _ _ node n is = inr ((λ same. absurd (omega (arith, same))), is)

-- nothing is known of any register
pub nothing : (register n : ℕ) → node_of nothing_known register ≡ Some n → ⊥
unfolding nothing_known
nothing register n is = none register_count register is
  where
    none : (count register : ℕ) → get_or (replicate count None) register None ≡ Some n → ⊥
    none (suc count) (suc register) is = none count register is
    none _ _ is = cc

pub holds_nothing : (facts : Facts) (lanes : List Assignment) (registers : ℕ → List Bool) → Hold facts lanes nothing_known registers
holds_nothing facts lanes registers register node is = absurd (nothing register node is)

-- a register that is given a node, and holds its values
pub holds_written : (facts : Facts) (lanes : List Assignment) (known : KnownNodes) (registers : ℕ → List Bool) (r node : ℕ) (bits : List Bool) → Hold facts lanes known registers →
    bits ≡ map (λ assignment. node_value facts.nodes assignment node) lanes → Hold facts lanes (with_node known r node) (with_register registers r bits)
holds_written facts lanes known registers r node bits holds denoted register n is = at (looked known r register node n is)
  where
    value : ℕ → List Bool
    value n = map (λ assignment. node_value facts.nodes assignment n) lanes

    other : (b : Bool) → eqb register r ≡ b → register ≢ r → node_of known register ≡ Some n → cond b bits (registers register) ≡ value n
    other true same differs there = absurd (differs (eqb-true register r same))
    other false same differs there = holds register n there

    at : ((register ≡ r) × (node ≡ n)) ⊎ ((register ≢ r) × (node_of known register ≡ Some n)) → with_register registers r bits register ≡ value n
    at (inl (same, node_is)) = ap (λ k. with_register registers r bits k) same ∙ ap (λ b. cond b bits (registers r)) (eq-eqb r r refl) ∙ denoted ∙ ap value node_is
    at (inr (differs, there)) = other (eqb register r) refl differs there

-- a kept register that holds the values of its node
pub holds_kept : (facts : Facts) (lanes : List Assignment) (known : KnownNodes) (registers : ℕ → List Bool) (r node : ℕ) → Hold facts lanes known registers →
    registers r ≡ map (λ assignment. node_value facts.nodes assignment node) lanes → Hold facts lanes (with_node known r node) registers
holds_kept facts lanes known registers r node holds denoted register n is = at (looked known r register node n is)
  where
    value : ℕ → List Bool
    value n = map (λ assignment. node_value facts.nodes assignment n) lanes

    at : ((register ≡ r) × (node ≡ n)) ⊎ ((register ≢ r) × (node_of known register ≡ Some n)) → registers register ≡ value n
    at (inl (same, node_is)) = ap registers same ∙ denoted ∙ ap value node_is
    at (inr (differs, there)) = holds register n there
