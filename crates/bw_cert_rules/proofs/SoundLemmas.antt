-- What is known at each place holds in every run that reaches it, whichever skips the run takes.
use Rattle.std.proofs.Common.{◌≡◌, ◌∙◌, refl, sym, ap, ap₂, subst, ◌⊎◌, inl, inr, ℕ, zero, suc, ◌+◌}
use Rattle.std.proofs.Common.{◌<◌, ◌≤◌, Bool, true, false, not, cond, IsTrue, List, [], ◌∷◌, ◌++◌}
use Rattle.std.proofs.Common.{length, Option, Some, None, slice_get, arith, eqb, option_and_then}
use Rattle.std.proofs.lemmas.Bool.{false≢true, eqb-true, eqb-false, eq-eqb}
use Rattle.bw_model.proofs.BitsLemmas.{both}
use Rattle.bw_model.specs.Variable.{Assignment}
use Rattle.bw_diagram.specs.declared.product.Connective.TheVariants as connective
use Rattle.bw_diagram.specs.Facts.{Facts}
use Rattle.bw_diagram.specs.Node.{node_value}
use Rattle.bw_diagram.specs.Product.{apply_connective}
use Rattle.bw_diagram.specs.References.{HaveStatedValues, product_node}
use Rattle.bw_program.specs.declared.instr.Instr.{Instr}
use Rattle.bw_program.specs.declared.instr.Instr.TheVariants.{Skip}
use Rattle.bw_program.specs.Machine.{State, step, step_of, state_after, steps_from, after_skip}
use Rattle.bw_program.specs.Machine.{is_zero_in_all, end_state}
use Rattle.bw_program.specs.Program.{ProgramShape, is_program}
use Rattle.bw_program.proofs.EndLemmas.{skips_forward, ends}
use Rattle.bw_cert_text.specs.declared.lines.EdgeProducts.{EdgeProducts}
use Rattle.bw_cert_text.specs.declared.lines.Keep.{Keep}
use Rattle.bw_cert_rules.specs.declared.edge.Edge.{Edge}
use Rattle.bw_cert_rules.specs.Accepted.{KeepLine, JoinLines, Part, known_before, edges_before}
use Rattle.bw_cert_rules.specs.Accepted.{edge_at, known_on_fallthrough, known_after_join}
use Rattle.bw_cert_rules.specs.Accepted.{known_past, kept_by, are_kept, is_valid_join}
use Rattle.bw_cert_rules.specs.Accepted.{AreValidParts}
use Rattle.bw_cert_rules.specs.Join.{with_edge, edges_into, is_zero, is_valid_keep, keeps_through}
use Rattle.bw_cert_rules.specs.Join.{keeps_by_skip, keeps_by_skips}
use Rattle.bw_cert_rules.specs.Known.{KnownNodes, node_of, nothing_known, with_node}
use Rattle.bw_cert_rules.specs.Sound.{Hold}
use Rattle.bw_cert_rules.proofs.HoldLemmas.{map_same, holds_nothing, holds_kept}
use Rattle.bw_cert_rules.proofs.StepLemmas.{values, holds_after_instr}

-- two bits whose XOR is 0 are the same
xor_zero : (a b : Bool) → apply_connective connective.Xor a b ≡ false → a ≡ b
xor_zero true false is = cc
xor_zero false true is = cc
xor_zero _ _ is = refl

-- a node that is 0
pub zero_is : (found : Option ℕ) → is_zero found ≡ true → found ≡ Some 0
zero_is None is = cc
zero_is (Some n) is = ap Some (eqb-true n 0 is)

chained : {A B : Type 0} (o : Option A) (f : A → Option B) (y : B) → option_and_then f o ≡ Some y → (x : A) × (o ≡ Some x) × (f x ≡ Some y)
chained None f y is = cc
chained (Some x) f y is = (x, refl, is)

-- of two nodes whose XOR is the node 0, the values are the same
pub same_denotes : (facts : Facts) (f h row : ℕ) → HaveStatedValues facts → product_node facts connective.Xor f h row ≡ Some 0 → (assignment : Assignment) → node_value facts.nodes assignment f ≡ node_value facts.nodes assignment h
same_denotes facts f h row denoted is assignment =
    xor_zero _ _ (sym ((denoted.row connective.Xor f h row 0 is).1 assignment) ∙ denoted.zero assignment)

-- falling through, a kept register holds the values of its node
kept_through : (facts : Facts) (lanes : List Assignment) (through : KnownNodes) (registers : ℕ → List Bool) (keep : Keep) → HaveStatedValues facts → Hold facts lanes through registers → keeps_through facts through keep ≡ true →
    registers keep.register ≡ values facts lanes keep.node
kept_through facts lanes through registers keep denoted holds is =
    let node = chained (node_of through keep.register) (λ f. product_node facts connective.Xor f keep.node keep.through) 0 (zero_is _ is) in
    holds keep.register node.0 node.1 ∙ map_same _ _ lanes (same_denotes facts node.0 keep.node keep.through denoted node.2)

-- if a node is 0 in all lanes, and another is 1 only if it is 1, two nodes that differ only
-- if the other is 1 have the same values
same_where_zero : (facts : Facts) (lanes : List Assignment) (g h z q differs within : ℕ) → HaveStatedValues facts → product_node facts connective.Xor g h differs ≡ Some z → product_node facts connective.Diff z q within ≡ Some 0 →
    is_zero_in_all (values facts lanes q) ≡ true → values facts lanes g ≡ values facts lanes h
same_where_zero facts [] g h z q differs within denoted xor diff zeros = refl
same_where_zero facts (lane ∷ lanes) g h z q differs within denoted xor diff zeros =
    let each = both (not (node_value facts.nodes lane q)) (is_zero_in_all (values facts lanes q)) zeros in
    ap₂ (λ (b : Bool) (bs : List Bool). b ∷ bs) (at (node_value facts.nodes lane z) (node_value facts.nodes lane q) refl
    (sym ((denoted.row connective.Diff z q within 0 diff).1 lane) ∙ denoted.zero lane) each.0)
    (same_where_zero facts lanes g h z q differs within denoted xor diff each.1)
  where
    at : (zv qv : Bool) → node_value facts.nodes lane z ≡ zv → apply_connective connective.Diff zv qv ≡ false → not qv ≡ true → node_value facts.nodes lane g ≡ node_value facts.nodes lane h
    at false qv zv_is none q_is = xor_zero _ _ (sym ((denoted.row connective.Xor g h differs z xor).1 lane) ∙ zv_is)
    at _ _ zv_is none q_is = cc

-- by a skip that is taken, a kept register holds the values of its node
kept_by_skip : (facts : Facts) (lanes : List Assignment) (registers : ℕ → List Bool) (keep : Keep) (edge : Edge) (rows : EdgeProducts) → HaveStatedValues facts → Hold facts lanes edge.known registers →
    is_zero_in_all (registers edge.register) ≡ true → keeps_by_skip facts keep edge rows ≡ true → registers keep.register ≡ values facts lanes keep.node
kept_by_skip facts lanes registers keep edge rows denoted holds zeros is =
    let z = chained (option_and_then (λ g. product_node facts connective.Xor g keep.node rows.differs) (node_of edge.known keep.register)) _ 0 (zero_is _ is) in
    let q = chained (node_of edge.known edge.register) (λ skipped. product_node facts connective.Diff z.0 skipped rows.within) 0 z.2 in
    let g = chained (node_of edge.known keep.register) (λ g. product_node facts connective.Xor g keep.node rows.differs) z.0 z.1 in
    holds keep.register g.0 g.1
    ∙ same_where_zero facts lanes g.0 keep.node z.0 q.0 rows.differs rows.within denoted g.2 q.2 (ap is_zero_in_all (sym (holds edge.register q.0 q.1)) ∙ zeros)

-- an edge stands among others
In : Edge → List Edge → Type 0
In edge [] = ⊥
In edge (e ∷ edges) = (edge ≡ e) ⊎ In edge edges

pair_there : (facts : Facts) (keep : Keep) (edge : Edge) (edges : List Edge) (rows : List EdgeProducts) → In edge edges → keeps_by_skips facts keep edges rows ≡ true → (pair : EdgeProducts) × (keeps_by_skip facts keep edge pair ≡ true)
unfolding keeps_by_skips In
pair_there facts keep edge [] rows there is = absurd there
pair_there facts keep edge (e ∷ edges) [] there is = cc
pair_there facts keep edge (e ∷ edges) (pair ∷ more) (inl same) is = (pair, ap (λ e. keeps_by_skip facts keep e pair) same ∙ (both _ _ is).0)
pair_there facts keep edge (e ∷ edges) (pair ∷ more) (inr there) is = pair_there facts keep edge edges more there (both _ _ is).1

-- what is kept of a register
kept_parts : (facts : Facts) (through : KnownNodes) (edges : List Edge) (least : ℕ) (keep : Keep) → is_valid_keep facts through edges least keep ≡ true → (keeps_through facts through keep ≡ true) × (keeps_by_skips facts keep edges keep.edges ≡ true)
unfolding is_valid_keep
kept_parts facts through edges least keep is =
    let skips = both _ _ is in
    let falls = both _ _ skips.0 in
    (falls.1, skips.1)

-- what a join keeps holds, if each register that it keeps does
all_kept : (facts : Facts) (lanes : List Assignment) (through : KnownNodes) (registers : ℕ → List Bool) (edges : List Edge) (least : ℕ) (known : KnownNodes) (keeps : List KeepLine) →
    ((keep : Keep) → keeps_through facts through keep ≡ true → keeps_by_skips facts keep edges keep.edges ≡ true → registers keep.register ≡ values facts lanes keep.node) →
    Hold facts lanes known registers → are_kept facts through edges least keeps ≡ true → Hold facts lanes (kept_by known keeps) registers
unfolding are_kept kept_by
all_kept facts lanes through registers edges least known [] each holds is = holds
all_kept facts lanes through registers edges least known (k ∷ keeps) each holds is =
    let now = both _ _ is in
    let parts = kept_parts facts through edges least k.keep now.0 in
    all_kept facts lanes through registers edges (suc k.keep.register) (with_node known k.keep.register k.keep.node) keeps each
    (holds_kept facts lanes known registers k.keep.register k.keep.node holds (each k.keep parts.0 parts.1)) now.1

-- what is known after an instruction holds on falling through to its join, if it has one
past_through : (facts : Facts) (lanes : List Assignment) (through : KnownNodes) (registers : ℕ → List Bool) (edges : List Edge) (join : Option JoinLines) → HaveStatedValues facts → Hold facts lanes through registers →
    is_valid_join facts through edges join ≡ true → Hold facts lanes (known_after_join through join) registers
past_through facts lanes through registers edges None denoted holds is = holds
past_through facts lanes through registers [] (Some join) denoted holds is = cc
past_through facts lanes through registers (e ∷ edges) (Some join) denoted holds is =
    all_kept facts lanes through registers (e ∷ edges) 0 nothing_known join.keeps (λ keep falls skips. kept_through facts lanes through registers keep denoted holds falls) (holds_nothing facts lanes registers) is

-- and by a skip into it that is taken
past_skip : (facts : Facts) (lanes : List Assignment) (through : KnownNodes) (registers : ℕ → List Bool) (edge : Edge) (edges : List Edge) (join : Option JoinLines) → HaveStatedValues facts → In edge edges → Hold facts lanes edge.known registers →
    is_zero_in_all (registers edge.register) ≡ true → is_valid_join facts through edges join ≡ true → Hold facts lanes (known_after_join through join) registers
unfolding In
past_skip facts lanes through registers edge [] join denoted there holds zeros is = absurd there
past_skip facts lanes through registers edge (e ∷ edges) None denoted there holds zeros is = cc
past_skip facts lanes through registers edge (e ∷ edges) (Some join) denoted there holds zeros is =
    all_kept facts lanes through registers (e ∷ edges) 0 nothing_known join.keeps
    (λ keep falls skips. let pair = pair_there facts keep edge (e ∷ edges) keep.edges there skips in
    kept_by_skip facts lanes registers keep edge pair.0 denoted holds zeros pair.1)
    (holds_nothing facts lanes registers) is

in_append : (edge e : Edge) (edges : List Edge) → In edge edges → In edge (edges ++ e ∷ [])
unfolding In
in_append edge e [] there = absurd there
in_append edge e (x ∷ edges) (inl same) = inl same
in_append edge e (x ∷ edges) (inr there) = inr (in_append edge e edges there)

in_last : (edge : Edge) (edges : List Edge) → In edge (edges ++ edge ∷ [])
unfolding In
in_last edge [] = inl refl
in_last edge (x ∷ edges) = inr (in_last edge edges)

in_more : (edge : Edge) (edges : List Edge) (more : Option Edge) → In edge edges → In edge (with_edge edges more)
in_more edge edges None there = there
in_more edge edges (Some e) there = in_append edge e edges there

in_into : (edge : Edge) (edges : List Edge) (place : ℕ) → edge.target ≡ place → In edge edges → In edge (edges_into place edges)
unfolding In edges_into
in_into edge [] place target there = absurd there
in_into edge (e ∷ edges) place target there = at (eqb e.target place) refl there (in_into edge edges place target)
  where
    at : (here : Bool) → eqb e.target place ≡ here → In edge (e ∷ edges) → (In edge edges → In edge (edges_into place edges)) → In edge (cond here (e ∷ edges_into place edges) (edges_into place edges))
    at true is (inl same) rest = inl same
    at true is (inr there) rest = inr (rest there)
    at false is (inl same) rest =
        let here : eqb e.target place ≡ true = ap (λ (e : Edge). eqb e.target place) (sym same) ∙ eq-eqb edge.target place target in
        absurd (false≢true (sym is ∙ here))
    at false is (inr there) rest = rest there

-- the edge of a skip stands among those before each later place
skip_before : (facts : Facts) (instrs : List Instr) (parts : List Part) (k x target place : ℕ) → slice_get instrs k ≡ Some (Skip x target) → k < place →
    In (record { target = target; register = x; known = known_before facts instrs parts k }) (edges_before facts instrs parts place)
unfolding edges_before
skip_before facts instrs parts k x target zero there lt = absurd (omega (arith, lt))
skip_before facts instrs parts k x target (suc place) there lt = at (eqb k place) refl (skip_before facts instrs parts k x target place there)
  where
    edge : Edge
    edge = record { target = target; register = x; known = known_before facts instrs parts k }

    earlier : List Edge
    earlier = edges_before facts instrs parts place

    at : (here : Bool) → eqb k place ≡ here → (k < place → In edge earlier) → In edge (with_edge earlier (edge_at (known_before facts instrs parts place) (slice_get instrs place)))
    at true is rest =
        let same : k ≡ place = eqb-true k place is in
        let last : with_edge earlier (edge_at (known_before facts instrs parts place) (slice_get instrs place)) ≡ earlier ++ edge ∷ [] =
        ap (λ p. with_edge earlier (edge_at (known_before facts instrs parts p) (slice_get instrs p))) (sym same)
        ∙ ap (λ i. with_edge earlier (edge_at (known_before facts instrs parts k) i)) there in
        subst (In edge) (sym last) (in_last edge earlier)
    at false is rest = in_more edge earlier _ (rest (omega (arith, lt, eqb-false k place is)))

-- a list as long as another has something wherever that one has
pub part_there : {A B : Type 0} (xs : List A) (ys : List B) (k : ℕ) (x : A) → length ys ≡ length xs → slice_get xs k ≡ Some x → (y : B) × (slice_get ys k ≡ Some y)
part_there (a ∷ xs) (b ∷ ys) zero x long is = (b, refl)
part_there (a ∷ xs) (b ∷ ys) (suc k) x long is = part_there xs ys k x (omega (arith, long)) is
part_there _ _ k x long is = cc

instr_there : {A : Type 0} (xs : List A) (k : ℕ) → k < length xs → (x : A) × (slice_get xs k ≡ Some x)
instr_there [] k lt = absurd (omega (arith, lt))
instr_there (a ∷ xs) zero lt = (a, refl)
instr_there (a ∷ xs) (suc k) lt = instr_there xs k (omega (arith, lt))

-- what is known after an instruction, by its part
past_is : (facts : Facts) (instrs : List Instr) (parts : List Part) (place : ℕ) (instr : Instr) (part : Part) → slice_get instrs place ≡ Some instr → slice_get parts place ≡ Some part →
    known_before facts instrs parts (suc place) ≡ known_after_join (known_on_fallthrough facts (known_before facts instrs parts place) instr part) part.join
unfolding known_before
past_is facts instrs parts place instr part there given = ap₂ (known_past facts (known_before facts instrs parts place)) there given

-- skips go forward, and not past the end
abbrev pub Forward : List Instr → Type 0
Forward instrs = (k x target : ℕ) → slice_get instrs k ≡ Some (Skip x target) → (k < target) × (target ≤ length instrs)

-- a state in which what is known at its place holds
HoldsAt : Facts → List Assignment → List Instr → List Part → State → Type 0
HoldsAt facts lanes instrs parts state = Hold facts lanes (known_before facts instrs parts state.place) state.registers

-- an instruction after which the next one comes
fell : (facts : Facts) (lanes : List Assignment) (instrs : List Instr) (parts : List Part) (state : State) (instr : Instr) (next : State) → HaveStatedValues facts → AreValidParts facts instrs parts → slice_get instrs state.place ≡ Some instr →
    HoldsAt facts lanes instrs parts state → next.place ≡ suc state.place → next.registers ≡ (step facts.columns lanes instr state).registers → HoldsAt facts lanes instrs parts next
unfolding HoldsAt
fell facts lanes instrs parts state instr next denoted valid_parts there holds place registers =
    let part = part_there instrs parts state.place instr valid_parts.part_count there in
    let known : KnownNodes = known_before facts instrs parts state.place in
    let stepped = holds_after_instr facts lanes known (known_on_fallthrough facts known instr part.0) state part.0.line instr part.0.entry denoted holds (valid_parts.instruction state.place instr part.0 there part.1) in
    let past_join = past_through facts lanes (known_on_fallthrough facts known instr part.0) (step facts.columns lanes instr state).registers _ part.0.join denoted stepped (valid_parts.join state.place instr part.0 there part.1) in
    let here = past_is facts instrs parts state.place instr part.0 there part.1 in
    subst (λ p. Hold facts lanes (known_before facts instrs parts p) next.registers) (sym place)
    (subst (λ rs. Hold facts lanes (known_before facts instrs parts (suc state.place)) rs) (sym registers) (subst (λ k. Hold facts lanes k (step facts.columns lanes instr state).registers) (sym here) past_join))

-- a skip that is taken
skipped : (facts : Facts) (lanes : List Assignment) (instrs : List Instr) (parts : List Part) (state : State) (x target : ℕ) → HaveStatedValues facts → AreValidParts facts instrs parts → Forward instrs → slice_get instrs state.place ≡ Some (Skip x target) →
    is_zero_in_all (state.registers x) ≡ true → HoldsAt facts lanes instrs parts state → Hold facts lanes (known_before facts instrs parts target) state.registers
unfolding HoldsAt
skipped facts lanes instrs parts state x zero denoted valid_parts forward there zeros holds = absurd (omega (arith, (forward state.place x 0 there).0))
skipped facts lanes instrs parts state x (suc place) denoted valid_parts forward there zeros holds =
    let ahead = forward state.place x (suc place) there in
    let instr = instr_there instrs place (omega (arith, ahead.1)) in
    let part = part_there instrs parts place instr.0 valid_parts.part_count instr.1 in
    let edge : Edge = record { target = suc place; register = x; known = known_before facts instrs parts state.place } in
    let among = in_into edge (edges_before facts instrs parts (suc place)) (suc place) refl (skip_before facts instrs parts state.place x (suc place) (suc place) there ahead.0) in
    subst (λ k. Hold facts lanes k state.registers) (sym (past_is facts instrs parts place instr.0 part.0 instr.1 part.1))
    (past_skip facts lanes (known_on_fallthrough facts (known_before facts instrs parts place) instr.0 part.0) state.registers edge _ part.0.join denoted among holds zeros (valid_parts.join place instr.0 part.0 instr.1 part.1))

-- one step more
stepped : (facts : Facts) (lanes : List Assignment) (instrs : List Instr) (parts : List Part) (state : State) (instr : Instr) → HaveStatedValues facts → AreValidParts facts instrs parts → Forward instrs → slice_get instrs state.place ≡ Some instr →
    HoldsAt facts lanes instrs parts state → HoldsAt facts lanes instrs parts (step facts.columns lanes instr state)
unfolding HoldsAt
stepped facts lanes instrs parts state (Skip x target) denoted valid_parts forward there holds = at (is_zero_in_all (state.registers x)) refl
  where
    same : (taken : Bool) → (after_skip state taken target).registers ≡ state.registers
    same true = refl
    same false = refl

    at : (taken : Bool) → is_zero_in_all (state.registers x) ≡ taken → HoldsAt facts lanes instrs parts (after_skip state taken target)
    at true is = skipped facts lanes instrs parts state x target denoted valid_parts forward there is holds
    at false is = fell facts lanes instrs parts state (Skip x target) (after_skip state false target) denoted valid_parts there holds (omega arith) (sym (same (is_zero_in_all (state.registers x))))
stepped facts lanes instrs parts state instr denoted valid_parts forward there holds = fell facts lanes instrs parts state instr (step facts.columns lanes instr state) denoted valid_parts there holds (omega arith) refl

-- after any number of steps
pub holds_after : (facts : Facts) (lanes : List Assignment) (program : ProgramShape) (parts : List Part) (steps : ℕ) → HaveStatedValues facts → AreValidParts facts program.instrs parts → Forward program.instrs →
    let state : State = state_after facts.columns lanes program steps in Hold facts lanes (known_before facts program.instrs parts state.place) state.registers
unfolding HoldsAt steps_from known_before
holds_after facts lanes program parts zero denoted valid_parts forward = holds_nothing facts lanes _
holds_after facts lanes program parts (suc steps) denoted valid_parts forward =
    at (slice_get program.instrs (state_after facts.columns lanes program steps).place) refl (holds_after facts lanes program parts steps denoted valid_parts forward)
  where
    last : State
    last = state_after facts.columns lanes program steps

    at : (instr : Option Instr) → slice_get program.instrs last.place ≡ instr → HoldsAt facts lanes program.instrs parts last → HoldsAt facts lanes program.instrs parts (step_of facts.columns lanes instr last)
    at None there holds = holds
    at (Some instr) there holds = stepped facts lanes program.instrs parts last instr denoted valid_parts forward there holds

-- a program's skips go forward, and not past the end
pub forward : (program : ProgramShape) → IsTrue (is_program program) → Forward program.instrs
forward program sound k x target there = skips_forward program k x target sound there

-- at the end, what is known there holds
pub holds_at_end : (facts : Facts) (lanes : List Assignment) (program : ProgramShape) (parts : List Part) → HaveStatedValues facts → AreValidParts facts program.instrs parts → IsTrue (is_program program) →
    Hold facts lanes (known_before facts program.instrs parts (length program.instrs)) (end_state facts.columns lanes program).registers
holds_at_end facts lanes program parts denoted valid_parts sound =
    subst (λ p. Hold facts lanes (known_before facts program.instrs parts p) (end_state facts.columns lanes program).registers) (ends facts.columns lanes program sound)
    (holds_after facts lanes program parts (length program.instrs) denoted valid_parts (forward program sound))
