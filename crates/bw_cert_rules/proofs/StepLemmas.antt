-- What is known after an instruction holds after its step.
use Rattle.std.proofs.Common.{◌≡◌, ◌∙◌, refl, sym, ap, ap₂, subst, ℕ, suc, ◌+◌, ◌-◌, ◌*◌, ◌^◌, ◌<◌}
use Rattle.std.proofs.Common.{Bool, true, false, not, ◌&&◌, ◌||◌, cond, List, map, Option, Some}
use Rattle.std.proofs.Common.{Result, None, Ok, nat_le, arith, lt-ltb, leb-true, ne_eqb}
use Rattle.std.proofs.lemmas.Simd.{zip2-map, map-map}
use Rattle.std.specs.Simd.Lanes.{zip2}
use Rattle.bw_model.specs.declared.fault.Fault.{Fault}
use Rattle.bw_model.specs.StoredCodes.{byte_spelled, bits_in_slice}
use Rattle.bw_model.specs.Variable.{Assignment, first_variable, bit_variable}
use Rattle.bw_model.proofs.VariableLemmas.{binary_number-lt}
use Rattle.bw_model.proofs.FaultLemmas.{not_refused, bind_ok}
use Rattle.bw_diagram.specs.declared.chain.ChainKind.{ChainKind}
use Rattle.bw_diagram.specs.declared.chain.ChainKind.TheVariants.{Less, Equal}
use Rattle.bw_diagram.specs.declared.product.Connective.{Connective}
use Rattle.bw_diagram.specs.declared.product.Connective.TheVariants as connective
use Rattle.bw_diagram.specs.Chain.{compares}
use Rattle.bw_diagram.specs.Facts.{Facts}
use Rattle.bw_diagram.specs.Node.{node_value}
use Rattle.bw_diagram.specs.Product.{apply_connective}
use Rattle.bw_diagram.specs.References.{HaveStatedValues, comparison_node, is_variable, variable_node}
use Rattle.bw_program.specs.declared.instr.Instr.{Instr}
use Rattle.bw_program.specs.declared.instr.Instr.TheVariants.{Load, Nulls, Fill, And, Or, Xor, Not}
use Rattle.bw_program.specs.declared.instr.Instr.TheVariants.{ByteLt, ByteEq, Skip}
use Rattle.bw_program.specs.Machine.{State, with_register, in_lanes, differ, step, after_skip, is_zero_in_all}
use Rattle.bw_program.specs.ProgramText.{found_on}
use Rattle.bw_cert_text.specs.declared.lines.InstructionEntry.{InstructionEntry}
use Rattle.bw_cert_rules.specs.Instruction.{loaded_node, operation_row, byte_chain, is_fill}
use Rattle.bw_cert_rules.specs.Instruction.{is_skip_line, terminal, plane_on, operation_on, read_on}
use Rattle.bw_cert_rules.specs.Instruction.{joined_on, opposite_on, past_node, byte_node, byte_on}
use Rattle.bw_cert_rules.specs.Instruction.{check_instruction_line, set_register}
use Rattle.bw_cert_rules.specs.Known.{KnownNodes}
use Rattle.bw_cert_rules.specs.Sound.{Hold}
use Rattle.bw_cert_rules.proofs.HoldLemmas.{found_ok, map_same, holds_written, ok_same}
use Rattle.std.proofs.lemmas.Option.{none-some, same_Some}

-- a node's values in some lanes
abbrev pub values : Facts → List Assignment → ℕ → List Bool
values facts lanes node = map (λ assignment. node_value facts.nodes assignment node) lanes

variable_denotes : (facts : Facts) (lanes : List Assignment) (v given node : ℕ) → HaveStatedValues facts → variable_node facts v given ≡ Some node → in_lanes lanes (λ bits. bits v) ≡ values facts lanes node
variable_denotes facts lanes v given node denoted is = at (is_variable facts v given) refl is
  where
    at : (tested : Bool) → is_variable facts v given ≡ tested → cond tested (Some given) None ≡ Some node → in_lanes lanes (λ bits. bits v) ≡ values facts lanes node
    at false tested is = cc
    at true tested is =
        let same : given ≡ node = cc in
        map_same (λ bits. bits v) (λ bits. node_value facts.nodes bits node) lanes
        (λ bits. sym ((denoted.variable v given tested).1 bits) ∙ ap (node_value facts.nodes bits) same)

plane_denotes : (facts : Facts) (lanes : List Assignment) (line v node : ℕ) (there : Bool) (given : InstructionEntry) → HaveStatedValues facts → plane_on facts line there v given ≡ Ok node → in_lanes lanes (λ bits. bits v) ≡ values facts lanes node
plane_denotes facts lanes line v node there given denoted is =
    let named = bind_ok (found_on 607 line (loaded_node given)) _ node is in
    let passed = not_refused (not there) _ _ node named.2 in
    variable_denotes facts lanes v named.0 node denoted (found_ok 607 line _ node passed.1)

-- the third node of an operation's row
row_denotes : (facts : Facts) (line : ℕ) (op : Connective) (a b row node : ℕ) → HaveStatedValues facts → operation_on facts line op a b row ≡ Ok node → (assignment : Assignment) →
    node_value facts.nodes assignment node ≡ apply_connective op (node_value facts.nodes assignment a) (node_value facts.nodes assignment b)
row_denotes facts line op a b row node denoted is = (denoted.row op a b row node (found_ok 607 line _ node is)).1

-- an operation on two registers, lane by lane
joined_denotes : (facts : Facts) (lanes : List Assignment) (known : KnownNodes) (registers : ℕ → List Bool) (line : ℕ) (op : Connective) (f : Bool → Bool → Bool) (x y node : ℕ) (given : InstructionEntry) → HaveStatedValues facts →
    Hold facts lanes known registers → ((a b : Bool) → f a b ≡ apply_connective op a b) → joined_on facts known line op x y given ≡ Ok node → zip2 f (registers x) (registers y) ≡ values facts lanes node
joined_denotes facts lanes known registers line op f x y node given denoted holds same is =
    let named = bind_ok (found_on 607 line (operation_row given)) _ node is in
    let left = bind_ok (read_on known line x) _ node named.2 in
    let right = bind_ok (read_on known line y) _ node left.2 in
    let a : ℕ = left.0 in
    let b : ℕ = right.0 in
    ap₂ (zip2 f) (holds x a (found_ok 609 line _ a left.1)) (holds y b (found_ok 609 line _ b right.1))
    ∙ zip2-map f (λ assignment. node_value facts.nodes assignment a) (λ assignment. node_value facts.nodes assignment b) lanes
    ∙ map_same _ _ lanes (λ assignment. same (node_value facts.nodes assignment a) (node_value facts.nodes assignment b) ∙ sym (row_denotes facts line op a b named.0 node denoted right.2 assignment))

opposite_denotes : (facts : Facts) (lanes : List Assignment) (known : KnownNodes) (registers : ℕ → List Bool) (line x node : ℕ) (given : InstructionEntry) → HaveStatedValues facts →
    Hold facts lanes known registers → opposite_on facts known line x given ≡ Ok node → map not (registers x) ≡ values facts lanes node
opposite_denotes facts lanes known registers line x node given denoted holds is =
    let named = bind_ok (found_on 607 line (operation_row given)) _ node is in
    let read = bind_ok (read_on known line x) _ node named.2 in
    let a : ℕ = read.0 in
    ap (map not) (holds x a (found_ok 609 line _ a read.1))
    ∙ map-map not (λ assignment. node_value facts.nodes assignment a) lanes
    ∙ map_same _ _ lanes (λ assignment. ap (λ one. one && not (node_value facts.nodes assignment a)) (sym (denoted.one assignment)) ∙ sym (row_denotes facts line connective.Diff 1 a named.0 node denoted read.2 assignment))

fill_denotes : (facts : Facts) (lanes : List Assignment) (bit : Bool) → HaveStatedValues facts → in_lanes lanes (λ bits. bit) ≡ values facts lanes (terminal bit)
fill_denotes facts lanes true denoted = map_same _ _ lanes (λ assignment. sym (denoted.one assignment))
fill_denotes facts lanes false denoted = map_same _ _ lanes (λ assignment. sym (denoted.zero assignment))

-- a comparison with a number past all of this many bits
past_denotes : (facts : Facts) (assignment : Assignment) (kind : ChainKind) (n k : ℕ) → HaveStatedValues facts → n < k → compares kind n k ≡ node_value facts.nodes assignment (past_node kind)
past_denotes facts assignment Less n k denoted small = lt-ltb n k small ∙ sym (denoted.one assignment)
past_denotes facts assignment Equal n k denoted small = ne_eqb n k (λ same. absurd (omega (arith, small, same))) ∙ sym (denoted.zero assignment)

byte_denotes : (facts : Facts) (lanes : List Assignment) (line : ℕ) (kind : ChainKind) (there : Bool) (column slice k node : ℕ) (given : InstructionEntry) → HaveStatedValues facts →
    byte_on facts line kind there column slice k given ≡ Ok node → in_lanes lanes (λ bits. compares kind (byte_spelled facts.columns column slice bits) k) ≡ values facts lanes node
byte_denotes facts lanes line kind there column slice k node given denoted is =
    let named = bind_ok (found_on 607 line (byte_chain given)) _ node is in
    let passed = not_refused (not there) _ _ node named.2 in
    map_same _ _ lanes (at named.0 (nat_le (2 ^ bits_in_slice facts.columns column slice) k) refl (found_ok 607 line _ node passed.1))
  where
    byte : Assignment → ℕ
    byte assignment = byte_spelled facts.columns column slice assignment

    at : (chain : Option ℕ) (past : Bool) → nat_le (2 ^ bits_in_slice facts.columns column slice) k ≡ past → byte_node facts kind column slice k chain ≡ Some node →
        (assignment : Assignment) → compares kind (byte assignment) k ≡ node_value facts.nodes assignment node
    at None true past is assignment =
        let node_is : past_node kind ≡ node = same_Some _ _ (ap (λ b. cond b (Some (past_node kind)) None) (sym past) ∙ is) in
        let small : byte assignment < k =
        omega (arith, leb-true (2 ^ bits_in_slice facts.columns column slice) k past, binary_number-lt assignment (first_variable facts.columns (suc column) - (8 * slice + bits_in_slice facts.columns column slice)) (bits_in_slice facts.columns column slice)) in
        past_denotes facts assignment kind (byte assignment) k denoted small ∙ ap (node_value facts.nodes assignment) node_is
    at None false past is assignment = absurd (none-some _ (ap (λ b. cond b (Some (past_node kind)) None) (sym past) ∙ is))
    at (Some chain) true past is assignment = absurd (none-some _ (ap (λ b. cond b None (comparison_node facts kind column (8 * slice) (bits_in_slice facts.columns column slice) k chain)) (sym past) ∙ is))
    at (Some chain) false past is assignment =
        let cites : comparison_node facts kind column (8 * slice) (bits_in_slice facts.columns column slice) k chain ≡ Some node =
        ap (λ b. cond b None (comparison_node facts kind column (8 * slice) (bits_in_slice facts.columns column slice) k chain)) (sym past) ∙ is in
        sym ((denoted.chain kind column (8 * slice) (bits_in_slice facts.columns column slice) k chain node cites).1 assignment)

differ_joins : (a b : Bool) → differ a b ≡ apply_connective connective.Xor a b
differ_joins true false = refl
differ_joins false false = refl
differ_joins _ _ = refl

-- a register that gets a node, and whose lanes have the values of the node
set_holds : (facts : Facts) (lanes : List Assignment) (known past : KnownNodes) (registers : ℕ → List Bool) (r : ℕ) (found : Result ℕ Fault) (bits : List Bool) → Hold facts lanes known registers →
    set_register known r found ≡ Ok past → ((node : ℕ) → found ≡ Ok node → bits ≡ values facts lanes node) → Hold facts lanes past (with_register registers r bits)
set_holds facts lanes known past registers r found bits holds is denotes =
    let node = bind_ok found _ past is in
    subst (λ known. Hold facts lanes known (with_register registers r bits)) (ok_same node.2) (holds_written facts lanes known registers r node.0 bits holds (denotes node.0 node.1))

-- What is known after an instruction by its line holds after its step, if what was known held
-- before it.
pub holds_after_instr : (facts : Facts) (lanes : List Assignment) (known past : KnownNodes) (state : State) (line : ℕ) (instr : Instr) (given : InstructionEntry) → HaveStatedValues facts → Hold facts lanes known state.registers →
    check_instruction_line facts known line instr given ≡ Ok past → Hold facts lanes past (step facts.columns lanes instr state).registers
unfolding check_instruction_line
holds_after_instr facts lanes known past state line (Load r column bit) given denoted holds is =
    set_holds facts lanes known past state.registers r _ _ holds is (λ node. plane_denotes facts lanes line (bit_variable facts.columns column bit) node _ given denoted)
holds_after_instr facts lanes known past state line (Nulls r column) given denoted holds is =
    set_holds facts lanes known past state.registers r _ _ holds is (λ node. plane_denotes facts lanes line (first_variable facts.columns column) node _ given denoted)
holds_after_instr facts lanes known past state line (Fill r bit) given denoted holds is =
    let passed = not_refused (not (is_fill given)) _ _ past is in
    subst (λ k. Hold facts lanes k (step facts.columns lanes (Fill r bit) state).registers) (ok_same passed.1)
    (holds_written facts lanes known state.registers r (terminal bit) _ holds (fill_denotes facts lanes bit denoted))
holds_after_instr facts lanes known past state line (And r x y) given denoted holds is =
    set_holds facts lanes known past state.registers r _ _ holds is
    (λ node. joined_denotes facts lanes known state.registers line connective.And (λ a b. a && b) x y node given denoted holds (λ a b. refl))
holds_after_instr facts lanes known past state line (Or r x y) given denoted holds is =
    set_holds facts lanes known past state.registers r _ _ holds is
    (λ node. joined_denotes facts lanes known state.registers line connective.Or (λ a b. a || b) x y node given denoted holds (λ a b. refl))
holds_after_instr facts lanes known past state line (Xor r x y) given denoted holds is =
    set_holds facts lanes known past state.registers r _ _ holds is (λ node. joined_denotes facts lanes known state.registers line connective.Xor differ x y node given denoted holds differ_joins)
holds_after_instr facts lanes known past state line (Not r x) given denoted holds is =
    set_holds facts lanes known past state.registers r _ _ holds is (λ node. opposite_denotes facts lanes known state.registers line x node given denoted holds)
holds_after_instr facts lanes known past state line (ByteLt r column slice k) given denoted holds is =
    set_holds facts lanes known past state.registers r _ _ holds is (λ node. byte_denotes facts lanes line Less _ column slice k node given denoted)
holds_after_instr facts lanes known past state line (ByteEq r column slice k) given denoted holds is =
    set_holds facts lanes known past state.registers r _ _ holds is (λ node. byte_denotes facts lanes line Equal _ column slice k node given denoted)
holds_after_instr facts lanes known past state line (Skip x target) given denoted holds is =
    let passed = not_refused (not (is_skip_line given)) _ _ past is in
    let read = bind_ok (read_on known line x) _ past passed.1 in
    subst (λ k. Hold facts lanes k (after_skip state (is_zero_in_all (state.registers x)) target).registers) (ok_same read.2) (at (is_zero_in_all (state.registers x)))
  where
    at : (taken : Bool) → Hold facts lanes known (after_skip state taken target).registers
    at true = holds
    at false = holds
