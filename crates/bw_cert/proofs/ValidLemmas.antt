-- Sections one after another, and what a valid certificate's lines state.
use Rattle.std.proofs.Common.{◌≡◌, ◌∙◌, refl, sym, ap, ap₂, subst, ℕ, suc, Bool, true, not, ◌&&◌}
use Rattle.std.proofs.Common.{List, [], ◌∷◌, Option, Some, Result, Ok, Err, slice_get}
use Rattle.std.specs.List.{list_all}
use Rattle.bw_model.specs.declared.column.Column.{Column}
use Rattle.bw_model.specs.declared.fault.Fault.{Fault}
use Rattle.bw_model.specs.Fault.{at_line, ◌>>=◌, refused_if}
use Rattle.bw_model.proofs.FaultLemmas.{not_refused, bind_ok}
use Rattle.bw_diagram.specs.declared.product.Connective.TheVariants.{Xor}
use Rattle.std.proofs.lemmas.Bool.{not-false}
use Rattle.bw_diagram.specs.References.{product_node}
use Rattle.bw_diagram.specs.Facts.{Facts, AreTrue, no_facts, with_node, with_chain, with_product}
use Rattle.bw_program.specs.declared.instr.Instr.{Instr}
use Rattle.bw_program.specs.declared.instr.Instr.TheVariants as instr
use Rattle.bw_diagram.specs.declared.node.Node.{Node}
use Rattle.bw_diagram.specs.declared.chain.Chain.{Chain}
use Rattle.bw_diagram.specs.declared.product.Product.{Product}
use Rattle.bw_diagram.specs.declared.product.Reason.{Reason}
use Rattle.bw_program.specs.Program.{instr_fits}
use Rattle.bw_program.specs.ProgramText.{found_on}
use Rattle.bw_cert_text.specs.declared.lines.BodyLine.{BodyLine}
use Rattle.bw_cert_text.specs.declared.lines.InstructionEntry.{InstructionEntry}
use Rattle.bw_cert_text.specs.CertificateShape.{CertificateShape}
use Rattle.bw_cert_rules.specs.Instruction.{check_instruction_line, loaded_node, byte_chain}
use Rattle.bw_cert_rules.specs.Instruction.{set_register}
use Rattle.bw_cert_rules.specs.Join.{is_zero}
use Rattle.bw_cert_rules.specs.Known.{KnownNodes, node_of}
use Rattle.bw_cert_rules.specs.Walk.{WalkState}
use Rattle.bw_cert.specs.StatedFacts.{on_line, with_lines, with_node_line, with_chain_line}
use Rattle.bw_cert.specs.StatedFacts.{with_product_line, facts_stated}
use Rattle.bw_cert.specs.Valid.{last_on, end_on}
use Rattle.bw_cert_rules.proofs.HoldLemmas.{ok_same, found_ok}

on_line_ok : (line : ℕ) (r : Result Facts Fault) (facts : Facts) → on_line line r ≡ Ok facts → r ≡ Ok facts
on_line_ok line (Ok x) facts is = is
on_line_ok line (Err fault) facts is = cc

-- the end, if it is right
pub record Ended (facts : Facts) (taken : WalkState) (result first row : ℕ) : Type 0 where
  pub none : taken.rest ≡ []
  pub node : ℕ
  pub known : node_of taken.known result ≡ Some node
  pub zero : is_zero (product_node facts Xor node first row) ≡ true

pub ended : (facts found : Facts) (end : ℕ) (taken : WalkState) (result first row : ℕ) → end_on facts end taken result first row ≡ Ok found → Ended facts taken result first row
ended facts found end taken result first row is = at taken.rest refl is
  where
    at : (rest : List BodyLine) → taken.rest ≡ rest → last_on facts end rest taken.known result first row ≡ Ok found → Ended facts taken result first row
    at (line ∷ lines) there is = cc
    at [] there is =
        let node = bind_ok (found_on 609 end (node_of taken.known result)) _ found is in
        let zero = not_refused (not (is_zero (product_node facts Xor node.0 first row))) _ _ found node.2 in
        record { none = there; node = node.0; known = found_ok 609 end _ node.0 node.1; zero = not-false _ zero.0 }

pub ends : (facts : Facts) (end : ℕ) (known : KnownNodes) (result first row node : ℕ) → node_of known result ≡ Some node → is_zero (product_node facts Xor node first row) ≡ true →
    end_on facts end (record { known = known; rest = [] }) result first row ≡ Ok facts
ends facts end known result first row node there none =
    ap (λ o. found_on 609 end o >>= λ node. refused_if (not (is_zero (product_node facts Xor node first row))) (at_line 610 end) (Ok facts)) there
    ∙ ap (λ b. refused_if (not b) (at_line 610 end) (Ok facts)) none

-- what holds before lines, and past each that is accepted, holds past all
pub all_hold : {Line : Type 0} (P : Facts → Type 0) (add : Facts → Line → Result Facts Fault) (facts last : Facts) (lines : List Line) → ((facts more : Facts) (line : Line) → P facts → add facts line ≡ Ok more → P more) →
    P facts → with_lines add facts lines ≡ Ok last → P last
unfolding with_lines
all_hold P add facts last [] each holds is = subst P (ok_same is) holds
all_hold P add facts last (line ∷ lines) each holds is =
    let one = bind_ok (add facts line) _ last is in
    all_hold P add one.0 last lines each (each facts one.0 line holds one.1) one.2

-- a line that is accepted leaves the columns
columns_kept : {X : Type 0} (before more : Facts) (found : Result X Fault) (with : X → Facts) → (found >>= λ x. Ok (with x)) ≡ Ok more → ((x : X) → (with x).columns ≡ before.columns) → more.columns ≡ before.columns
columns_kept before more found with is same =
    let x = bind_ok found (λ x. Ok (with x)) more is in
    ap (λ (f : Facts). f.columns) (sym (ok_same x.2)) ∙ same x.0

-- what a certificate states is of its columns
pub stated_columns : (columns : List Column) (certificate : CertificateShape) (facts : Facts) → facts_stated columns certificate ≡ Ok facts → facts.columns ≡ columns
stated_columns columns certificate facts is =
    let nodes = bind_ok (with_lines with_node_line (no_facts columns) certificate.nodes) _ facts is in
    let chains = bind_ok (with_lines with_chain_line nodes.0 certificate.chains) _ facts nodes.2 in
    let P : Facts → Type 0 = λ facts. facts.columns ≡ columns in
    all_hold P with_product_line chains.0 facts certificate.products (λ before more line right is. columns_kept before more _ _ (on_line_ok line.line _ more is) (λ x. refl) ∙ right)
    (all_hold P with_chain_line nodes.0 chains.0 certificate.chains (λ before more line right is. columns_kept before more _ _ (on_line_ok line.line _ more is) (λ x. refl) ∙ right)
    (all_hold P with_node_line (no_facts columns) nodes.0 certificate.nodes (λ before more line right is. columns_kept before more _ _ (on_line_ok line.line _ more is) (λ x. refl) ∙ right)
    refl nodes.1) chains.1) chains.2

-- and true
pub stated_true : (columns : List Column) (certificate : CertificateShape) (facts : Facts) → AreTrue (no_facts columns) →
    ((facts more : Facts) (n : ℕ) (node : Node) → AreTrue facts → with_node facts n node ≡ Ok more → AreTrue more) →
    ((facts more : Facts) (n : ℕ) (named : Option Chain) → AreTrue facts → with_chain facts n named ≡ Ok more → AreTrue more) →
    ((facts more : Facts) (n : ℕ) (row : Product) (reason : Reason) → AreTrue facts → with_product facts n row reason ≡ Ok more → AreTrue more) →
    facts_stated columns certificate ≡ Ok facts → AreTrue facts
stated_true columns certificate facts start node chain row is =
    let nodes = bind_ok (with_lines with_node_line (no_facts columns) certificate.nodes) _ facts is in
    let chains = bind_ok (with_lines with_chain_line nodes.0 certificate.chains) _ facts nodes.2 in
    all_hold AreTrue with_product_line chains.0 facts certificate.products (λ before more line right is. row before more line.n _ line.reason right (on_line_ok line.line _ more is))
    (all_hold AreTrue with_chain_line nodes.0 chains.0 certificate.chains (λ before more line right is. chain before more line.n _ right (on_line_ok line.line _ more is))
    (all_hold AreTrue with_node_line (no_facts columns) nodes.0 certificate.nodes (λ before more line right is. node before more line.n _ right (on_line_ok line.line _ more is))
    start nodes.1) chains.1) chains.2

-- a node that is found by a line, if a test of columns passes
found_fits : {A : Type 0} (known past : KnownNodes) (register line : ℕ) (found : Option A) (there : Bool) (next : A → Result ℕ Fault) →
    set_register known register (found_on 607 line found >>= λ x. refused_if (not there) (at_line 607 line) (next x)) ≡ Ok past → there ≡ true
found_fits known past register line found there next is =
    let node = bind_ok (found_on 607 line found >>= λ x. refused_if (not there) (at_line 607 line) (next x)) _ past is in
    let named = bind_ok (found_on 607 line found) _ node.0 node.1 in
    not-false _ (not_refused (not there) _ _ node.0 named.2).0

-- an instruction whose line is right names what the columns have
pub after_fits : (facts : Facts) (known past : KnownNodes) (line : ℕ) (i : Instr) (given : InstructionEntry) → check_instruction_line facts known line i given ≡ Ok past → instr_fits facts.columns i ≡ true
unfolding check_instruction_line
after_fits facts known past line (instr.Load r column bit) given is = found_fits known past r line (loaded_node given) _ _ is
after_fits facts known past line (instr.Nulls r column) given is = found_fits known past r line (loaded_node given) _ _ is
after_fits facts known past line (instr.ByteLt r column slice k) given is = found_fits known past r line (byte_chain given) _ _ is
after_fits facts known past line (instr.ByteEq r column slice k) given is = found_fits known past r line (byte_chain given) _ _ is
after_fits facts known past line _ given is = refl

-- what is so of each item of a list
pub all_so : {A : Type 0} (p : A → Bool) (xs : List A) → ((k : ℕ) (x : A) → slice_get xs k ≡ Some x → p x ≡ true) → list_all p xs ≡ true
all_so p [] each = refl
all_so p (x ∷ xs) each = ap₂ (λ a b. a && b) (each 0 x refl) (all_so p xs (λ k y there. each (suc k) y there))
