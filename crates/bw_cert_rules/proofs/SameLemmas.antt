-- Lines are checked by what they say, wherever their parts lie in memory.
use Rattle.std.proofs.Common.{◌≡◌, ◌∙◌, refl, sym, ap, ap₂, ℕ, suc, Bool, true, false, not, ◌&&◌}
use Rattle.std.proofs.Common.{◌==◌, List, [], ◌∷◌, map, Option, Some, None, Result, Ok, Err, nat_le}
use Rattle.std.specs.Option.{option_and_then, option_map}
use Rattle.bw_model.specs.declared.fault.Fault.{Fault}
use Rattle.bw_model.specs.Fault.{at_line, ◌>>=◌, refused_if}
use Rattle.bw_diagram.specs.declared.product.Connective.TheVariants as connective
use Rattle.bw_diagram.specs.Facts.{Facts}
use Rattle.bw_diagram.specs.References.{product_node}
use Rattle.bw_program.specs.declared.instr.Instr.{Instr}
use Rattle.bw_text.specs.Register.{is_register}
use Rattle.bw_cert_text.specs.declared.lines.BodyLine.{BodyLine}
use Rattle.bw_cert_text.specs.declared.lines.EdgeProducts.{EdgeProducts}
use Rattle.bw_cert_text.specs.declared.lines.Entry.{Entry}
use Rattle.bw_cert_text.specs.declared.lines.Entry.TheVariants as entry
use Rattle.bw_cert_text.specs.declared.lines.Keep.{Keep}
use Rattle.bw_cert_text.specs.CertificateFields.{BodyFields, EntryFields, KeepFields, Instruction}
use Rattle.bw_cert_text.specs.CertificateFields.{Join, Kept, body_fields, entry_fields, keep_fields}
use Rattle.bw_cert_rules.specs.declared.edge.Edge.{Edge}
use Rattle.bw_cert_rules.specs.Instruction.{check_instruction_line}
use Rattle.bw_cert_rules.specs.Join.{edge_of, with_edge, edges_into, is_zero, keeps_by_skip}
use Rattle.bw_cert_rules.specs.Join.{keeps_by_skips, is_valid_keep}
use Rattle.bw_cert_rules.specs.Known.{KnownNodes, node_of, with_node, nothing_known}
use Rattle.bw_cert_rules.specs.Walk.{WalkState, line_fields, instruction_on, instruction_taken}
use Rattle.bw_cert_rules.specs.Walk.{is_join, keep_in, by_keep, keeps_taken, apply_join}
use Rattle.bw_cert_rules.specs.Walk.{check_lines_from}
use Rattle.bw_cert_rules.proofs.TreeLemmas.{SayTheSame}

abbrev Told : Type 0
Told = Result (KnownNodes × List BodyFields) Fault

abbrev pub taken_of : KnownNodes → List BodyLine → WalkState
taken_of known rest = record { known = known; rest = rest }

-- what a line says of an instruction, of a join and of a register
abbrev instruction_said : Facts → KnownNodes → Instr → ℕ → EntryFields → Result KnownNodes Fault
instruction_said facts known instr line (Instruction given) = check_instruction_line facts known line instr given
instruction_said facts known instr line _ = Err (at_line 607 line)

instruction-said : (facts : Facts) (known : KnownNodes) (instr : Instr) (line : BodyLine) (e : Entry) → instruction_on facts known instr line e ≡ instruction_said facts known instr line.line (entry_fields e)
instruction-said facts known instr line (entry.Keep keep) = refl
instruction-said facts known instr line _ = refl

abbrev join_said : ℕ → EntryFields → Bool
join_said place (Join target) = target == place
join_said place _ = false

join-said : (place : ℕ) (e : Entry) → is_join place e ≡ join_said place (entry_fields e)
join-said place (entry.Keep keep) = refl
join-said place _ = refl

abbrev keep_said : EntryFields → Option KeepFields
keep_said (Kept keep) = Some keep
keep_said _ = None

keep-said : (e : Entry) → option_map keep_fields (keep_in e) ≡ keep_said (entry_fields e)
keep-said (entry.Keep keep) = refl
keep-said _ = refl

-- a line KEEP is checked by its fields
skip_said : Facts → ℕ → ℕ → Edge → EdgeProducts → Bool
skip_said facts node register edge rows =
    is_zero (option_and_then (λ differs. option_and_then (λ skipped. product_node facts connective.Diff differs skipped rows.within) (node_of edge.known edge.register))
    (option_and_then (λ g. product_node facts connective.Xor g node rows.differs) (node_of edge.known register)))

skips_said : Facts → ℕ → ℕ → List Edge → List EdgeProducts → Bool
skips_said facts node register [] [] = true
skips_said facts node register (edge ∷ edges) (rows ∷ others) = skip_said facts node register edge rows && skips_said facts node register edges others
skips_said facts node register _ _ = false

skips-said : (facts : Facts) (keep : Keep) (edges : List Edge) (rows : List EdgeProducts) → keeps_by_skips facts keep edges rows ≡ skips_said facts keep.node keep.register edges rows
unfolding keeps_by_skips skips_said skip_said
skips-said facts keep [] (rows ∷ others) = refl
skips-said facts keep (edge ∷ edges) (rows ∷ others) = ap (λ b. keeps_by_skip facts keep edge rows && b) (skips-said facts keep edges others)
skips-said facts keep _ _ = refl

kept_said : Facts → KnownNodes → List Edge → ℕ → KeepFields → Bool
kept_said facts through edges least keep =
    nat_le least keep.register && is_register keep.register && is_zero (option_and_then (λ f. product_node facts connective.Xor f keep.node keep.through) (node_of through keep.register))
    && skips_said facts keep.node keep.register edges keep.edges

kept-said : (facts : Facts) (through : KnownNodes) (edges : List Edge) (least : ℕ) (keep : Keep) → is_valid_keep facts through edges least keep ≡ kept_said facts through edges least (keep_fields keep)
unfolding is_valid_keep kept_said
kept-said facts through edges least keep =
    ap (λ b. nat_le least keep.register && is_register keep.register && is_zero (option_and_then (λ f. product_node facts connective.Xor f keep.node keep.through) (node_of through keep.register)) && b)
    (skips-said facts keep edges keep.edges)

-- one step after another
bind-same : {A : Type 0} (read : Result A Fault) (f g : A → Result WalkState Fault) → ((x : A) → line_fields (f x) ≡ line_fields (g x)) → line_fields (read >>= f) ≡ line_fields (read >>= g)
bind-same (Ok x) f g each = each x
bind-same (Err fault) f g each = refl

pub after_walk : {A B : Type 0} (see : Result A Fault → B) (read other : Result WalkState Fault) (f g : WalkState → Result A Fault) → line_fields read ≡ line_fields other →
    ((known : KnownNodes) (lines others : List BodyLine) → SayTheSame lines others → see (f (taken_of known lines)) ≡ see (g (taken_of known others))) → see (read >>= f) ≡ see (other >>= g)
after_walk see (Ok a) (Ok b) f g same each =
    let both : (a.known, map body_fields a.rest) ≡ (b.known, map body_fields b.rest) = cc in
    let known : a.known ≡ b.known = ap (λ (said : KnownNodes × List BodyFields). said.0) both in
    let rests : SayTheSame a.rest b.rest = ap (λ (said : KnownNodes × List BodyFields). said.1) both in
    each a.known a.rest b.rest rests ∙ ap (λ known. see (g (taken_of known b.rest))) known
after_walk see (Err fault) (Err other) f g same each = let alike : fault ≡ other = cc same in ap (λ (fault : Fault). see (Err fault)) alike
after_walk see _ _ f g same each = cc same

refused-same : (b : Bool) (fault : Fault) (read other : Result WalkState Fault) → line_fields read ≡ line_fields other → line_fields (refused_if b fault read) ≡ line_fields (refused_if b fault other)
refused-same true fault read other same = refl
refused-same false fault read other same = same

module _ (facts : Facts) (end : ℕ) where
  instruction-same : (known : KnownNodes) (instr : Instr) (lines others : List BodyLine) → SayTheSame lines others → line_fields (instruction_taken facts end known instr lines) ≡ line_fields (instruction_taken facts end known instr others)
  instruction-same known instr [] [] same = refl
  instruction-same known instr (line ∷ lines) (other ∷ others) same =
      let first : body_fields line ≡ body_fields other = cc in
      let rest : SayTheSame lines others = cc in
      let next : List BodyLine → KnownNodes → Result WalkState Fault = λ (rest : List BodyLine) (through : KnownNodes). Ok (taken_of through rest) in
      ap (λ (r : Result KnownNodes Fault). line_fields (r >>= next lines)) (instruction-said facts known instr line line.entry
      ∙ ap (λ (fields : BodyFields). instruction_said facts known instr fields.line fields.entry) first ∙ sym (instruction-said facts known instr other other.entry))
      ∙ bind-same (instruction_on facts known instr other other.entry) (next lines) (next others) (λ through. ap (λ (fields : List BodyFields). Ok (through, fields)) rest)
  instruction-same known instr _ _ same = cc

  abbrev kept_on : KnownNodes → List Edge → ℕ → KnownNodes → BodyLine → List BodyLine → Keep → Result WalkState Fault
  kept_on through edges least kept line lines keep =
      refused_if (not (is_valid_keep facts through edges least keep)) (at_line 608 line.line) (keeps_taken facts through edges (suc keep.register) (with_node kept keep.register keep.node) lines)

  keeps-same : (through : KnownNodes) (edges : List Edge) (least : ℕ) (kept : KnownNodes) (lines others : List BodyLine) → SayTheSame lines others →
      line_fields (keeps_taken facts through edges least kept lines) ≡ line_fields (keeps_taken facts through edges least kept others)
  unfolding keeps_taken
  keeps-same through edges least kept [] [] same = refl
  keeps-same through edges least kept (line ∷ lines) (other ∷ others) same =
      let first : body_fields line ≡ body_fields other = cc in
      let rest : SayTheSame lines others = cc in
      by (keep_in line.entry) (keep_in other.entry) (keep-said line.entry ∙ ap (λ (fields : BodyFields). keep_said fields.entry) first ∙ sym (keep-said other.entry)) first
      (λ least kept. keeps-same through edges least kept lines others rest)
    where
      by : (k l : Option Keep) → option_map keep_fields k ≡ option_map keep_fields l → body_fields line ≡ body_fields other →
          ((least : ℕ) (kept : KnownNodes) → line_fields (keeps_taken facts through edges least kept lines) ≡ line_fields (keeps_taken facts through edges least kept others)) →
          line_fields (by_keep k (Ok (taken_of kept (line ∷ lines))) (kept_on through edges least kept line lines)) ≡ line_fields (by_keep l (Ok (taken_of kept (other ∷ others))) (kept_on through edges least kept other others))
      by None None keeps first more = ap (λ (fields : List BodyFields). Ok (kept, fields)) same
      by (Some k) (Some l) keeps first more =
          let fields : keep_fields k ≡ keep_fields l = cc in
          let checked : is_valid_keep facts through edges least k ≡ is_valid_keep facts through edges least l = kept-said facts through edges least k ∙ ap (kept_said facts through edges least) fields ∙ sym (kept-said facts through edges least l) in
          let register : k.register ≡ l.register = ap (λ (f : KeepFields). f.register) fields in
          let node : k.node ≡ l.node = ap (λ (f : KeepFields). f.node) fields in
          refused-same (not (is_valid_keep facts through edges least k)) (at_line 608 line.line) _ _ (more (suc k.register) (with_node kept k.register k.node))
          ∙ ap₂ (λ b at. line_fields (refused_if (not b) (at_line 608 at) (keeps_taken facts through edges (suc k.register) (with_node kept k.register k.node) others))) checked (ap (λ (f : BodyFields). f.line) first)
          ∙ ap₂ (λ r n. line_fields (refused_if (not (is_valid_keep facts through edges least l)) (at_line 608 other.line) (keeps_taken facts through edges (suc r) (with_node kept r n) others))) register node
      by _ _ keeps first more = cc
  keeps-same through edges least kept _ _ same = cc

  apply_join-same : (place : ℕ) (edges : List Edge) (known : KnownNodes) (lines others : List BodyLine) → SayTheSame lines others →
      line_fields (apply_join facts end place edges (taken_of known lines)) ≡ line_fields (apply_join facts end place edges (taken_of known others))
  apply_join-same place [] known lines others same = ap (λ (fields : List BodyFields). Ok (known, fields)) same
  apply_join-same place (edge ∷ edges) known [] [] same = refl
  apply_join-same place (edge ∷ edges) known (line ∷ lines) (other ∷ others) same =
      let first : body_fields line ≡ body_fields other = cc in
      let rest : SayTheSame lines others = cc in
      by (is_join place line.entry) (is_join place other.entry) (join-said place line.entry ∙ ap (λ (fields : BodyFields). join_said place fields.entry) first ∙ sym (join-said place other.entry)) (ap (λ (f : BodyFields). f.line) first) rest
    where
      by : (b c : Bool) → b ≡ c → line.line ≡ other.line → SayTheSame lines others →
          line_fields (refused_if (not b) (at_line 608 line.line) (Ok lines) >>= keeps_taken facts known (edge ∷ edges) 0 nothing_known)
          ≡ line_fields (refused_if (not c) (at_line 608 other.line) (Ok others) >>= keeps_taken facts known (edge ∷ edges) 0 nothing_known)
      by true true joins at rest = keeps-same known (edge ∷ edges) 0 nothing_known lines others rest
      by false false joins at rest = ap (λ at. Err (at_line 608 at)) at
      by _ _ joins at rest = cc
  apply_join-same place (edge ∷ edges) known _ _ same = cc

  pub check_lines_from-same : (place : ℕ) (edges : List Edge) (instrs : List Instr) (known : KnownNodes) (lines others : List BodyLine) → SayTheSame lines others →
      line_fields (check_lines_from facts end place edges instrs (taken_of known lines)) ≡ line_fields (check_lines_from facts end place edges instrs (taken_of known others))
  unfolding check_lines_from
  check_lines_from-same place edges [] known lines others same = ap (λ (fields : List BodyFields). Ok (known, fields)) same
  check_lines_from-same place edges (instr ∷ instrs) known lines others same =
      let further = with_edge edges (edge_of known instr) in
      after_walk line_fields (instruction_taken facts end known instr lines) (instruction_taken facts end known instr others) _ _ (instruction-same known instr lines others same)
      (λ through lines others same. after_walk line_fields (apply_join facts end (suc place) (edges_into (suc place) further) (taken_of through lines)) (apply_join facts end (suc place) (edges_into (suc place) further) (taken_of through others)) _ _
      (apply_join-same (suc place) (edges_into (suc place) further) through lines others same)
      (λ apply_join lines others same. check_lines_from-same (suc place) further instrs apply_join lines others same))
