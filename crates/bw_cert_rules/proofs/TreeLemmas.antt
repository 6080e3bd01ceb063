-- A condition's lines are read by its tree, and by what the lines say, wherever their parts lie in
-- memory.
use Rattle.std.proofs.Common.{◌≡◌, ◌∙◌, refl, sym, ap, ap₂, ℕ, List, [], ◌∷◌, map, Option, Some}
use Rattle.std.proofs.Common.{None, Result, Ok, Err, option_and_then}
use Rattle.bw_model.specs.declared.column.Column.{Column}
use Rattle.bw_model.specs.declared.cond.Truth.TheVariants.{Yes}
use Rattle.bw_model.specs.declared.cond.Op.TheVariants.{Eq, Le, Ge}
use Rattle.bw_model.specs.declared.cond.Operand.{Operand}
use Rattle.bw_model.specs.declared.cond.Cond.{Cond, Cond-F, fold-Cond}
use Rattle.bw_model.specs.declared.cond.Cond.TheFolds.{map-Cond}
use Rattle.bw_model.specs.CondTree.{CondTree, CondTrees, none, more, trees_of, tree_step, tree_of}
use Rattle.bw_model.specs.CondTree as tree
use Rattle.bw_model.specs.declared.fault.Fault.{Fault}
use Rattle.bw_model.specs.Fault.{at_line, ◌>>=◌}
use Rattle.bw_model.proofs.SameLemmas.{Known, bare, of_tree}
use Rattle.bw_diagram.specs.Facts.{Facts}
use Rattle.bw_cert_text.specs.declared.lines.BodyLine.{BodyLine}
use Rattle.bw_cert_text.specs.declared.lines.ConditionEntry.{ConditionEntry}
use Rattle.bw_cert_text.specs.declared.lines.Entry.{Entry}
use Rattle.bw_cert_text.specs.declared.lines.Entry.TheVariants as entry
use Rattle.bw_cert_text.specs.CertificateFields.{BodyFields, EntryFields, Condition}
use Rattle.bw_cert_text.specs.CertificateFields.{body_fields, entry_fields}
use Rattle.bw_cert_rules.specs.Rows.{TruthPair}
use Rattle.bw_model.specs.declared.junction.Junction.{Junction}
use Rattle.bw_model.specs.declared.junction.Junction.TheVariants.{All, Any}
use Rattle.bw_cert_rules.specs.Comparison.{fixed_pair, comparison}
use Rattle.bw_cert_rules.specs.Pair.{Reading, line_fields, condition_entry, next_entry, expect_line}
use Rattle.bw_cert_rules.specs.Pair.{by_line, is_null_test, joined_pair, negated_pair, tested_pair}
use Rattle.bw_cert_rules.specs.Pair.{one_more, more_parts, joined_parts, equations, pair_step}
use Rattle.bw_cert_rules.specs.Pair.{pair_of}

-- lines that say the same
abbrev pub SayTheSame : List BodyLine → List BodyLine → Type 0
SayTheSame lines others = map body_fields lines ≡ map body_fields others

-- a reader of what lines say
abbrev pub Steady : (List BodyLine → Reading) → Type 0
Steady reader = (lines others : List BodyLine) → SayTheSame lines others → line_fields (reader lines) ≡ line_fields (reader others)

abbrev AllSteady : List (List BodyLine → Reading) → Type 0
AllSteady [] = Unit {0}
AllSteady (reader ∷ readers) = Steady reader × AllSteady readers

said_of_condition : EntryFields → Option ConditionEntry
said_of_condition (Condition given) = Some given
said_of_condition _ = None

said : (e : Entry) → condition_entry e ≡ said_of_condition (entry_fields e)
unfolding said_of_condition
said (entry.Keep keep) = refl
said _ = refl

expect_line-steady : (end : ℕ) (made : Option TruthPair) → Steady (expect_line end made)
expect_line-steady end None [] [] same = refl
expect_line-steady end None (line ∷ lines) (other ∷ others) same =
    let first : body_fields line ≡ body_fields other = cc in
    ap (λ (fields : BodyFields). Err (at_line 606 fields.line)) first
expect_line-steady end (Some pair) [] [] same = refl
expect_line-steady end (Some pair) (line ∷ lines) (other ∷ others) same =
    let rest : SayTheSame lines others = cc in
    ap (λ (fields : List BodyFields). Ok (pair, fields)) rest
expect_line-steady end _ _ _ same = cc

next-same : (lines others : List BodyLine) → SayTheSame lines others → next_entry lines ≡ next_entry others
next-same [] [] same = refl
next-same (line ∷ lines) (other ∷ others) same =
    let first : body_fields line ≡ body_fields other = cc in
    said line.entry ∙ ap (λ (fields : BodyFields). said_of_condition fields.entry) first ∙ sym (said other.entry)
next-same _ _ same = cc

by_line-steady : (end : ℕ) (rule : ConditionEntry → Option TruthPair) → Steady (by_line end rule)
unfolding by_line
by_line-steady end rule lines others same =
    expect_line-steady end (option_and_then rule (next_entry lines)) lines others same
    ∙ ap (λ entry. line_fields (expect_line end (option_and_then rule entry) others)) (next-same lines others same)

-- one reader after another, whatever of the result is seen
pub after_pair : {A B : Type 0} (see : Result A Fault → B) (read other : Reading) (f g : TruthPair × List BodyLine → Result A Fault) →
    line_fields read ≡ line_fields other → ((pair : TruthPair) (lines others : List BodyLine) → SayTheSame lines others → see (f (pair, lines)) ≡ see (g (pair, others))) → see (read >>= f) ≡ see (other >>= g)
after_pair see (Ok a) (Ok b) f g same each =
    let both : (a.0, map body_fields a.1) ≡ (b.0, map body_fields b.1) = cc in
    let pairs : a.0 ≡ b.0 = ap (λ (said : TruthPair × List BodyFields). said.0) both in
    let rests : SayTheSame a.1 b.1 = ap (λ (said : TruthPair × List BodyFields). said.1) both in
    each a.0 a.1 b.1 rests ∙ ap (λ pair. see (g (pair, b.1))) pairs
after_pair see (Err fault) (Err other) f g same each = let alike : fault ≡ other = cc same in ap (λ (fault : Fault). see (Err fault)) alike
after_pair see _ _ f g same each = cc same

module _ (columns : List Column) (facts : Facts) (end : ℕ) where
  more-steady : (junction : Junction) (parts : List (List BodyLine → Reading)) → AllSteady parts → (pair : TruthPair) (lines others : List BodyLine) → SayTheSame lines others →
      line_fields (more_parts columns facts end junction parts (pair, lines)) ≡ line_fields (more_parts columns facts end junction parts (pair, others))
  more-steady junction [] all pair lines others same = ap (λ (fields : List BodyFields). Ok (pair, fields)) same
  more-steady junction (part ∷ parts) all pair lines others same =
      after_pair line_fields (one_more columns facts end junction part (pair, lines)) (one_more columns facts end junction part (pair, others)) _ _
      (after_pair line_fields (part lines) (part others) _ _ (all.0 lines others same) (λ next lines others same. by_line-steady end (joined_pair facts junction pair next) lines others same))
      (λ next lines others same. more-steady junction parts all.1 next lines others same)

  joined-steady : (junction : Junction) (parts : List (List BodyLine → Reading)) → AllSteady parts → Steady (joined_parts columns facts end junction parts)
  joined-steady junction [] all lines others same = expect_line-steady end None lines others same
  joined-steady junction (part ∷ parts) all lines others same =
      after_pair line_fields (part lines) (part others) _ _ (all.0 lines others same) (λ first lines others same. more-steady junction parts all.1 first lines others same)

  equations-steady : (x : Operand) (items : List Operand) → AllSteady (equations columns facts end x items)
  equations-steady x [] = tt
  equations-steady x (item ∷ items) = (by_line-steady end (comparison columns facts Eq x item), equations-steady x items)

  -- a part's lines, and one line more
  abbrev after_part : (List BodyLine → Reading) → (TruthPair → ConditionEntry → Option TruthPair) → List BodyLine → Reading
  after_part reader rule lines = reader lines >>= λ read. by_line end (rule read.0) read.1

  after-steady : (reader : List BodyLine → Reading) (rule : TruthPair → ConditionEntry → Option TruthPair) → Steady reader → Steady (after_part reader rule)
  after-steady reader rule steady lines others same =
      after_pair line_fields (reader lines) (reader others) _ _ (steady lines others same) (λ pair lines others same. by_line-steady end (rule pair) lines others same)

  -- what a condition's lines are read as, by its tree
  abbrev mutual
    pub tree_pair : CondTree → List BodyLine → Reading
    tree_pair tree.Always lines = by_line end (fixed_pair Yes) lines
    tree_pair (tree.Cmp op x y) lines = by_line end (comparison columns facts op x y) lines
    tree_pair (tree.Between x y z) lines =
        joined_parts columns facts end All (by_line end (comparison columns facts Ge x y) ∷ by_line end (comparison columns facts Le x z) ∷ []) lines
    tree_pair (tree.Among x items) lines = joined_parts columns facts end Any (equations columns facts end x items) lines
    tree_pair (tree.IsNull x) lines = by_line end (is_null_test columns facts x) lines
    tree_pair (tree.And parts) lines = joined_parts columns facts end All (tree_pairs parts) lines
    tree_pair (tree.Or parts) lines = joined_parts columns facts end Any (tree_pairs parts) lines
    tree_pair (tree.Not part) lines = tree_pair part lines >>= λ read. by_line end (negated_pair read.0) read.1
    tree_pair (tree.Test part t) lines = tree_pair part lines >>= λ read. by_line end (tested_pair facts t read.0) read.1

    tree_pairs : CondTrees → List (List BodyLine → Reading)
    tree_pairs none = []
    tree_pairs (more part parts) = tree_pair part ∷ tree_pairs parts

  mutual
    pub tree-steady : (t : CondTree) → Steady (tree_pair t)
    tree-steady tree.Always = by_line-steady end (fixed_pair Yes)
    tree-steady (tree.Cmp op x y) = by_line-steady end (comparison columns facts op x y)
    tree-steady (tree.Between x y z) =
        joined-steady All (by_line end (comparison columns facts Ge x y) ∷ by_line end (comparison columns facts Le x z) ∷ [])
        (by_line-steady end (comparison columns facts Ge x y), (by_line-steady end (comparison columns facts Le x z), tt))
    tree-steady (tree.Among x items) = joined-steady Any (equations columns facts end x items) (equations-steady x items)
    tree-steady (tree.IsNull x) = by_line-steady end (is_null_test columns facts x)
    tree-steady (tree.And parts) = joined-steady All (tree_pairs parts) (trees-steady parts)
    tree-steady (tree.Or parts) = joined-steady Any (tree_pairs parts) (trees-steady parts)
    tree-steady (tree.Not part) = after-steady (tree_pair part) negated_pair (tree-steady part)
    tree-steady (tree.Test part t) = after-steady (tree_pair part) (tested_pair facts t) (tree-steady part)

    trees-steady : (ts : CondTrees) → AllSteady (tree_pairs ts)
    trees-steady none = tt
    trees-steady (more part parts) = (tree-steady part, trees-steady parts)

  abbrev Reader : Type 0
  Reader = List BodyLine → Reading

  abbrev step : Cond-F Reader → Reader
  step = pair_step columns facts end

  abbrev Parts : Type 0
  Parts = Known Reader step tree_pair

  parts-known : (parts : List Parts) → map (fold-Cond Reader step) (map (λ e. e.0) parts) ≡ tree_pairs (trees_of (map tree_of (map (λ e. e.0) parts)))
  parts-known [] = refl
  parts-known (part ∷ parts) = ap₂ (λ (r : Reader) (rs : List Reader). r ∷ rs) part.1 (parts-known parts)

  layer-known : (layer : Cond-F Parts) →
      step (map-Cond Cond Reader (fold-Cond Reader step) (bare Reader step tree_pair layer)) ≡ tree_pair (tree_step (map-Cond Cond CondTree tree_of (bare Reader step tree_pair layer)))
  layer-known (Cond-F.And parts) = ap (λ (rs : List Reader). joined_parts columns facts end All rs) (parts-known parts.items)
  layer-known (Cond-F.Or parts) = ap (λ (rs : List Reader). joined_parts columns facts end Any rs) (parts-known parts.items)
  layer-known (Cond-F.Not part) = ap (λ (r : Reader). after_part r negated_pair) part.value.1
  layer-known (Cond-F.Test part t) = ap (λ (r : Reader). after_part r (tested_pair facts t)) part.value.1
  layer-known _ = refl

  pub pair_of-tree_of : (cond : Cond) → pair_of columns facts end cond ≡ tree_pair (tree_of cond)
  unfolding pair_of
  pair_of-tree_of cond = of_tree Reader step tree_pair layer-known cond
