-- The pairs of a condition's steps tell its truth, if those of its parts do.
use Rattle.std.proofs.Common.{◌≡◌, ◌∙◌, refl, sym, ap, subst, ℕ, ℤ, ◌<◌, cond, Bool, true, false}
use Rattle.std.proofs.Common.{not, ◌&&◌, ◌||◌, List, [], ◌∷◌, map, length, Option, Some, None, Ok}
use Rattle.std.proofs.Common.{option_and_then, ltb-true}
use Rattle.std.specs.List.{list_all}
use Rattle.std.proofs.lemmas.Option.{option_and_then_some}
use Rattle.bw_model.specs.declared.column.Column.{Column}
use Rattle.bw_model.specs.declared.cond.Operand.{Operand}
use Rattle.bw_model.specs.declared.cond.Operand.TheVariants.{Col, Lit, Null}
use Rattle.bw_model.specs.declared.cond.Truth.{Truth}
use Rattle.bw_model.specs.declared.cond.Truth.TheVariants.{No, Unknown, Yes}
use Rattle.bw_model.specs.Cond.{operand_value, is_within}
use Rattle.bw_model.specs.Fault.{◌>>=◌}
use Rattle.bw_model.specs.Row.{value_in}
use Rattle.bw_model.specs.Truth.{truth_from, is_truth, is_null, least, greatest, all_of, any_of}
use Rattle.bw_model.specs.Truth.{negation}
use Rattle.bw_model.specs.Variable.{Assignment, first_variable, is_nullable, null_variable, row_of}
use Rattle.bw_model.proofs.BitsLemmas.{both}
use Rattle.bw_model.proofs.FaultLemmas.{bind_ok}
use Rattle.bw_diagram.specs.declared.product.Connective.TheVariants as connective
use Rattle.bw_diagram.specs.References.{HaveStatedValues, product_node}
use Rattle.bw_diagram.specs.Facts.{Facts}
use Rattle.bw_cert_text.specs.declared.lines.BodyLine.{BodyLine}
use Rattle.bw_cert_text.specs.declared.lines.ConditionEntry.{ConditionEntry}
use Rattle.bw_cert_text.specs.declared.lines.ConditionEntry.TheVariants.{NullTest, And, Or, Not, Is}
use Rattle.bw_cert_text.specs.declared.lines.ConditionEntry.TheVariants.{IsUnknown}
use Rattle.bw_cert_rules.specs.Rows.{TruthPair}
use Rattle.bw_model.specs.declared.junction.Junction.{Junction}
use Rattle.bw_model.specs.declared.junction.Junction.TheVariants.{All, Any}
use Rattle.bw_cert_rules.specs.Rows.{exchange_nodes}
use Rattle.bw_cert_rules.specs.Meaning.{Tells}
use Rattle.bw_cert_rules.specs.Pair.{Reading, next_entry, expect_line, by_line, null_test}
use Rattle.bw_cert_rules.specs.Pair.{is_null_test, joined_pair, negated_pair, with_opposite}
use Rattle.bw_cert_rules.specs.Pair.{unknown_pair, tested_pair, one_more, more_parts, joined_parts}
use Rattle.bw_cert_rules.proofs.ComparisonLemmas.{tells_by, tells_yes, tells_no, tells_so}
use Rattle.bw_cert_rules.proofs.ComparisonLemmas.{fixed-tells, value_if, value_in-assigned}
use Rattle.bw_cert_rules.proofs.RowLemmas.{Denotes, denotes_so, one_denotes, if_both-is}
use Rattle.bw_cert_rules.proofs.RowLemmas.{product_node-denoted, null_pair-denoted}

-- a step that was taken has a line that makes its pair
expect_line-is : {G : Type 0} (end : ℕ) (made : Option TruthPair) (lines rest : List BodyLine) (pair : TruthPair) → expect_line end made lines ≡ Ok (pair, rest) → (made ≡ Some pair → G) → G
expect_line-is end (Some made) (line ∷ lines) rest pair is f =
    let same : (made, lines) ≡ (pair, rest) = cc in f (ap (λ (read : TruthPair × List BodyLine). Some read.0) same)
expect_line-is end _ _ rest _ is f = cc

by_line-is : {G : Type 0} (end : ℕ) (rule : ConditionEntry → Option TruthPair) (lines rest : List BodyLine) (pair : TruthPair) → by_line end rule lines ≡ Ok (pair, rest) → ((entry : ConditionEntry) → rule entry ≡ Some pair → G) → G
unfolding by_line
by_line-is end rule lines rest pair is f =
    expect_line-is end (option_and_then rule (next_entry lines)) lines rest pair is (λ made.
    option_and_then_some rule (next_entry lines) pair made (λ entry there found. f entry found))

-- the truth of parts that are joined
abbrev pub joined_truth : Junction → Truth → Truth → Truth
joined_truth All a b = least a b
joined_truth Any a b = greatest a b

abbrev pub truth_of_all : Junction → List Truth → Truth
truth_of_all All truths = all_of truths
truth_of_all Any truths = any_of truths

joined-assoc : (junction : Junction) (a b c : Truth) → joined_truth junction (joined_truth junction a b) c ≡ joined_truth junction a (joined_truth junction b c)
joined-assoc All Unknown Unknown Yes = refl
joined-assoc Any Unknown Unknown Yes = refl
joined-assoc _ _ _ _ = refl

joined-none : (junction : Junction) (a : Truth) → a ≡ joined_truth junction a (truth_of_all junction [])
joined-none All Yes = refl
joined-none Any Yes = refl
joined-none _ _ = refl

joined-more : (junction : Junction) (t : Truth) (ts : List Truth) → joined_truth junction t (truth_of_all junction ts) ≡ truth_of_all junction (t ∷ ts)
joined-more All t ts = refl
joined-more Any t ts = refl

-- AND is TRUE if both are, and FALSE if one is; OR the other way round
all-yes : (a b : Truth) → (is_truth a Yes && is_truth b Yes) ≡ is_truth (least a b) Yes
all-yes Unknown Yes = refl
all-yes _ _ = refl

all-no : (a b : Truth) → (is_truth a No || is_truth b No) ≡ is_truth (least a b) No
all-no Unknown Yes = refl
all-no _ _ = refl

any-yes : (a b : Truth) → (is_truth a Yes || is_truth b Yes) ≡ is_truth (greatest a b) Yes
any-yes Unknown Yes = refl
any-yes _ _ = refl

any-no : (a b : Truth) → (is_truth a No && is_truth b No) ≡ is_truth (greatest a b) No
any-no Unknown Yes = refl
any-no _ _ = refl

negation-yes : (a : Truth) → is_truth a No ≡ is_truth (negation a) Yes
negation-yes Yes = refl
negation-yes _ = refl

negation-no : (a : Truth) → is_truth a Yes ≡ is_truth (negation a) No
negation-no Yes = refl
negation-no _ = refl

truth_from-yes : (b : Bool) → b ≡ is_truth (truth_from b) Yes
truth_from-yes true = refl
truth_from-yes false = refl

truth_from-no : (b : Bool) → not b ≡ is_truth (truth_from b) No
truth_from-no true = refl
truth_from-no false = refl

-- UNKNOWN is what is neither TRUE nor FALSE
unknown-yes : (a : Truth) → not (is_truth a Yes || is_truth a No) ≡ is_truth (truth_from (is_truth a Unknown)) Yes
unknown-yes Yes = refl
unknown-yes _ = refl

unknown-no : (a : Truth) → (is_truth a Yes || is_truth a No) ≡ is_truth (truth_from (is_truth a Unknown)) No
unknown-no Yes = refl
unknown-no _ = refl

module _ (facts : Facts) (have_values : HaveStatedValues facts) where
  -- AND and OR
  joined_pair-tells : (junction : Junction) (a b pair : TruthPair) (t u : Assignment → Truth) (entry : ConditionEntry) → Tells facts.nodes t a → Tells facts.nodes u b → joined_pair facts junction a b entry ≡ Some pair →
      Tells facts.nodes (λ assignment. joined_truth junction (t assignment) (u assignment)) pair
  unfolding joined_pair
  joined_pair-tells All a b pair t u (And i j) t_told u_told is =
      let made = if_both-is _ _ pair is in
      tells_by facts.nodes _ pair
      (denotes_so facts.nodes _ _ pair.yes (λ assignment. all-yes (t assignment) (u assignment)) (product_node-denoted facts have_values connective.And a.yes b.yes pair.yes i _ _ (tells_yes facts.nodes t a t_told) (tells_yes facts.nodes u b u_told) made.0))
      (denotes_so facts.nodes _ _ pair.no (λ assignment. all-no (t assignment) (u assignment)) (product_node-denoted facts have_values connective.Or a.no b.no pair.no j _ _ (tells_no facts.nodes t a t_told) (tells_no facts.nodes u b u_told) made.1))
  joined_pair-tells Any a b pair t u (Or i j) t_told u_told is =
      let made = if_both-is _ _ pair is in
      tells_by facts.nodes _ pair
      (denotes_so facts.nodes _ _ pair.yes (λ assignment. any-yes (t assignment) (u assignment)) (product_node-denoted facts have_values connective.Or a.yes b.yes pair.yes i _ _ (tells_yes facts.nodes t a t_told) (tells_yes facts.nodes u b u_told) made.0))
      (denotes_so facts.nodes _ _ pair.no (λ assignment. any-no (t assignment) (u assignment)) (product_node-denoted facts have_values connective.And a.no b.no pair.no j _ _ (tells_no facts.nodes t a t_told) (tells_no facts.nodes u b u_told) made.1))
  joined_pair-tells _ a b pair t u _ t_told u_told is = cc

  -- NOT
  pub negated_pair-tells : (a pair : TruthPair) (t : Assignment → Truth) (entry : ConditionEntry) → Tells facts.nodes t a → negated_pair a entry ≡ Some pair → Tells facts.nodes (λ assignment. negation (t assignment)) pair
  unfolding negated_pair
  negated_pair-tells a pair t Not told is =
      subst (Tells facts.nodes (λ assignment. negation (t assignment))) (cc)
      (tells_by facts.nodes _ (exchange_nodes a)
      (denotes_so facts.nodes _ _ a.no (λ assignment. negation-yes (t assignment)) (tells_no facts.nodes t a told))
      (denotes_so facts.nodes _ _ a.yes (λ assignment. negation-no (t assignment)) (tells_yes facts.nodes t a told)))
  negated_pair-tells a pair t _ told is = cc

  -- a node and its opposite tell what the node is worth
  with_opposite-tells : (node number : ℕ) (pair : TruthPair) (b : Assignment → Bool) → Denotes facts.nodes b node → with_opposite facts node number ≡ Some pair → Tells facts.nodes (λ assignment. truth_from (b assignment)) pair
  with_opposite-tells node number pair b denoted is =
      let made = if_both-is (Some node) _ pair is in
      tells_by facts.nodes _ pair
      (denotes_so facts.nodes _ _ pair.yes (λ assignment. truth_from-yes (b assignment)) (subst (Denotes facts.nodes b) (cc) denoted))
      (denotes_so facts.nodes _ _ pair.no (λ assignment. truth_from-no (b assignment)) (product_node-denoted facts have_values connective.Diff 1 node pair.no number (λ assignment. true) b (one_denotes facts.nodes) denoted made.1))

  unknown-tells : (a pair : TruthPair) (t : Assignment → Truth) (known : Option ℕ) (i j : ℕ) → Tells facts.nodes t a → product_node facts connective.Or a.yes a.no i ≡ known → unknown_pair facts known j ≡ Some pair →
      Tells facts.nodes (λ assignment. truth_from (is_truth (t assignment) Unknown)) pair
  unknown-tells a pair t None i j told cites is = cc
  unknown-tells a pair t (Some known) i j told cites is =
      let made = if_both-is _ (Some known) pair is in
      let denoted = product_node-denoted facts have_values connective.Or a.yes a.no known i _ _ (tells_yes facts.nodes t a told) (tells_no facts.nodes t a told) cites in
      tells_by facts.nodes _ pair
      (denotes_so facts.nodes _ _ pair.yes (λ assignment. unknown-yes (t assignment)) (product_node-denoted facts have_values connective.Diff 1 known pair.yes j (λ assignment. true) _ (one_denotes facts.nodes) denoted made.0))
      (denotes_so facts.nodes _ _ pair.no (λ assignment. unknown-no (t assignment)) (subst (Denotes facts.nodes (λ assignment. is_truth (t assignment) Yes || is_truth (t assignment) No)) (cc) denoted))

  -- IS TRUE, IS FALSE and IS UNKNOWN
  pub tested_pair-tells : (wanted : Truth) (a pair : TruthPair) (t : Assignment → Truth) (entry : ConditionEntry) → Tells facts.nodes t a → tested_pair facts wanted a entry ≡ Some pair →
      Tells facts.nodes (λ assignment. truth_from (is_truth (t assignment) wanted)) pair
  unfolding tested_pair
  tested_pair-tells Yes a pair t (Is i) told is = with_opposite-tells a.yes i pair (λ assignment. is_truth (t assignment) Yes) (tells_yes facts.nodes t a told) is
  tested_pair-tells No a pair t (Is i) told is = with_opposite-tells a.no i pair (λ assignment. is_truth (t assignment) No) (tells_no facts.nodes t a told) is
  tested_pair-tells Unknown a pair t (IsUnknown i j) told is = unknown-tells a pair t (product_node facts connective.Or a.yes a.no i) i j told refl is
  tested_pair-tells _ a pair t _ told is = cc

  -- IS NULL
  null_test-tells : (col : ℕ) (entry : ConditionEntry) (pair : TruthPair) → col < length facts.columns → null_test facts (null_variable facts.columns col) entry ≡ Some pair →
      Tells facts.nodes (λ assignment. truth_from (is_null (value_in (row_of facts.columns assignment) col))) pair
  null_test-tells col entry pair lt is =
      tells_so facts.nodes _ _ pair (λ assignment. ap truth_from (by_value (is_nullable facts.columns col && assignment (first_variable facts.columns col)) _ ∙ ap is_null (sym (value_in-assigned facts.columns col lt assignment))))
      (by_nullable (is_nullable facts.columns col) is)
    where
      by_value : (null : Bool) (n : ℤ) → null ≡ is_null (value_if (not null) n)
      by_value true n = refl
      by_value false n = refl

      by_nullable : (nullable : Bool) → null_test facts (cond nullable (Some (first_variable facts.columns col)) None) entry ≡ Some pair →
          Tells facts.nodes (λ assignment. truth_from (nullable && assignment (first_variable facts.columns col))) pair
      by_nullable false is = fixed-tells facts.nodes No pair entry is
      by_nullable true is = by_entry entry is
        where
          by_entry : (entry : ConditionEntry) → null_test facts (Some (first_variable facts.columns col)) entry ≡ Some pair → Tells facts.nodes (λ assignment. truth_from (assignment (first_variable facts.columns col))) pair
          by_entry (NullTest number) is =
              let denoted = null_pair-denoted facts have_values (first_variable facts.columns col) number pair is in
              tells_by facts.nodes _ pair
              (denotes_so facts.nodes _ _ pair.yes (λ assignment. truth_from-yes (assignment (first_variable facts.columns col))) denoted.0)
              (denotes_so facts.nodes _ _ pair.no (λ assignment. truth_from-no (assignment (first_variable facts.columns col))) denoted.1)
          by_entry _ is = cc

  pub is_null_test-tells : (x : Operand) (entry : ConditionEntry) (pair : TruthPair) → is_within (length facts.columns) x ≡ true → is_null_test facts.columns facts x entry ≡ Some pair →
      Tells facts.nodes (λ assignment. truth_from (is_null (operand_value (row_of facts.columns assignment) x))) pair
  unfolding is_null_test
  is_null_test-tells (Col col) entry pair inside is = null_test-tells col entry pair (ltb-true col (length facts.columns) inside) is
  is_null_test-tells (Lit n) entry pair inside is = fixed-tells facts.nodes No pair entry is
  is_null_test-tells Null entry pair inside is = fixed-tells facts.nodes Yes pair entry is

  -- a reader of lines whose pairs tell a truth
  abbrev pub IsSound : (List BodyLine → Reading) → (Assignment → Truth) → Type 0
  IsSound reader truth = (lines rest : List BodyLine) (pair : TruthPair) → reader lines ≡ Ok (pair, rest) → Tells facts.nodes truth pair

  -- of one line
  pub by_line-sound : (end : ℕ) (rule : ConditionEntry → Option TruthPair) (truth : Assignment → Truth) → ((entry : ConditionEntry) (pair : TruthPair) → rule entry ≡ Some pair → Tells facts.nodes truth pair) → IsSound (by_line end rule) truth
  by_line-sound end rule truth tells lines rest pair is = by_line-is end rule lines rest pair is (λ entry found. tells entry pair found)

  -- of a part's lines, and one line more
  pub after_part-sound : (end : ℕ) (reader : List BodyLine → Reading) (t u : Assignment → Truth) (rule : TruthPair → ConditionEntry → Option TruthPair) → IsSound reader t →
      ((made : TruthPair) (entry : ConditionEntry) (pair : TruthPair) → Tells facts.nodes t made → rule made entry ≡ Some pair → Tells facts.nodes u pair) →
      IsSound (λ lines. reader lines >>= λ read. by_line end (rule read.0) read.1) u
  after_part-sound end reader t u rule sound tells lines rest pair is =
      let read = bind_ok (reader lines) (λ read. by_line end (rule read.0) read.1) (pair, rest) is in
      let told = sound lines read.0.1 read.0.0 read.1 in
      by_line-is end (rule read.0.0) read.0.1 rest pair read.2 (λ entry found. tells read.0.0 entry pair told found)

  -- of parts that are joined, each of which is sound if it passes a test
  module _ {X : Type 0} (columns : List Column) (end : ℕ) (junction : Junction) (reader : X → List BodyLine → Reading) (truth : X → Assignment → Truth) (test : X → Bool) (sound : (x : X) → test x ≡ true → IsSound (reader x) (truth x)) where
    abbrev pub truths : List X → Assignment → Truth
    truths parts assignment = truth_of_all junction (map (λ x. truth x assignment) parts)

    more_parts-tells : (parts : List X) (t : Assignment → Truth) (before : TruthPair × List BodyLine) (rest : List BodyLine) (pair : TruthPair) → list_all test parts ≡ true → Tells facts.nodes t before.0 →
        more_parts columns facts end junction (map reader parts) before ≡ Ok (pair, rest) → Tells facts.nodes (λ assignment. joined_truth junction (t assignment) (truths parts assignment)) pair
    more_parts-tells [] t before rest pair pass told is =
        let same : before ≡ (pair, rest) = cc in
        tells_so facts.nodes _ _ pair (λ assignment. joined-none junction (t assignment)) (subst (λ (read : TruthPair × List BodyLine). Tells facts.nodes t read.0) same told)
    more_parts-tells (part ∷ parts) t before rest pair pass told is =
        let passes = both _ _ pass in
        let one = bind_ok (one_more columns facts end junction (reader part) before) (λ next. more_parts columns facts end junction (map reader parts) next) (pair, rest) is in
        let read = bind_ok (reader part before.1) (λ next. by_line end (joined_pair facts junction before.0 next.0) next.1) one.0 one.1 in
        let part_told = sound part passes.0 before.1 read.0.1 read.0.0 read.1 in
        let joined_told = by_line-is end (joined_pair facts junction before.0 read.0.0) read.0.1 one.0.1 one.0.0 read.2
        (λ entry found. joined_pair-tells junction before.0 read.0.0 one.0.0 t (truth part) entry told part_told found) in
        tells_so facts.nodes _ _ pair
        (λ assignment. joined-assoc junction (t assignment) (truth part assignment) (truths parts assignment) ∙ ap (joined_truth junction (t assignment)) (joined-more junction (truth part assignment) (map (λ x. truth x assignment) parts)))
        (more_parts-tells parts (λ assignment. joined_truth junction (t assignment) (truth part assignment)) one.0 rest pair passes.1 joined_told one.2)

    pub joined_parts-sound : (parts : List X) → list_all test parts ≡ true → IsSound (joined_parts columns facts end junction (map reader parts)) (truths parts)
    joined_parts-sound [] pass lines rest pair is = cc
    joined_parts-sound (part ∷ parts) pass lines rest pair is =
        let passes = both _ _ pass in
        let first = bind_ok (reader part lines) (λ first. more_parts columns facts end junction (map reader parts) first) (pair, rest) is in
        tells_so facts.nodes _ _ pair (λ assignment. joined-more junction (truth part assignment) (map (λ x. truth x assignment) parts))
        (more_parts-tells parts (truth part) first.0 rest pair passes.1 (sound part passes.0 lines first.0.1 first.0.0 first.1) first.2)
