-- Pairs of comparisons tell the truth of them under every assignment.
use Rattle.std.proofs.Common.{◌≡◌, ◌∙◌, refl, sym, ap, ap₂, subst, ℕ, zero, suc, ℤ, pos, ◌+◌, ◌-◌}
use Rattle.std.proofs.Common.{◌^◌, ◌+ℤ◌, ◌-ℤ◌, ◌<◌, Bool, true, false, not, cond, ◌&&◌, ◌||◌, List}
use Rattle.std.proofs.Common.{[], ◌∷◌, length, max, Option, Some, None, arith, int_le, int_lt}
use Rattle.std.proofs.Common.{unsigned_abs, int_eq, eqb, eqb-true, ltb-true, le-ltb, eq-eqb}
use Rattle.bw_model.specs.declared.column.Column.{Column}
use Rattle.bw_model.specs.declared.cond.Op.{Op}
use Rattle.bw_model.specs.declared.cond.Op.TheVariants.{Eq, Ne, Lt, Gt, Le, Ge}
use Rattle.bw_model.specs.declared.cond.Operand.{Operand}
use Rattle.bw_model.specs.declared.cond.Operand.TheVariants.{Col, Lit, Null}
use Rattle.bw_model.specs.declared.cond.Truth.{Truth}
use Rattle.bw_model.specs.declared.cond.Truth.TheVariants.{No, Unknown, Yes}
use Rattle.bw_model.specs.Code.{width_at, value_at}
use Rattle.bw_model.specs.Cond.{operand_value, is_within}
use Rattle.bw_model.specs.Row.{Value, value_in}
use Rattle.bw_model.specs.StoredCodes.{number_spelled}
use Rattle.bw_model.specs.Truth.{truth_from, is_truth, holds, compare_values, swap_operands}
use Rattle.bw_model.specs.Variable.{Assignment, first_variable, is_nullable, binary_number, row_of}
use Rattle.bw_model.specs.Variable.{null_variable, bit_variable}
use Rattle.bw_model.proofs.PlaceLemmas.{value_in-row_of}
use Rattle.bw_model.proofs.VariableLemmas.{binary_number-lt}
use Rattle.bw_diagram.specs.declared.chain.ChainKind.{ChainKind}
use Rattle.bw_diagram.specs.declared.chain.ChainKind.TheVariants.{Less, Equal}
use Rattle.bw_diagram.specs.declared.node.Node.{Node}
use Rattle.bw_diagram.specs.declared.product.Connective.TheVariants.{And, Diff}
use Rattle.bw_diagram.specs.Chain.{compares, padded_number, first_node}
use Rattle.bw_diagram.specs.References.{HaveStatedValues, product_node, comparison_node, two_column_node}
use Rattle.bw_diagram.specs.Facts.{Facts}
use Rattle.bw_diagram.proofs.ChainLemmas.{padded_number-whole, number_spelled-whole}
use Rattle.bw_cert_text.specs.declared.lines.ConditionEntry.{ConditionEntry}
use Rattle.bw_cert_text.specs.declared.lines.ConditionEntry.TheVariants.{Compare, CompareColumns}
use Rattle.bw_cert_text.specs.declared.lines.ConditionEntry.TheVariants.{Fixed}
use Rattle.bw_cert_rules.specs.Rows.{TruthPair}
use Rattle.bw_diagram.specs.declared.comparison.LiteralComparison.{LiteralComparison}
use Rattle.bw_diagram.specs.declared.comparison.ColumnComparison.{ColumnComparison}
use Rattle.bw_cert_rules.specs.Rows.{if_both, exchange_nodes, value_node}
use Rattle.bw_cert_rules.specs.Comparison.{lo_at, constant_pair, fixed_pair, pair_if_known}
use Rattle.bw_diagram.specs.Comparison.{literal_comparison, terminal_of, column_comparison}
use Rattle.bw_cert_rules.specs.Comparison.{exchange_if, terminal_or_cited}
use Rattle.bw_cert_rules.specs.Comparison.{literal_node, with_literal, column_node}
use Rattle.bw_cert_rules.specs.Comparison.{both_node, with_column, comparison}
use Rattle.bw_cert_rules.specs.Meaning.{Tells}
use Rattle.bw_cert_rules.proofs.NumberLemmas.{compares_to, turned_bit, lt_low, lt_high, eq_low}
use Rattle.bw_cert_rules.proofs.NumberLemmas.{eq_high, lt_within, eq_within, holds_moved}
use Rattle.bw_cert_rules.proofs.NumberLemmas.{holds_turned, lt_apart, le_apart, eq_apart, equal-lo}
use Rattle.bw_cert_rules.proofs.RowLemmas.{Denotes, zero_denotes, one_denotes, denotes_so, if_both-is}
use Rattle.bw_cert_rules.proofs.RowLemmas.{product_node-denoted, has_value, value_node-denoted}

-- a pair whose nodes are worth this tells it
pub tells_by : (nodes : List Node) (truth : Assignment → Truth) (pair : TruthPair) → Denotes nodes (λ assignment. is_truth (truth assignment) Yes) pair.yes → Denotes nodes (λ assignment. is_truth (truth assignment) No) pair.no → Tells nodes truth pair
tells_by nodes truth pair t f = record { yes_node = t.is_node; no_node = f.is_node; yes = t.denoted; no = f.denoted }

pub tells_yes : (nodes : List Node) (truth : Assignment → Truth) (pair : TruthPair) → Tells nodes truth pair → Denotes nodes (λ assignment. is_truth (truth assignment) Yes) pair.yes
tells_yes nodes truth pair t = record { is_node = t.yes_node; denoted = t.yes }

pub tells_no : (nodes : List Node) (truth : Assignment → Truth) (pair : TruthPair) → Tells nodes truth pair → Denotes nodes (λ assignment. is_truth (truth assignment) No) pair.no
tells_no nodes truth pair t = record { is_node = t.no_node; denoted = t.no }

pub tells_so : (nodes : List Node) (truth other : Assignment → Truth) (pair : TruthPair) → ((assignment : Assignment) → truth assignment ≡ other assignment) → Tells nodes truth pair → Tells nodes other pair
tells_so nodes truth other pair same t = record {
  yes_node = t.yes_node;
  no_node = t.no_node;
  yes = λ assignment. t.yes assignment ∙ ap (λ v. is_truth v Yes) (same assignment);
  no = λ assignment. t.no assignment ∙ ap (λ v. is_truth v No) (same assignment);
}

-- a step with one truth
constant_tells : (nodes : List Node) (truth : Truth) → Tells nodes (λ assignment. truth) (constant_pair truth)
constant_tells nodes Yes = tells_by nodes (λ assignment. Yes) (constant_pair Yes) (one_denotes nodes) (zero_denotes nodes)
constant_tells nodes No = tells_by nodes (λ assignment. No) (constant_pair No) (zero_denotes nodes) (one_denotes nodes)
constant_tells nodes Unknown = tells_by nodes (λ assignment. Unknown) (constant_pair Unknown) (zero_denotes nodes) (zero_denotes nodes)

-- the same by its line
pub fixed-tells : (nodes : List Node) (truth : Truth) (pair : TruthPair) (entry : ConditionEntry) → fixed_pair truth entry ≡ Some pair → Tells nodes (λ assignment. truth) pair
fixed-tells nodes truth pair Fixed is = subst (Tells nodes (λ assignment. truth)) (cc) (constant_tells nodes truth)
fixed-tells nodes truth pair _ is = cc

-- the code of a column
abbrev pub code_spelled : List Column → ℕ → Assignment → ℕ
code_spelled columns col assignment = number_spelled columns col 0 (width_at columns col) assignment

code_spelled-lt : (columns : List Column) (col : ℕ) (assignment : Assignment) → code_spelled columns col assignment < 2 ^ width_at columns col
code_spelled-lt columns col assignment = binary_number-lt assignment (first_variable columns (suc col) - (0 + width_at columns col)) (width_at columns col)

value_at-lo : (columns : List Column) (col code : ℕ) → col < length columns → value_at columns col code ≡ lo_at columns col +ℤ pos code
value_at-lo [] col code lt = absurd (omega arith)
value_at-lo (c ∷ columns) zero code lt = refl
value_at-lo (c ∷ columns) (suc col) code lt = value_at-lo columns col code (omega arith)

-- a number if a column has a value, and else null
abbrev pub value_if : Bool → ℤ → Value
value_if there n = cond there (Some n) None

-- the value of a column in the row of an assignment
pub value_in-assigned : (columns : List Column) (col : ℕ) → col < length columns → (assignment : Assignment) →
    value_in (row_of columns assignment) col ≡ value_if (has_value columns col assignment) (lo_at columns col +ℤ pos (code_spelled columns col assignment))
value_in-assigned columns col lt assignment =
    value_in-row_of columns assignment col lt
    ∙ by_null (is_nullable columns col && assignment (first_variable columns col)) _
    ∙ ap (value_if (has_value columns col assignment)) (value_at-lo columns col (binary_number assignment (bit_variable columns col (width_at columns col - 1)) (width_at columns col)) lt
    ∙ ap (λ code. lo_at columns col +ℤ pos code) (sym (number_spelled-whole columns col assignment)))
  where
    by_null : (null : Bool) (v : ℤ) → cond null None (Some v) ≡ value_if (not null) v
    by_null true v = refl
    by_null false v = refl

-- the terminal of a comparison with a bound that no number of the bits is compared to
terminal-denoted : (nodes : List Node) (x : Assignment → ℕ) (kind : ChainKind) (limit : ℤ) (width e : ℕ) → ((assignment : Assignment) → x assignment < 2 ^ width) → terminal_of kind limit width ≡ Some e →
    Denotes nodes (λ assignment. compares_to kind (pos (x assignment)) limit) e
terminal-denoted nodes x Less limit width e below is = by_low (int_le limit (pos 0)) refl is
  where
    by_high : (high : Bool) → int_le (pos (2 ^ width)) limit ≡ high → cond high (Some 1) None ≡ Some e → Denotes nodes (λ assignment. int_lt (pos (x assignment)) limit) e
    by_high true high is = subst (Denotes nodes (λ assignment. int_lt (pos (x assignment)) limit)) (cc)
        (denotes_so nodes (λ assignment. true) _ 1 (λ assignment. sym (lt_high (x assignment) (2 ^ width) limit (below assignment) high)) (one_denotes nodes))
    by_high false high is = cc

    by_low : (low : Bool) → int_le limit (pos 0) ≡ low → cond low (Some 0) (cond (int_le (pos (2 ^ width)) limit) (Some 1) None) ≡ Some e → Denotes nodes (λ assignment. int_lt (pos (x assignment)) limit) e
    by_low true low is = subst (Denotes nodes (λ assignment. int_lt (pos (x assignment)) limit)) (cc)
        (denotes_so nodes (λ assignment. false) _ 0 (λ assignment. sym (lt_low (x assignment) limit low)) (zero_denotes nodes))
    by_low false low is = by_high (int_le (pos (2 ^ width)) limit) refl is
terminal-denoted nodes x Equal limit width e below is = by_tests (int_lt limit (pos 0)) (int_le (pos (2 ^ width)) limit) refl refl is
  where
    denoted : ((assignment : Assignment) → int_eq (pos (x assignment)) limit ≡ false) → 0 ≡ e → Denotes nodes (λ assignment. int_eq (pos (x assignment)) limit) e
    denoted unequal is = subst (Denotes nodes (λ assignment. int_eq (pos (x assignment)) limit)) is (denotes_so nodes (λ assignment. false) _ 0 (λ assignment. sym (unequal assignment)) (zero_denotes nodes))

    by_tests : (low high : Bool) → int_lt limit (pos 0) ≡ low → int_le (pos (2 ^ width)) limit ≡ high → cond (low || high) (Some 0) None ≡ Some e → Denotes nodes (λ assignment. int_eq (pos (x assignment)) limit) e
    by_tests true high low_is high_is is = denoted (λ assignment. eq_low (x assignment) limit low_is) (cc)
    by_tests false true low_is high_is is = denoted (λ assignment. eq_high (x assignment) (2 ^ width) limit (below assignment) high_is) (cc)
    by_tests false false low_is high_is is = cc

-- other bounds are natural numbers
terminal_of-compares : (kind : ChainKind) (limit : ℤ) (width x : ℕ) → terminal_of kind limit width ≡ None → compares kind x (unsigned_abs limit) ≡ compares_to kind (pos x) limit
terminal_of-compares Less limit width x is = by_low (int_le limit (pos 0)) refl is
  where
    by_low : (low : Bool) → int_le limit (pos 0) ≡ low → cond {A = Option ℕ} low (Some 0) (cond (int_le (pos (2 ^ width)) limit) (Some 1) None) ≡ None → compares Less x (unsigned_abs limit) ≡ int_lt (pos x) limit
    by_low true low is = cc
    by_low false low is = lt_within x limit low
terminal_of-compares Equal limit width x is = by_low (int_lt limit (pos 0)) refl is
  where
    by_low : (low : Bool) → int_lt limit (pos 0) ≡ low → cond {A = Option ℕ} (low || int_le (pos (2 ^ width)) limit) (Some 0) None ≡ None → compares Equal x (unsigned_abs limit) ≡ int_eq (pos x) limit
    by_low true low is = cc
    by_low false low is = eq_within x limit low

-- what a comparison of two values says of their distances from one number
holds_ordered : (op : Op) (lo : ℤ) (c d : ℕ) (code : ℕ → ℕ) → holds op (lo +ℤ pos (code c)) (lo +ℤ pos (code d)) ≡ turned_bit (column_comparison op c d).negated (compares (column_comparison op c d).kind (code (column_comparison op c d).left) (code (column_comparison op c d).right))
holds_ordered Lt lo c d code = lt_apart lo (code c) (code d)
holds_ordered Ge lo c d code = le_apart lo (code d) (code c)
holds_ordered Le lo c d code = le_apart lo (code c) (code d)
holds_ordered Gt lo c d code = lt_apart lo (code d) (code c)
holds_ordered Eq lo c d code = eq_apart lo (code c) (code d)
holds_ordered Ne lo c d code = ap not (eq_apart lo (code c) (code d))

-- a comparison of a literal with a value, and the other way round
compare_values-swap : (op : Op) (n : ℤ) (v : Value) → compare_values (swap_operands op) v (Some n) ≡ compare_values op (Some n) v
compare_values-swap op n None = refl
compare_values-swap op n (Some m) = ap truth_from (holds_turned op m n)

compare_values-null : (op : Op) (v : Value) → compare_values op v None ≡ Unknown
compare_values-null op None = refl
compare_values-null op (Some m) = refl

-- the pair of a comparison that has a truth if m is 1, and is TRUE then if e is 1, or if
-- e is 0
abbrev split_truth : Bool → Bool → Bool → Truth
split_truth negated there bit = cond there (truth_from (turned_bit negated bit)) Unknown

module _ (facts : Facts) (have_values : HaveStatedValues facts) where
  split-tells : (negated : Bool) (m e : Option ℕ) (p q : ℕ) (pair : TruthPair) (there bit : Assignment → Bool) → ((n : ℕ) → m ≡ Some n → Denotes facts.nodes there n) → ((n : ℕ) → e ≡ Some n → Denotes facts.nodes bit n) →
      exchange_if negated (pair_if_known facts m e p q) ≡ Some pair → Tells facts.nodes (λ assignment. split_truth negated (there assignment) (bit assignment)) pair
  split-tells negated (Some m) (Some e) p q pair there bit m_denotes e_denotes is = by_turn negated (if_both (product_node facts And m e p) (product_node facts Diff m e q)) refl is
    where
      t_denotes : (made : TruthPair) → if_both (product_node facts And m e p) (product_node facts Diff m e q) ≡ Some made → Denotes facts.nodes (λ assignment. there assignment && bit assignment) made.yes
      t_denotes made is = product_node-denoted facts have_values And m e made.yes p there bit (m_denotes m refl) (e_denotes e refl) (if_both-is _ _ made is).0

      f_denotes : (made : TruthPair) → if_both (product_node facts And m e p) (product_node facts Diff m e q) ≡ Some made → Denotes facts.nodes (λ assignment. there assignment && not (bit assignment)) made.no
      f_denotes made is = product_node-denoted facts have_values Diff m e made.no q there bit (m_denotes m refl) (e_denotes e refl) (if_both-is _ _ made is).1

      says_yes : (negated there bit : Bool) → (there && turned_bit negated bit) ≡ is_truth (split_truth negated there bit) Yes
      says_yes true true true = refl
      says_yes false true true = refl
      says_yes _ _ _ = refl

      says_no : (negated there bit : Bool) → (there && turned_bit (not negated) bit) ≡ is_truth (split_truth negated there bit) No
      says_no true true true = refl
      says_no false true true = refl
      says_no _ _ _ = refl

      by_turn : (negated : Bool) (made : Option TruthPair) → if_both (product_node facts And m e p) (product_node facts Diff m e q) ≡ made → exchange_if negated made ≡ Some pair →
          Tells facts.nodes (λ assignment. split_truth negated (there assignment) (bit assignment)) pair
      by_turn false (Some found) made is =
          subst (Tells facts.nodes (λ assignment. split_truth false (there assignment) (bit assignment))) (cc)
          (tells_by facts.nodes _ found
          (denotes_so facts.nodes _ _ found.yes (λ assignment. says_yes false (there assignment) (bit assignment)) (t_denotes found made))
          (denotes_so facts.nodes _ _ found.no (λ assignment. says_no false (there assignment) (bit assignment)) (f_denotes found made)))
      by_turn true (Some found) made is =
          subst (Tells facts.nodes (λ assignment. split_truth true (there assignment) (bit assignment))) (cc)
          (tells_by facts.nodes _ (exchange_nodes found)
          (denotes_so facts.nodes _ _ found.no (λ assignment. says_yes true (there assignment) (bit assignment)) (f_denotes found made))
          (denotes_so facts.nodes _ _ found.yes (λ assignment. says_no true (there assignment) (bit assignment)) (t_denotes found made)))
      by_turn _ _ made is = cc
  split-tells negated _ _ p q pair there bit m_denotes e_denotes is = by_turn negated is
    where
      by_turn : (negated : Bool) → exchange_if negated None ≡ Some pair → Tells facts.nodes (λ assignment. split_truth negated (there assignment) (bit assignment)) pair
      by_turn true is = cc
      by_turn false is = cc

  -- the node of a comparison of a column's code with a bound
  literal_node-denoted : (col : ℕ) (compared : LiteralComparison) (chain : Option ℕ) (e : ℕ) → literal_node facts.columns facts col compared chain ≡ Some e →
      Denotes facts.nodes (λ assignment. compares_to compared.kind (pos (code_spelled facts.columns col assignment)) compared.limit) e
  literal_node-denoted col compared chain e is = by_terminal (terminal_of compared.kind compared.limit (width_at facts.columns col)) refl chain is
    where
      cite : ℕ → Option ℕ
      cite = comparison_node facts compared.kind col 0 (width_at facts.columns col) (unsigned_abs compared.limit)

      P : ℕ → Type 0
      P = Denotes facts.nodes (λ assignment. compares_to compared.kind (pos (code_spelled facts.columns col assignment)) compared.limit)

      by_terminal : (terminal : Option ℕ) → terminal_of compared.kind compared.limit (width_at facts.columns col) ≡ terminal → (chain : Option ℕ) → terminal_or_cited terminal cite chain ≡ Some e → P e
      by_terminal (Some terminal) which None is =
          subst P (cc) (terminal-denoted facts.nodes (code_spelled facts.columns col) compared.kind compared.limit (width_at facts.columns col) terminal (code_spelled-lt facts.columns col) which)
      by_terminal None which (Some number) is =
          let found = have_values.chain compared.kind col 0 (width_at facts.columns col) (unsigned_abs compared.limit) number e is in
          denotes_so facts.nodes _ _ e (λ assignment. terminal_of-compares compared.kind compared.limit (width_at facts.columns col) (code_spelled facts.columns col assignment) which)
          (record { is_node = found.0; denoted = found.1 })
      by_terminal _ which _ is = cc

  -- CMP
  pub with_literal-tells : (op : Op) (col : ℕ) (n : ℤ) (entry : ConditionEntry) (pair : TruthPair) → col < length facts.columns → with_literal facts.columns facts op col n entry ≡ Some pair →
      Tells facts.nodes (λ assignment. compare_values op (value_in (row_of facts.columns assignment) col) (Some n)) pair
  unfolding with_literal
  with_literal-tells op col n (Compare chain value p q) pair lt is =
      tells_so facts.nodes _ _ pair same
      (split-tells compared.negated (value_node facts (null_variable facts.columns col) value) (literal_node facts.columns facts col compared chain) p q pair (has_value facts.columns col)
      (λ assignment. compares_to compared.kind (pos (code_spelled facts.columns col assignment)) compared.limit)
      (λ m found. value_node-denoted facts.columns facts have_values col value m found) (λ e found. literal_node-denoted col compared chain e found) is)
    where
      compared : LiteralComparison
      compared = literal_comparison op (n -ℤ lo_at facts.columns col)

      by_value : (there : Bool) (x : ℤ) → split_truth compared.negated there (compares_to compared.kind x compared.limit) ≡ compare_values op (value_if there (lo_at facts.columns col +ℤ x)) (Some n)
      by_value true x = ap truth_from (sym (holds_moved op (lo_at facts.columns col) x n))
      by_value false x = refl

      same : (assignment : Assignment) → split_truth compared.negated (has_value facts.columns col assignment) (compares_to compared.kind (pos (code_spelled facts.columns col assignment)) compared.limit) ≡ compare_values op (value_in (row_of facts.columns assignment) col) (Some n)
      same assignment = by_value (has_value facts.columns col assignment) (pos (code_spelled facts.columns col assignment))
          ∙ ap (λ v. compare_values op v (Some n)) (sym (value_in-assigned facts.columns col lt assignment))
  with_literal-tells op col n _ pair lt is = cc

  -- the node of a comparison of the codes of two columns
  column_node-denoted : (compared : ColumnComparison) (chain : Option ℕ) (e : ℕ) → column_node facts.columns facts compared chain ≡ Some e →
      Denotes facts.nodes (λ assignment. compares compared.kind (code_spelled facts.columns compared.left assignment) (code_spelled facts.columns compared.right assignment)) e
  column_node-denoted compared chain e is = by_same (eqb compared.left compared.right) refl chain is
    where
      len : ℕ
      len = max (width_at facts.columns compared.left) (width_at facts.columns compared.right)

      cite : ℕ → Option ℕ
      cite = two_column_node facts compared.kind compared.left compared.right len

      P : ℕ → Type 0
      P = Denotes facts.nodes (λ assignment. compares compared.kind (code_spelled facts.columns compared.left assignment) (code_spelled facts.columns compared.right assignment))

      itself : (kind : ChainKind) (x : Assignment → ℕ) → Denotes facts.nodes (λ assignment. compares kind (x assignment) (x assignment)) (first_node kind)
      itself Less x = denotes_so facts.nodes _ _ 0 (λ assignment. sym (le-ltb (x assignment) (x assignment) (omega arith))) (zero_denotes facts.nodes)
      itself Equal x = denotes_so facts.nodes _ _ 1 (λ assignment. sym (eq-eqb (x assignment) (x assignment) refl)) (one_denotes facts.nodes)

      whole : (assignment : Assignment) → compares compared.kind (padded_number facts.columns compared.left len assignment) (padded_number facts.columns compared.right len assignment)
          ≡ compares compared.kind (code_spelled facts.columns compared.left assignment) (code_spelled facts.columns compared.right assignment)
      whole assignment = ap₂ (compares compared.kind)
          (padded_number-whole facts.columns compared.left len assignment (omega arith))
          (padded_number-whole facts.columns compared.right len assignment (omega arith))

      by_same : (same : Bool) → eqb compared.left compared.right ≡ same → (chain : Option ℕ) → terminal_or_cited (cond same (Some (first_node compared.kind)) None) cite chain ≡ Some e → P e
      by_same true same None is =
          let one : compared.left ≡ compared.right = eqb-true compared.left compared.right same in
          subst P (cc) (denotes_so facts.nodes _ _ (first_node compared.kind)
          (λ assignment. ap (λ c. compares compared.kind (code_spelled facts.columns compared.left assignment) (code_spelled facts.columns c assignment)) one)
          (itself compared.kind (code_spelled facts.columns compared.left)))
      by_same false same (Some number) is =
          let found = have_values.two compared.kind compared.left compared.right len number e is in
          denotes_so facts.nodes _ _ e whole (record { is_node = found.0; denoted = found.1 })
      by_same _ same _ is = cc

  both_node-denoted : (left right : Option ℕ) (number m : ℕ) (x y : Assignment → Bool) → ((n : ℕ) → left ≡ Some n → Denotes facts.nodes x n) → ((n : ℕ) → right ≡ Some n → Denotes facts.nodes y n) →
      both_node facts left right number ≡ Some m → Denotes facts.nodes (λ assignment. x assignment && y assignment) m
  both_node-denoted (Some left) (Some right) number m x y x_denotes y_denotes is = product_node-denoted facts have_values And left right m number x y (x_denotes left refl) (y_denotes right refl) is
  both_node-denoted _ _ number m x y x_denotes y_denotes is = cc

  -- CMP2
  pub with_column-tells : (op : Op) (c d : ℕ) (entry : ConditionEntry) (pair : TruthPair) → c < length facts.columns → d < length facts.columns → with_column facts.columns facts op c d entry ≡ Some pair →
      Tells facts.nodes (λ assignment. compare_values op (value_in (row_of facts.columns assignment) c) (value_in (row_of facts.columns assignment) d)) pair
  unfolding with_column
  with_column-tells op c d (CompareColumns chain left right number p q) pair c_lt d_lt is = by_lo (int_eq (lo_at facts.columns c) (lo_at facts.columns d)) refl is
    where
      compared : ColumnComparison
      compared = column_comparison op c d

      code : Assignment → ℕ → ℕ
      code assignment col = code_spelled facts.columns col assignment

      m : Option ℕ
      m = both_node facts (value_node facts (null_variable facts.columns c) left) (value_node facts (null_variable facts.columns d) right) number

      by_value : (assignment : Assignment) (x y : Bool) → lo_at facts.columns c ≡ lo_at facts.columns d →
          split_truth compared.negated (x && y) (compares compared.kind (code assignment compared.left) (code assignment compared.right))
          ≡ compare_values op (value_if x (lo_at facts.columns c +ℤ pos (code assignment c))) (value_if y (lo_at facts.columns d +ℤ pos (code assignment d)))
      by_value assignment true true one = ap truth_from (sym (holds_ordered op (lo_at facts.columns c) c d (code assignment)) ∙ ap (λ lo. holds op (lo_at facts.columns c +ℤ pos (code assignment c)) (lo +ℤ pos (code assignment d))) one)
      by_value assignment _ _ one = refl

      same : lo_at facts.columns c ≡ lo_at facts.columns d → (assignment : Assignment) →
          split_truth compared.negated (has_value facts.columns c assignment && has_value facts.columns d assignment) (compares compared.kind (code assignment compared.left) (code assignment compared.right))
          ≡ compare_values op (value_in (row_of facts.columns assignment) c) (value_in (row_of facts.columns assignment) d)
      same one assignment = by_value assignment (has_value facts.columns c assignment) (has_value facts.columns d assignment) one
          ∙ ap₂ (compare_values op) (sym (value_in-assigned facts.columns c c_lt assignment)) (sym (value_in-assigned facts.columns d d_lt assignment))

      by_lo : (one : Bool) → int_eq (lo_at facts.columns c) (lo_at facts.columns d) ≡ one →
          cond one (exchange_if compared.negated (pair_if_known facts m (column_node facts.columns facts compared chain) p q)) None ≡ Some pair →
          Tells facts.nodes (λ assignment. compare_values op (value_in (row_of facts.columns assignment) c) (value_in (row_of facts.columns assignment) d)) pair
      by_lo false one is = cc
      by_lo true one is =
          tells_so facts.nodes _ _ pair (same (equal-lo (lo_at facts.columns c) (lo_at facts.columns d) one))
          (split-tells compared.negated m (column_node facts.columns facts compared chain) p q pair
          (λ assignment. has_value facts.columns c assignment && has_value facts.columns d assignment)
          (λ assignment. compares compared.kind (code assignment compared.left) (code assignment compared.right))
          (λ n found. both_node-denoted _ _ number n _ _ (λ n found. value_node-denoted facts.columns facts have_values c left n found) (λ n found. value_node-denoted facts.columns facts have_values d right n found) found)
          (λ e found. column_node-denoted compared chain e found) is)
  with_column-tells op c d _ pair c_lt d_lt is = cc

  -- a comparison
  pub comparison-tells : (op : Op) (x y : Operand) (entry : ConditionEntry) (pair : TruthPair) → is_within (length facts.columns) x ≡ true → is_within (length facts.columns) y ≡ true → comparison facts.columns facts op x y entry ≡ Some pair →
      Tells facts.nodes (λ assignment. compare_values op (operand_value (row_of facts.columns assignment) x) (operand_value (row_of facts.columns assignment) y)) pair
  unfolding comparison
  comparison-tells op (Col c) (Lit n) entry pair x_in y_in is = with_literal-tells op c n entry pair (ltb-true c (length facts.columns) x_in) is
  comparison-tells op (Lit n) (Col c) entry pair x_in y_in is =
      tells_so facts.nodes _ _ pair (λ assignment. compare_values-swap op n (value_in (row_of facts.columns assignment) c))
      (with_literal-tells (swap_operands op) c n entry pair (ltb-true c (length facts.columns) y_in) is)
  comparison-tells op (Col c) (Col d) entry pair x_in y_in is = with_column-tells op c d entry pair (ltb-true c (length facts.columns) x_in) (ltb-true d (length facts.columns) y_in) is
  comparison-tells op (Lit m) (Lit n) entry pair x_in y_in is = fixed-tells facts.nodes (truth_from (holds op m n)) pair entry is
  comparison-tells op (Col c) Null entry pair x_in y_in is =
      tells_so facts.nodes _ _ pair (λ assignment. sym (compare_values-null op (value_in (row_of facts.columns assignment) c)))
      (fixed-tells facts.nodes Unknown pair entry is)
  comparison-tells op Null (Lit n) entry pair x_in y_in is = fixed-tells facts.nodes Unknown pair entry is
  comparison-tells op _ _ entry pair x_in y_in is = fixed-tells facts.nodes Unknown pair entry is
