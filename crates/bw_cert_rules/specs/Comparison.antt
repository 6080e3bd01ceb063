-- Comparisons in a certificate: of a column with a literal, of two columns, and those with the same
-- truth on every row.
use Rattle.std.specs.Prelude.{ℕ, ℤ, pos, ◌-ℤ◌, Bool, true, false, List, map, max, Option, Some}
use Rattle.std.specs.Prelude.{None, slice_index_or, if◌then◌else◌, ◌==◌, unsigned_abs}
use Rattle.std.specs.Ordering.{int_eq}
use Rattle.std.specs.Option.{option_map}
use Rattle.bw_model.specs.declared.column.Column.{Column}
use Rattle.bw_model.specs.declared.cond.Op.{Op}
use Rattle.bw_model.specs.declared.cond.Operand.{Operand}
use Rattle.bw_model.specs.declared.cond.Operand.TheVariants.{Col, Lit}
use Rattle.bw_model.specs.declared.cond.Truth.{Truth}
use Rattle.bw_model.specs.declared.cond.Truth.TheVariants.{No, Unknown, Yes}
use Rattle.bw_model.specs.Code.{width_at}
use Rattle.bw_model.specs.Truth.{truth_from, holds, swap_operands}
use Rattle.bw_model.specs.Variable.{null_variable}
use Rattle.bw_diagram.specs.declared.comparison.LiteralComparison.{LiteralComparison}
use Rattle.bw_diagram.specs.declared.comparison.ColumnComparison.{ColumnComparison}
use Rattle.bw_diagram.specs.declared.product.Connective.TheVariants.{And, Diff}
use Rattle.bw_diagram.specs.Chain.{first_node}
use Rattle.bw_diagram.specs.Comparison.{literal_comparison, terminal_of, column_comparison}
use Rattle.bw_diagram.specs.References.{product_node, comparison_node, two_column_node}
use Rattle.bw_diagram.specs.Facts.{Facts}
use Rattle.bw_cert_text.specs.declared.lines.ConditionEntry.{ConditionEntry}
use Rattle.bw_cert_text.specs.declared.lines.ConditionEntry.TheVariants.{Compare, CompareColumns}
use Rattle.bw_cert_text.specs.declared.lines.ConditionEntry.TheVariants.{Fixed}
use Rattle.bw_cert_rules.specs.Rows.{TruthPair, pair_of_nodes, if_both, exchange_nodes, value_node}

-- the minimum of the column of this number
abbrev pub lo_at : List Column → ℕ → ℤ
lo_at columns column = slice_index_or (map (λ c. c.lo) columns) column (pos 0)

-- the truth pair of a step with the same truth on every row
abbrev pub constant_pair : Truth → TruthPair
constant_pair Yes = pair_of_nodes 1 0
constant_pair No = pair_of_nodes 0 1
constant_pair Unknown = pair_of_nodes 0 0

-- FIXED: a step with the same truth on every row
abbrev pub fixed_pair : Truth → ConditionEntry → Option TruthPair
fixed_pair truth Fixed = Some (constant_pair truth)
fixed_pair truth _ = None

-- The truth pair of a comparison that is UNKNOWN unless node m is 1, and is then TRUE if node e is
-- 1: p is the product row of m AND e, and q that of "m and not e".
abbrev pub pair_if_known : Facts → Option ℕ → Option ℕ → ℕ → ℕ → Option TruthPair
pair_if_known facts (Some m) (Some e) p q = if_both (product_node facts And m e p)
    (product_node facts Diff m e q)
pair_if_known facts _ _ p q = None

-- if it is negated, the comparison is FALSE if node e is 1
abbrev pub exchange_if : Bool → Option TruthPair → Option TruthPair
exchange_if true pair = option_map exchange_nodes pair
exchange_if false pair = pair

-- a terminal, if there is one and the line has `-`; else the node that the line references
abbrev pub terminal_or_cited : Option ℕ → (ℕ → Option ℕ) → Option ℕ → Option ℕ
terminal_or_cited (Some terminal) cite None = Some terminal
terminal_or_cited None cite (Some number) = cite number
terminal_or_cited _ cite _ = None

-- node e of a comparison of a column's code with a bound: that of a chain over all bits of the
-- column
abbrev pub literal_node : List Column → Facts → ℕ → LiteralComparison → Option ℕ → Option ℕ
literal_node columns facts col compared chain =
    let width = width_at columns col in
    let terminal = terminal_of compared.kind compared.limit width in
    terminal_or_cited terminal
    (comparison_node facts compared.kind col 0 width (unsigned_abs compared.limit))
    chain

-- CMP: a column and a literal, which compares the column's code with the literal's distance from
-- the column's minimum
unfoldable pub with_literal : List Column → Facts → Op → ℕ → ℤ → ConditionEntry → Option TruthPair
with_literal columns facts op col n (Compare chain value p q) =
    let compared = literal_comparison op (n -ℤ lo_at columns col) in
    let m = value_node facts (null_variable columns col) value in
    let e = literal_node columns facts col compared chain in
    exchange_if compared.negated (pair_if_known facts m e p q)
with_literal columns facts op col n _ = None

-- node e of such a comparison: that of a chain over as many bits as the wider column has, or the
-- terminal of a column that is compared with itself
abbrev pub column_node : List Column → Facts → ColumnComparison → Option ℕ → Option ℕ
column_node columns facts compared chain =
    let len = max (width_at columns compared.left) (width_at columns compared.right) in
    let terminal = if compared.left == compared.right then Some (first_node compared.kind) else None in
    terminal_or_cited terminal (two_column_node facts compared.kind compared.left compared.right len) chain

-- the node that is 1 if two columns have values: that of a product row that combines the nodes of
-- both by AND
abbrev pub both_node : Facts → Option ℕ → Option ℕ → ℕ → Option ℕ
both_node facts (Some m) (Some n) number = product_node facts And m n number
both_node facts _ _ number = None

-- CMP2: two columns of the same minimum, which compares their codes. Columns of different minimums
-- have no line.
unfoldable pub with_column : List Column → Facts → Op → ℕ → ℕ → ConditionEntry → Option TruthPair
with_column columns facts op c d (CompareColumns chain left right both p q) =
    let compared = column_comparison op c d in
    let left_value = value_node facts (null_variable columns c) left in
    let right_value = value_node facts (null_variable columns d) right in
    let m = both_node facts left_value right_value both in
    let e = column_node columns facts compared chain in
    if int_eq (lo_at columns c) (lo_at columns d)
    then exchange_if compared.negated (pair_if_known facts m e p q)
    else None
with_column columns facts op c d _ = None

-- The truth pair of a comparison by its line. A comparison with NULL is UNKNOWN on every row.
unfoldable pub comparison : List Column → Facts → Op → Operand → Operand → ConditionEntry
    → Option TruthPair
comparison columns facts op (Col c) (Lit n) entry = with_literal columns facts op c n entry
comparison columns facts op (Lit n) (Col c) entry = with_literal columns facts
    (swap_operands op) c n entry
comparison columns facts op (Col c) (Col d) entry = with_column columns facts op c d entry
comparison columns facts op (Lit m) (Lit n) entry = fixed_pair (truth_from (holds op m n)) entry
comparison columns facts op _ _ entry = fixed_pair Unknown entry
