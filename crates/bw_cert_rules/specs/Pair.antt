-- The truth pair of a condition, as a certificate's lines make it step by step, operands first: the
-- node that is 1 if it is TRUE, and the node that is 1 if it is FALSE.
use Rattle.std.specs.Prelude.{◌≡◌, ℕ, List, [], ◌∷◌, map, Option, Some, None, Result, Ok, Err}
use Rattle.std.specs.Option.{option_and_then}
use Rattle.bw_model.specs.FaultTable.{CONDITION_LINE}
use Rattle.bw_model.specs.declared.column.Column.{Column}
use Rattle.bw_model.specs.declared.cond.Truth.{Truth}
use Rattle.bw_model.specs.declared.cond.Truth.TheVariants as truth
use Rattle.bw_model.specs.declared.cond.Op.TheVariants.{Eq, Le, Ge}
use Rattle.bw_model.specs.declared.cond.Operand.{Operand}
use Rattle.bw_model.specs.declared.cond.Operand.TheVariants.{Col, Lit, Null}
use Rattle.bw_model.specs.declared.cond.Cond.{Cond, Cond-F, fold-Cond}
use Rattle.bw_model.specs.declared.cond.Cond.TheOpen as layer
use Rattle.bw_model.specs.declared.fault.Fault.{Fault}
use Rattle.bw_model.specs.Fault.{at_line, ◌>>=◌}
use Rattle.bw_model.specs.Variable.{null_variable}
use Rattle.bw_diagram.specs.declared.product.Connective.TheVariants as connective
use Rattle.bw_diagram.specs.References.{product_node}
use Rattle.bw_diagram.specs.Facts.{Facts}
use Rattle.bw_cert_text.specs.declared.body.BodyLines.{BodyLines}
use Rattle.bw_cert_text.specs.declared.lines.BodyLine.{BodyLine}
use Rattle.bw_cert_text.specs.declared.lines.Entry.{Entry}
use Rattle.bw_cert_text.specs.declared.lines.Entry.TheVariants.{Condition}
use Rattle.bw_cert_text.specs.declared.lines.ConditionEntry.{ConditionEntry}
use Rattle.bw_cert_text.specs.BodyLines.{body_lines}
use Rattle.bw_cert_text.specs.CertificateFields.{BodyFields, body_fields}
use Rattle.bw_cert_text.specs.declared.lines.ConditionEntry.TheVariants.{NullTest, And, Or, Not, Is}
use Rattle.bw_cert_text.specs.declared.lines.ConditionEntry.TheVariants.{IsUnknown}
use Rattle.bw_cert_rules.specs.Rows.{TruthPair}
use Rattle.bw_model.specs.declared.junction.Junction.{Junction}
use Rattle.bw_model.specs.declared.junction.Junction.TheVariants.{All, Any}
use Rattle.bw_cert_rules.specs.Rows.{if_both, exchange_nodes, null_pair}
use Rattle.bw_cert_rules.specs.Comparison.{fixed_pair, comparison}

-- The result of reading a certificate's lines: a truth pair and the lines after those that made it,
-- or the first error.
abbrev pub Reading : Type 0
Reading = Result (TruthPair × List BodyLine) Fault

-- The same result with each line replaced by its fields, so that equal lines at different addresses
-- compare equal.
abbrev pub line_fields : Reading → Result (TruthPair × List BodyFields) Fault
line_fields (Ok read) = Ok (read.0, map body_fields read.1)
line_fields (Err fault) = Err fault

-- what a reader returned is this reading
abbrev pub Answers : Result (TruthPair × BodyLines) Fault → Reading → Type 0
Answers (Ok read) reading = reading ≡ Ok (read.0, body_lines read.1)
Answers (Err fault) reading = reading ≡ Err fault

-- the fields of a line, if it is a condition's
abbrev pub condition_entry : Entry → Option ConditionEntry
condition_entry (Condition entry) = Some entry
condition_entry _ = None

-- the fields of the next line, if there is one and it is a condition's
abbrev pub next_entry : List BodyLine → Option ConditionEntry
next_entry [] = None
next_entry (line ∷ rest) = condition_entry line.entry

-- the number of the next line, or that of END if there is none
abbrev pub next_number : ℕ → List BodyLine → ℕ
next_number end [] = end
next_number end (line ∷ rest) = line.line

-- the truth pair that the next line makes, and the lines after it; or 606 at that line, or at END
-- if there is none
abbrev pub expect_line : ℕ → Option TruthPair → List BodyLine → Reading
expect_line end (Some pair) (line ∷ rest) = Ok (pair, rest)
expect_line end _ lines = Err (at_line CONDITION_LINE (next_number end lines))

-- the truth pair that this rule makes of the next line's fields, and the lines after it
unfoldable pub by_line : ℕ → (ConditionEntry → Option TruthPair) → List BodyLine → Reading
by_line end rule lines = expect_line end (option_and_then rule (next_entry lines)) lines

-- IS NULL of a column that has this null variable, or none
abbrev pub null_test : Facts → Option ℕ → ConditionEntry → Option TruthPair
null_test facts None entry = fixed_pair truth.No entry
null_test facts (Some variable) (NullTest number) = null_pair facts variable number
null_test facts (Some variable) _ = None

-- IS NULL
unfoldable pub is_null_test : List Column → Facts → Operand → ConditionEntry → Option TruthPair
is_null_test columns facts (Col column) entry = null_test facts (null_variable columns column) entry
is_null_test columns facts (Lit n) entry = fixed_pair truth.No entry
is_null_test columns facts Null entry = fixed_pair truth.Yes entry

-- AND is TRUE if both parts are, and FALSE if one of them is. OR is TRUE if one part is, and FALSE
-- if both are.
unfoldable pub joined_pair : Facts → Junction → TruthPair → TruthPair → ConditionEntry
    → Option TruthPair
joined_pair facts All a b (And i j) =
    if_both (product_node facts connective.And a.yes b.yes i)
    (product_node facts connective.Or a.no b.no j)
joined_pair facts Any a b (Or i j) =
    if_both (product_node facts connective.Or a.yes b.yes i)
    (product_node facts connective.And a.no b.no j)
joined_pair facts _ a b _ = None

-- NOT
unfoldable pub negated_pair : TruthPair → ConditionEntry → Option TruthPair
negated_pair pair Not = Some (exchange_nodes pair)
negated_pair pair _ = None

-- a node, and that of a product row "1 and not the node"
abbrev pub with_opposite : Facts → ℕ → ℕ → Option TruthPair
with_opposite facts node number = if_both (Some node)
    (product_node facts connective.Diff 1 node number)

-- a part is UNKNOWN if neither of its nodes is 1
abbrev pub unknown_pair : Facts → Option ℕ → ℕ → Option TruthPair
unknown_pair facts (Some known) number = if_both (product_node facts connective.Diff 1 known number)
    (Some known)
unknown_pair facts None number = None

-- IS TRUE, IS FALSE and IS UNKNOWN
unfoldable pub tested_pair : Facts → Truth → TruthPair → ConditionEntry → Option TruthPair
tested_pair facts truth.Yes pair (Is i) = with_opposite facts pair.yes i
tested_pair facts truth.No pair (Is i) = with_opposite facts pair.no i
tested_pair facts truth.Unknown pair (IsUnknown i j) =
    unknown_pair facts (product_node facts connective.Or pair.yes pair.no i) j
tested_pair facts _ pair _ = None

module _ (columns : List Column) (facts : Facts) (end : ℕ) where
  -- the lines of a further part, and then the line that combines it with the parts before it
  abbrev pub one_more : Junction → (List BodyLine → Reading) → TruthPair × List BodyLine → Reading
  one_more junction part before =
      part before.1 >>= λ next. by_line end (joined_pair facts junction before.0 next.0) next.1

  -- the lines of all further parts, in order
  abbrev pub more_parts : Junction → List (List BodyLine → Reading) → TruthPair × List BodyLine
      → Reading
  more_parts junction [] before = Ok before
  more_parts junction (part ∷ parts) before =
      one_more junction part before >>= λ next. more_parts junction parts next

  -- the lines of one or more parts that are combined by AND or OR
  abbrev pub joined_parts : Junction → List (List BodyLine → Reading) → List BodyLine → Reading
  joined_parts junction [] lines = expect_line end None lines
  joined_parts junction (part ∷ parts) lines = part lines
      >>= λ first. more_parts junction parts first

  -- the lines of the equations that IN means
  abbrev pub equations : Operand → List Operand → List (List BodyLine → Reading)
  equations x items = map (λ item. by_line end (comparison columns facts Eq x item)) items

  -- the lines of a condition, from those of its parts
  abbrev pub pair_step : Cond-F (List BodyLine → Reading) → List BodyLine → Reading
  pair_step layer.Always lines = by_line end (fixed_pair truth.Yes) lines
  pair_step (layer.Cmp op x y) lines = by_line end (comparison columns facts op x y) lines
  pair_step (layer.Between x y z) lines =
      let low = by_line end (comparison columns facts Ge x y) in
      let high = by_line end (comparison columns facts Le x z) in
      joined_parts All (low ∷ high ∷ []) lines
  pair_step (layer.Among x items) lines = joined_parts Any (equations x items.items) lines
  pair_step (layer.IsNull x) lines = by_line end (is_null_test columns facts x) lines
  pair_step (layer.And parts) lines = joined_parts All parts.items lines
  pair_step (layer.Or parts) lines = joined_parts Any parts.items lines
  pair_step (layer.Not part) lines = part.value lines
      >>= λ read. by_line end (negated_pair read.0) read.1
  pair_step (layer.Test part t) lines =
      part.value lines >>= λ read. by_line end (tested_pair facts t read.0) read.1

  -- the truth pair of a condition and the lines after its own, or the first error
  unfoldable pub pair_of : Cond → List BodyLine → Reading
  pair_of cond = fold-Cond (List BodyLine → Reading) pair_step cond
