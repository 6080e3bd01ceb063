-- Reading a statement from its tokens: each function consumes some of the remaining tokens, and
-- returns what it read and the tokens after it, or where and why it stopped.
use Rattle.std.specs.Prelude.{ℕ, ℤ, Bool, true, false, suc, zero, List, [], ◌∷◌, ◌++◌, length}
use Rattle.std.specs.Prelude.{Option, Some, None, Result, Ok, Err, if◌then◌else◌}
use Rattle.std.specs.Str.{bytes_eq}
use Rattle.bw_model.specs.declared.cond.Op.{Op}
use Rattle.bw_model.specs.declared.cond.Operand.{Operand}
use Rattle.bw_model.specs.declared.cond.Operand.TheVariants.{Col, Lit, Null}
use Rattle.bw_model.specs.declared.cond.Truth.{Truth}
use Rattle.bw_model.specs.declared.cond.Truth.TheVariants.{No, Unknown, Yes}
use Rattle.bw_text.specs.declared.keyword.Keyword.{Keyword}
use Rattle.bw_text.specs.declared.keyword.Keyword.TheVariants as word
use Rattle.bw_model.specs.declared.query.Item.{Item}
use Rattle.bw_model.specs.declared.query.Item.TheVariants.{Plain, CountAll}
use Rattle.bw_model.specs.declared.schema.Schema.{Schema}
use Rattle.bw_text.specs.Keyword.{spelling}
use Rattle.bw_text.specs.Number.{number_of}
use Rattle.bw_text.specs.Text.{same_text}
use Rattle.bw_sql.specs.QueryShape.{QueryShape}
use Rattle.bw_model.specs.CondTree.{CondTree, CondTrees, Always, Cmp, Between, Among, IsNull, And}
use Rattle.bw_model.specs.CondTree.{Not, Test, trees_of}
use Rattle.bw_model.specs.declared.junction.Junction.{Junction}
use Rattle.bw_model.specs.declared.junction.Junction.TheVariants as junction
use Rattle.bw_sql.specs.declared.items.Aggregate.{Aggregate}
use Rattle.bw_sql.specs.declared.items.Aggregate.TheVariants as aggregate
use Rattle.bw_sql.specs.declared.reader.Refusal.{Refusal}
use Rattle.bw_sql.specs.declared.reader.Refusal.TheVariants.{Syntax, UnknownTable, UnknownColumn}
use Rattle.bw_sql.specs.declared.reader.Refusal.TheVariants.{Literal, MixedItems, Nesting}
use Rattle.bw_sql.specs.declared.token.Mark.{Mark}
use Rattle.bw_sql.specs.declared.token.Mark.TheVariants as mark
use Rattle.bw_model.specs.Column.{column_named}
use Rattle.bw_sql.specs.Demand.{every_column}
use Rattle.bw_sql.specs.Limits.{deepest_nesting}
use Rattle.bw_sql.specs.Piece.{mark_spelling}
use Rattle.bw_sql.specs.Words.{word_of, join_of, of_column}
use Rattle.bw_sql.specs.Token.{Lexeme, Name, Digits, Reserved, Compare, Punct}

-- why reading stopped, and how many tokens are left there
pub record Halt : Type 0 where
  pub why : Refusal
  pub left : ℕ

-- what was read, and the tokens after it, or where and why reading stopped
abbrev pub ReadResult : Type 0 → Type 0
ReadResult A = Result (A × List Lexeme) Halt

-- a result passed on to the next step, or the first refusal
infixl 10 ◌>>=◌
abbrev pub ◌>>=◌ : {A B : Type 0} → Result A Halt → (A → Result B Halt) → Result B Halt
(Ok x) >>= f = f x
(Err halt) >>= f = Err halt

abbrev pub refuse : {A : Type 0} → Refusal → List Lexeme → Result A Halt
refuse why tokens = Err (record { why = why; left = length tokens })

-- what is first, if it is there, or else a refusal
abbrev pub ok_or_refuse : {A : Type 0} → Option A → Refusal → List Lexeme → Result A Halt
ok_or_refuse (Some x) why tokens = Ok x
ok_or_refuse None why tokens = refuse why tokens

-- reserved words and marks are compared by their spelling
abbrev pub same_keyword : Keyword → Keyword → Bool
same_keyword a b = bytes_eq (spelling a) (spelling b)

abbrev pub same_mark : Mark → Mark → Bool
same_mark a b = bytes_eq (mark_spelling a) (mark_spelling b)

-- the tokens after a reserved word or a mark, if it is first
unfoldable pub after_keyword : Keyword → List Lexeme → Option (List Lexeme)
after_keyword word (Reserved found ∷ tokens) = if same_keyword found word then Some tokens else None
after_keyword word _ = None

unfoldable pub after_mark : Mark → List Lexeme → Option (List Lexeme)
after_mark mark (Punct found ∷ tokens) = if same_mark found mark then Some tokens else None
after_mark mark _ = None

unfoldable pub keyword_at : Keyword → List Lexeme → Result (List Lexeme) Halt
keyword_at word tokens = ok_or_refuse (after_keyword word tokens) Syntax tokens

unfoldable pub mark_at : Mark → List Lexeme → Result (List Lexeme) Halt
mark_at mark tokens = ok_or_refuse (after_mark mark tokens) Syntax tokens

unfoldable pub name_at : List Lexeme → ReadResult (List ℕ)
name_at (Name text ∷ tokens) = Ok (text, tokens)
name_at tokens = refuse Syntax tokens

unfoldable pub digits_at : List Lexeme → ReadResult (List ℕ)
digits_at (Digits text ∷ tokens) = Ok (text, tokens)
digits_at tokens = refuse Syntax tokens

-- whether a minus is first, and the tokens after the sign, if there is one
abbrev pub after_plus : Option (List Lexeme) → List Lexeme → Bool × List Lexeme
after_plus (Some rest) tokens = (false, rest)
after_plus None tokens = (false, tokens)

abbrev pub after_minus : Option (List Lexeme) → List Lexeme → Bool × List Lexeme
after_minus (Some rest) tokens = (true, rest)
after_minus None tokens = after_plus (after_mark mark.Plus tokens) tokens

unfoldable pub sign_at : List Lexeme → Bool × List Lexeme
sign_at tokens = after_minus (after_mark mark.Minus tokens) tokens

unfoldable pub literal_at : List Lexeme → ReadResult ℤ
literal_at tokens = do
  digits ← digits_at (sign_at tokens).1
  n ← ok_or_refuse (number_of (sign_at tokens).0 digits.0) Literal tokens
  Ok (n, digits.1)

unfoldable pub column_at : Schema → List Lexeme → ReadResult ℕ
column_at schema tokens = do
  name ← name_at tokens
  column ← ok_or_refuse (column_named schema.columns.items name.0) UnknownColumn tokens
  Ok (column, name.1)

unfoldable pub table_at : Schema → List Lexeme → Result (List Lexeme) Halt
table_at schema tokens = do
  name ← name_at tokens
  if same_text schema.name name.0 then Ok name.1 else refuse UnknownTable tokens

-- an operand: NULL, a column, or a literal
abbrev pub begins_with_name : List Lexeme → Bool
begins_with_name (Name text ∷ tokens) = true
begins_with_name _ = false

abbrev pub column_operand : Schema → List Lexeme → ReadResult Operand
column_operand schema tokens = do
  column ← column_at schema tokens
  Ok (Col column.0, column.1)

abbrev pub literal_operand : List Lexeme → ReadResult Operand
literal_operand tokens = do
  n ← literal_at tokens
  Ok (Lit n.0, n.1)

abbrev pub operand_after : Option (List Lexeme) → Schema → List Lexeme → ReadResult Operand
operand_after (Some rest) schema tokens = Ok (Null, rest)
operand_after None schema tokens =
    if begins_with_name tokens then column_operand schema tokens else literal_operand tokens

unfoldable pub operand_at : Schema → List Lexeme → ReadResult Operand
operand_at schema tokens = operand_after (after_keyword word.Null tokens) schema tokens

-- what is read repeatedly, as long as its introducing token is first; there are no more of them
-- than tokens
abbrev pub more_after : {A : Type 0} → Option (List Lexeme) → List Lexeme
    → (List Lexeme → ReadResult A) →
    (List Lexeme → ReadResult (List A)) → ReadResult (List A)
more_after None tokens one others = Ok ([], tokens)
more_after (Some next) tokens one others = do
  x ← one next
  xs ← others x.1
  Ok (x.0 ∷ xs.0, xs.1)

unfoldable pub read_many : {A : Type 0} → ℕ → (List Lexeme → Option (List Lexeme)) →
    (List Lexeme → ReadResult A) → List Lexeme → ReadResult (List A)
read_many zero after one tokens = Ok ([], tokens)
read_many (suc n) after one tokens = more_after (after tokens) tokens one (read_many n after one)

abbrev pub with_front : {A : Type 0} → List A → ReadResult (List A) → ReadResult (List A)
with_front front read = do
  xs ← read
  Ok (front ++ xs.0, xs.1)

abbrev pub more_operands : Schema → List Lexeme → ReadResult (List Operand)
more_operands schema tokens = read_many (length tokens) (after_mark mark.Comma)
    (operand_at schema) tokens

-- what follows an operand: a range after BETWEEN, or a list after IN
abbrev pub range_at : Schema → Operand → List Lexeme → ReadResult CondTree
range_at schema x tokens = do
  low ← operand_at schema tokens
  rest ← keyword_at word.And low.1
  high ← operand_at schema rest
  Ok (Between x low.0 high.0, high.1)

abbrev pub operands_at : Schema → List Lexeme → ReadResult (List Operand)
operands_at schema tokens = do
  first ← operand_at schema tokens
  with_front (first.0 ∷ []) (more_operands schema first.1)

abbrev pub list_at : Schema → Operand → List Lexeme → ReadResult CondTree
list_at schema x tokens = do
  rest ← keyword_at word.In tokens
  rest ← mark_at mark.Open rest
  items ← operands_at schema rest
  rest ← mark_at mark.Close items.1
  Ok (Among x items.0, rest)

abbrev pub range_or_list_after : Option (List Lexeme) → Schema → Operand → List Lexeme
    → ReadResult CondTree
range_or_list_after (Some next) schema x tokens = range_at schema x next
range_or_list_after None schema x tokens = list_at schema x tokens

unfoldable pub range_or_list_at : Schema → Operand → List Lexeme → ReadResult CondTree
range_or_list_at schema x tokens = range_or_list_after (after_keyword word.Between tokens) schema x
    tokens

-- [ NOT ] NULL after IS
abbrev pub null_after : Option (List Lexeme) → Operand → List Lexeme → ReadResult CondTree
null_after (Some next) x tokens = do
  rest ← keyword_at word.Null next
  Ok (Not (IsNull x), rest)
null_after None x tokens = do
  rest ← keyword_at word.Null tokens
  Ok (IsNull x, rest)

unfoldable pub null_test_at : Operand → List Lexeme → ReadResult CondTree
null_test_at x tokens = null_after (after_keyword word.Not tokens) x tokens

unfoldable pub after_comparison : List Lexeme → Option (Op × List Lexeme)
after_comparison (Compare op ∷ tokens) = Some (op, tokens)
after_comparison _ = None

-- what follows the first operand of a predicate
abbrev pub after_not : Schema → Operand → Option (List Lexeme) → List Lexeme → ReadResult CondTree
after_not schema x (Some next) tokens = do
  c ← range_or_list_at schema x next
  Ok (Not c.0, c.1)
after_not schema x None tokens = range_or_list_at schema x tokens

abbrev pub after_is : Schema → Operand → Option (List Lexeme) → List Lexeme → ReadResult CondTree
after_is schema x (Some next) tokens = null_test_at x next
after_is schema x None tokens = after_not schema x (after_keyword word.Not tokens) tokens

abbrev pub predicate_after : Schema → Operand → Option (Op × List Lexeme) → List Lexeme
    → ReadResult CondTree
predicate_after schema x (Some next) tokens = do
  y ← operand_at schema next.1
  Ok (Cmp next.0 x y.0, y.1)
predicate_after schema x None tokens = after_is schema x (after_keyword word.Is tokens) tokens

abbrev pub predicate_of : Schema → Operand → List Lexeme → ReadResult CondTree
predicate_of schema x tokens = predicate_after schema x (after_comparison tokens) tokens

unfoldable pub predicate_at : Schema → List Lexeme → ReadResult CondTree
predicate_at schema tokens = do
  x ← operand_at schema tokens
  predicate_of schema x.0 x.1

-- a truth value, and a test for it after IS
abbrev pub after_true : Option (List Lexeme) → Option (List Lexeme) → Option (List Lexeme)
    → List Lexeme → ReadResult Truth
after_true (Some rest) second third tokens = Ok (Yes, rest)
after_true None (Some rest) third tokens = Ok (No, rest)
after_true None None (Some rest) tokens = Ok (Unknown, rest)
after_true None None None tokens = refuse Syntax tokens

unfoldable pub truth_value_at : List Lexeme → ReadResult Truth
truth_value_at tokens = after_true (after_keyword word.True tokens)
    (after_keyword word.False tokens)
    (after_keyword word.Unknown tokens) tokens

abbrev pub value_test_at : CondTree → List Lexeme → ReadResult CondTree
value_test_at c tokens = do
  t ← truth_value_at tokens
  Ok (Test c t.0, t.1)

abbrev pub value_test_after : CondTree → Option (List Lexeme) → List Lexeme → ReadResult CondTree
value_test_after c (Some next) tokens = do
  d ← value_test_at c next
  Ok (Not d.0, d.1)
value_test_after c None tokens = value_test_at c tokens

abbrev pub truth_after : CondTree → Option (List Lexeme) → List Lexeme → ReadResult CondTree
truth_after c (Some next) tokens = value_test_after c (after_keyword word.Not next) next
truth_after c None tokens = Ok (c, tokens)

unfoldable pub truth_test_at : CondTree → List Lexeme → ReadResult CondTree
truth_test_at c tokens = truth_after c (after_keyword word.Is tokens) tokens

-- what is one level deeper: a condition after `(`, and a test after NOT. Each is given the tokens
-- from that mark or word on, and those after it.
pub record NestedReaders : Type 0 where
  pub enclosed : List Lexeme → List Lexeme → ReadResult CondTree
  pub negated : List Lexeme → List Lexeme → ReadResult CondTree

abbrev pub primary_after : Schema → NestedReaders → Option (List Lexeme) → List Lexeme
    → ReadResult CondTree
primary_after schema inner (Some next) tokens = inner.enclosed tokens next
primary_after schema inner None tokens = predicate_at schema tokens

unfoldable pub primary_in : Schema → NestedReaders → List Lexeme → ReadResult CondTree
primary_in schema inner tokens = primary_after schema inner (after_mark mark.Open tokens) tokens

unfoldable pub test_in : Schema → NestedReaders → List Lexeme → ReadResult CondTree
test_in schema inner tokens = do
  c ← primary_in schema inner tokens
  truth_test_at c.0 c.1

abbrev pub factor_after : Schema → NestedReaders → Option (List Lexeme) → List Lexeme
    → ReadResult CondTree
factor_after schema inner (Some next) tokens = inner.negated tokens next
factor_after schema inner None tokens = test_in schema inner tokens

unfoldable pub factor_in : Schema → NestedReaders → List Lexeme → ReadResult CondTree
factor_in schema inner tokens = factor_after schema inner (after_keyword word.Not tokens) tokens

-- one part, or two or more that a word joins
abbrev pub series_after : Keyword → (CondTrees → CondTree) → (List Lexeme → ReadResult CondTree) →
    CondTree → Option (List Lexeme) → List Lexeme → ReadResult CondTree
series_after word join one first None tokens = Ok (first, tokens)
series_after word join one first (Some next) tokens = do
  parts ← with_front (first ∷ []) (read_many (length tokens) (after_keyword word) one tokens)
  Ok (join (trees_of parts.0), parts.1)

abbrev pub series_at : Keyword → (CondTrees → CondTree) → (List Lexeme → ReadResult CondTree) →
    List Lexeme → ReadResult CondTree
series_at word join one tokens = do
  first ← one tokens
  series_after word join one first.0 (after_keyword word first.1) first.1

-- the parts of either connective: a term's are factors, and a condition's are terms
unfoldable pub part_in : Schema → NestedReaders → Junction → List Lexeme → ReadResult CondTree
part_in schema inner junction.All = factor_in schema inner
part_in schema inner junction.Any = series_at word.And And (factor_in schema inner)

unfoldable pub joined_in : Schema → NestedReaders → Junction → List Lexeme → ReadResult CondTree
joined_in schema inner c tokens = series_at (word_of c) (join_of c) (part_in schema inner c) tokens

unfoldable pub condition_in : Schema → NestedReaders → List Lexeme → ReadResult CondTree
condition_in schema inner tokens = joined_in schema inner junction.Any tokens

abbrev pub more_parts_in : Schema → NestedReaders → Junction → List Lexeme
    → ReadResult (List CondTree)
more_parts_in schema inner c tokens = read_many (length tokens) (after_keyword (word_of c)) (part_in
    schema inner c) tokens

-- this many levels of nesting are left
unfoldable pub nested_readers : Schema → ℕ → NestedReaders
nested_readers schema zero = record {
  enclosed = λ tokens next. refuse Nesting tokens;
  negated = λ tokens next. refuse Nesting tokens;
}
nested_readers schema (suc n) = record {
  enclosed = λ tokens next. do
    c ← condition_in schema (nested_readers schema n) next
    rest ← mark_at mark.Close c.1
    Ok (c.0, rest);
  negated = λ tokens next. do
    c ← test_in schema (nested_readers schema n) next
    Ok (Not c.0, c.1);
}

-- the condition after WHERE, if there is one
abbrev pub after_where : Schema → Option (List Lexeme) → List Lexeme → ReadResult CondTree
after_where schema None tokens = Ok (Always, tokens)
after_where schema (Some rest) tokens =
    condition_in schema (nested_readers schema deepest_nesting) rest

unfoldable pub selection_at : Schema → List Lexeme → ReadResult CondTree
selection_at schema tokens = after_where schema (after_keyword word.Where tokens) tokens

-- the end of a statement, after an optional semicolon
abbrev pub nothing_left : List Lexeme → Result (Unit {0}) Halt
nothing_left [] = Ok tt
nothing_left (t ∷ tokens) = refuse Syntax (t ∷ tokens)

abbrev pub after_semicolon : Option (List Lexeme) → List Lexeme → List Lexeme
after_semicolon (Some rest) tokens = rest
after_semicolon None tokens = tokens

unfoldable pub end_at : List Lexeme → Result (Unit {0}) Halt
end_at tokens = nothing_left (after_semicolon (after_mark mark.Semicolon tokens) tokens)

-- the aggregates, by their words
abbrev pub aggregate_after : Option (List Lexeme) → Option (List Lexeme) → Option (List Lexeme)
    → Option (List Lexeme) → Option (Aggregate × List Lexeme)
aggregate_after (Some rest) sum min max = Some (aggregate.Count, rest)
aggregate_after None (Some rest) min max = Some (aggregate.Sum, rest)
aggregate_after None None (Some rest) max = Some (aggregate.Min, rest)
aggregate_after None None None (Some rest) = Some (aggregate.Max, rest)
aggregate_after None None None None = None

unfoldable pub after_aggregate : List Lexeme → Option (Aggregate × List Lexeme)
after_aggregate tokens = aggregate_after (after_keyword word.Count tokens)
    (after_keyword word.Sum tokens)
    (after_keyword word.Min tokens) (after_keyword word.Max tokens)

abbrev pub column_of : Schema → Aggregate → List Lexeme → ReadResult Item
column_of schema kind tokens = do
  column ← column_at schema tokens
  Ok (of_column kind column.0, column.1)

abbrev pub count_item : Schema → Option (List Lexeme) → List Lexeme → ReadResult Item
count_item schema (Some rest) tokens = Ok (CountAll, rest)
count_item schema None tokens = column_of schema aggregate.Count tokens

unfoldable pub aggregated_at : Schema → Aggregate → List Lexeme → ReadResult Item
aggregated_at schema aggregate.Count tokens = count_item schema (after_mark mark.Star tokens) tokens
aggregated_at schema kind tokens = column_of schema kind tokens

abbrev pub plain_item : Schema → List Lexeme → ReadResult Item
plain_item schema tokens = do
  column ← column_at schema tokens
  Ok (Plain column.0, column.1)

abbrev pub argument_at : Schema → Aggregate → List Lexeme → ReadResult Item
argument_at schema kind tokens = do
  rest ← mark_at mark.Open tokens
  item ← aggregated_at schema kind rest
  rest ← mark_at mark.Close item.1
  Ok (item.0, rest)

abbrev pub aggregate_item : Schema → Option (Aggregate × List Lexeme) → List Lexeme
    → ReadResult Item
aggregate_item schema None tokens = refuse Syntax tokens
aggregate_item schema (Some found) tokens = argument_at schema found.0 found.1

unfoldable pub item_at : Schema → List Lexeme → ReadResult Item
item_at schema tokens = if begins_with_name tokens then plain_item schema tokens
    else aggregate_item schema
    (after_aggregate tokens) tokens

-- An item of the other kind is rejected at its first token, which determines its kind; a column
-- that isn't the schema's is the earlier error.
abbrev pub mixed_name : Schema → List Lexeme → Result (Unit {0}) Halt
mixed_name schema tokens = do
  column ← column_at schema tokens
  refuse MixedItems tokens

abbrev pub mixed_aggregate : Option (Aggregate × List Lexeme) → List Lexeme → Result (Unit {0}) Halt
mixed_aggregate None tokens = Ok tt
mixed_aggregate (Some found) tokens = refuse MixedItems tokens

unfoldable pub of_one_kind : Schema → Bool → List Lexeme → Result (Unit {0}) Halt
of_one_kind schema true tokens = if begins_with_name tokens then Ok tt else mixed_aggregate
    (after_aggregate tokens) tokens
of_one_kind schema false tokens = if begins_with_name tokens then mixed_name schema tokens
    else Ok tt

unfoldable pub next_item_at : Schema → Bool → List Lexeme → ReadResult Item
next_item_at schema are_columns tokens = do
  same ← of_one_kind schema are_columns tokens
  item_at schema tokens

abbrev pub more_items : Schema → Bool → List Lexeme → ReadResult (List Item)
more_items schema are_columns tokens = read_many (length tokens) (after_mark mark.Comma)
    (next_item_at schema are_columns) tokens

abbrev pub items_after : Schema → Option (List Lexeme) → List Lexeme → ReadResult (List Item)
items_after schema (Some rest) tokens = Ok (every_column schema.columns.items, rest)
items_after schema None tokens = do
  first ← item_at schema tokens
  with_front (first.0 ∷ []) (more_items schema (begins_with_name tokens) first.1)

unfoldable pub items_at : Schema → List Lexeme → ReadResult (List Item)
items_at schema tokens = items_after schema (after_mark mark.Star tokens) tokens

-- FROM, the table, and the condition
unfoldable pub table_expression_at : Schema → List Lexeme → ReadResult CondTree
table_expression_at schema tokens = do
  rest ← keyword_at word.From tokens
  rest ← table_at schema rest
  selection_at schema rest

unfoldable pub statement_at : Schema → List Lexeme → Result QueryShape Halt
statement_at schema tokens = do
  rest ← keyword_at word.Select tokens
  items ← items_at schema rest
  c ← table_expression_at schema items.1
  ended ← end_at c.1
  Ok (record { items = items.0; cond = c.0 })
