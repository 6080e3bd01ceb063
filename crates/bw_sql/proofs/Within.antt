-- What a query that is spelled names, and that it is whole.
use Rattle.std.proofs.Common.{◌≡◌, ◌≤◌, ◌+◌, ℕ, zero, suc, Bool, true, false, nat_lt, List, [], ◌∷◌}
use Rattle.std.proofs.Common.{map, length, vec_len, Result, Ok, Err, IfOk, refl, ap, subst, arith}
use Rattle.std.specs.List.{list_all, range_with_len}
use Rattle.std.proofs.lemmas.Bool.{and_from, le-leb, lt-ltb}
use Rattle.std.proofs.lemmas.List.FromFn.{length-map-range_with_len}
use Rattle.bw_model.specs.declared.column.Column.{Column}
use Rattle.bw_model.specs.declared.cond.Operand.{Operand}
use Rattle.bw_model.specs.declared.fault.Fault.{Fault}
use Rattle.bw_model.specs.declared.query.Item.{Item}
use Rattle.bw_model.specs.declared.query.Item.TheVariants.{Plain}
use Rattle.bw_model.specs.declared.query.Query.{Query}
use Rattle.bw_model.specs.declared.schema.Schema.{Schema}
use Rattle.bw_model.specs.Column.{column_named}
use Rattle.bw_model.specs.Cond.{is_within}
use Rattle.bw_model.specs.CondTree.{CondTree, And, trees_of, tree_within, trees_within}
use Rattle.bw_model.specs.CondTree.{is_whole_tree, are_whole_trees, count_of}
use Rattle.bw_model.specs.Total.{item_within}
use Rattle.bw_model.proofs.NameLemmas.{named_column_is_there}
use Rattle.bw_model.specs.declared.junction.Junction.{Junction}
use Rattle.bw_model.specs.declared.junction.Junction.TheVariants as junction
use Rattle.bw_sql.specs.declared.items.Aggregate.TheVariants as kind
use Rattle.bw_sql.specs.QueryShape.{QueryShape, query_shape}
use Rattle.bw_sql.specs.Demand.{NamesColumn, OfOneKind, column_number, column_or_first, is_met}
use Rattle.bw_sql.specs.Demand.{meets}
use Rattle.bw_sql.specs.Grammar.{OperandIs, CommaList, RangeIs, ComparedIs, JoinedIs, MoreParts}
use Rattle.bw_sql.specs.Grammar.{PartIs, FactorIs, TestIs, PrimaryIs, ItemIs, NextItemIs, ItemsAre}
use Rattle.bw_sql.specs.Grammar.{SelectionIs, IsQuery, fold_operands, null, column, no_more}
use Rattle.bw_sql.specs.Grammar.{one_more, between, among, compared, comparison, range, not_range}
use Rattle.bw_sql.specs.Grammar.{is_null, is_not_null, parts, last_part, next_part, factor, term}
use Rattle.bw_sql.specs.Grammar.{test, not_test, tested, untested, is, is_not, predicate, bracket}
use Rattle.bw_sql.specs.Grammar.{plain, count_all, aggregate, next_item, star, items, all_rows}
use Rattle.bw_sql.specs.Grammar.{rows_where, statement}
use Rattle.bw_sql.specs.Items.{AreOfOneKind, is_of_kind, are_of_kind}
use Rattle.bw_sql.specs.Statement.{Parses, tokens_of}
use Rattle.bw_sql.specs.Token.{Lexeme}
use Rattle.bw_sql.specs.Words.{join_of}
use Rattle.bw_sql.proofs.Cases.{option_cases}

-- a tree names the first columns, this many, alone, and is whole
abbrev Good : ℕ → CondTree → Type 0
Good columns c = (tree_within columns c ≡ true) × (is_whole_tree c ≡ true)

abbrev AreGood : ℕ → List CondTree → Type 0
AreGood columns cs = (trees_within columns (trees_of cs) ≡ true) × (are_whole_trees (trees_of cs) ≡ true)

more_good : (columns : ℕ) (c : CondTree) (cs : List CondTree) → Good columns c → AreGood columns cs → AreGood columns (c ∷ cs)
more_good columns c cs g gs = (and_from _ _ g.0 gs.0, and_from _ _ g.1 gs.1)

several_good : (columns : ℕ) (c d : CondTree) (ds : List CondTree) → Good columns c → AreGood columns (d ∷ ds) →
    Good columns (And (trees_of (c ∷ d ∷ ds)))
several_good columns c d ds g gs =
    let all = more_good columns c (d ∷ ds) g gs in
    (all.0, and_from _ _ (le-leb 2 (count_of (trees_of (c ∷ d ∷ ds))) (omega arith)) all.1)

joined_good : (columns : ℕ) (by : Junction) (c : CondTree) (cs : List CondTree) → Good columns c → AreGood columns cs →
    Good columns (fold_operands (join_of by) c cs)
joined_good columns by c [] g gs = g
joined_good columns junction.All c (d ∷ ds) g gs = several_good columns c d ds g gs
joined_good columns _ c (d ∷ ds) g gs = several_good columns c d ds g gs

-- every column is a column of the schema
every_within : (columns a n : ℕ) → a + n ≤ columns → list_all (item_within columns) (map Plain (range_with_len a n)) ≡ true
every_within columns a zero h = refl
every_within columns a (suc n) h = and_from _ _ (lt-ltb a columns (omega arith)) (every_within columns (a + 1) n (omega arith))

every_plain : (a n : ℕ) → are_of_kind true (map Plain (range_with_len a n)) ≡ true
every_plain a zero = refl
every_plain a (suc n) = and_from _ _ refl (every_plain (a + 1) n)

kind_is : (schema : Schema) (first kind : Bool) → is_met schema (OfOneKind first kind) ≡ true → kind ≡ first
unfolding meets
kind_is schema true kind m = m
kind_is schema false true m = cc
kind_is schema false false m = refl

commas_all : {A : Type 0} {Is : List Lexeme → List Lexeme → A → Type 0} (p : A → Bool) →
    ((tokens rest : List Lexeme) (x : A) → Is tokens rest x → p x ≡ true) → {tokens rest : List Lexeme} {xs : List A} →
    CommaList Is tokens rest xs → list_all p xs ≡ true
commas_all p h no_more = refl
commas_all p h (one_more x xs) = and_from _ _ (h _ _ _ x) (commas_all p h xs)

module _ (schema : Schema) where
  abbrev cs : List Column
  cs = schema.columns.items

  abbrev n : ℕ
  n = length schema.columns.items

  column_within : (text : List ℕ) → is_met schema (NamesColumn text) ≡ true → nat_lt (column_number cs text) n ≡ true
  unfolding meets
  column_within text m = option_cases (column_named cs text) (λ e. let none : false ≡ true = rw e at m in cc)
      (λ i e. rw (ap column_or_first e) (named_column_is_there cs text i e))

  operand_within : {tokens rest : List Lexeme} {x : Operand} → OperandIs cs (is_met schema) tokens rest x → is_within n x ≡ true
  operand_within null = refl
  operand_within (column m) = column_within _ m
  operand_within _ = refl

  range_good : {tokens rest : List Lexeme} {x : Operand} {c : CondTree} → is_within n x ≡ true →
      RangeIs cs (is_met schema) x tokens rest c → Good n c
  range_good h (between y z) = (rw (h, operand_within y, operand_within z) refl, refl)
  range_good h (among y ys) = (rw (h, operand_within y, commas_all (is_within n) (λ tokens rest x p. operand_within p) ys) refl, le-leb 1 _ (omega arith))

  compared_good : {tokens rest : List Lexeme} {x : Operand} {c : CondTree} → is_within n x ≡ true →
      ComparedIs cs (is_met schema) x tokens rest c → Good n c
  compared_good h (comparison y) = (rw (h, operand_within y) refl, refl)
  compared_good h (range y) = range_good h y
  compared_good h (not_range y) = range_good h y
  compared_good h is_null = (h, refl)
  compared_good h is_not_null = (h, refl)

  mutual
    parts_good : {by : Junction} {depth : ℕ} {tokens rest : List Lexeme} {c : CondTree} →
        JoinedIs cs (is_met schema) by depth tokens rest c → Good n c
    parts_good (parts {by = by} {c = c} {cs = more} p ps) = joined_good n by c more (part_good p) (more_parts_good ps)

    more_parts_good : {by : Junction} {depth : ℕ} {tokens rest : List Lexeme} {more : List CondTree} →
        MoreParts cs (is_met schema) by depth tokens rest more → AreGood n more
    more_parts_good last_part = (refl, refl)
    more_parts_good (next_part {c = c} {cs = more} p ps) = more_good n c more (part_good p) (more_parts_good ps)

    part_good : {by : Junction} {depth : ℕ} {tokens rest : List Lexeme} {c : CondTree} →
        PartIs cs (is_met schema) by depth tokens rest c → Good n c
    part_good (factor p) = factor_good p
    part_good (term p) = parts_good p

    factor_good : {depth : ℕ} {tokens rest : List Lexeme} {c : CondTree} →
        FactorIs cs (is_met schema) depth tokens rest c → Good n c
    factor_good (test p) = test_good p
    factor_good (not_test m p) = test_good p

    test_good : {depth : ℕ} {tokens rest : List Lexeme} {c : CondTree} → TestIs cs (is_met schema) depth tokens rest c → Good n c
    test_good (tested p untested) = primary_good p
    test_good (tested p (is t)) = primary_good p
    test_good (tested p (is_not t)) = primary_good p

    primary_good : {depth : ℕ} {tokens rest : List Lexeme} {c : CondTree} →
        PrimaryIs cs (is_met schema) depth tokens rest c → Good n c
    primary_good (predicate (compared x p)) = compared_good (operand_within x) p
    primary_good (bracket m p) = parts_good p

  selection_good : {tokens rest : List Lexeme} {c : CondTree} → SelectionIs cs (is_met schema) tokens rest c → Good n c
  selection_good all_rows = (refl, refl)
  selection_good (rows_where p) = parts_good p

  item_good : {kind : Bool} {tokens rest : List Lexeme} {item : Item} →
      ItemIs cs (is_met schema) kind tokens rest item → (item_within n item ≡ true) × (is_of_kind kind item ≡ true)
  item_good (plain m) = (column_within _ m, refl)
  item_good count_all = (refl, refl)
  item_good (aggregate kind.Count m) = (column_within _ m, refl)
  item_good (aggregate of m) = (column_within _ m, refl)

  next_good : {first : Bool} {tokens rest : List Lexeme} {item : Item} → NextItemIs cs (is_met schema) first tokens rest item →
      (item_within n item ≡ true) × (is_of_kind first item ≡ true)
  next_good {first = first} {item = item} (next_item {other = kind} m p) =
      let g = item_good p in (g.0, subst (λ k. is_of_kind k item ≡ true) (kind_is schema first kind m) g.1)

  items_good : {tokens rest : List Lexeme} {items : List Item} → ItemsAre cs (is_met schema) tokens rest items →
      (1 ≤ length items) × (list_all (item_within n) items ≡ true) × AreOfOneKind items
  items_good star =
      (omega (arith, length-map-range_with_len Plain 0 n, schema.inhabited), every_within n 0 n (omega arith), (true, every_plain 0 n))
  items_good (items {first = first} p ps) =
      let g = item_good p in (
        omega arith,
        and_from _ _ g.0 (commas_all (item_within n) (λ tokens rest x q. (next_good q).0) ps),
        (first, and_from _ _ g.1 (commas_all (is_of_kind first) (λ tokens rest x q. (next_good q).1) ps)),
      )

-- what a query that is spelled names, and of what kinds its items are
pub record GoodQuery (columns : ℕ) (query : QueryShape) : Type 0 where
  pub within : tree_within columns query.cond ≡ true
  pub whole : is_whole_tree query.cond ≡ true
  pub items : list_all (item_within columns) query.items ≡ true
  pub nonempty : 1 ≤ length query.items
  pub kinds : AreOfOneKind query.items

pub query_good : (schema : Schema) (tokens : List Lexeme) (query : QueryShape) → IsQuery schema tokens query →
    GoodQuery (vec_len schema.columns) query
query_good schema tokens query (statement list m selection end) =
    let xs = items_good schema list in
    let c = selection_good schema selection in
    let columns : length schema.columns.items ≡ vec_len schema.columns = omega (arith, schema.columns.ok.0) in
    subst (λ k. GoodQuery k query) columns (record { within = c.0; whole = c.1; items = xs.1; nonempty = xs.0; kinds = xs.2 })

-- so it is with the query that a text is read as
pub if_good : (schema : Schema) (text : List ℕ) (result : Result Query Fault) (P : Query → Type 0) → Parses schema text result →
    ((query : Query) → GoodQuery (vec_len schema.columns) (query_shape query) → P query) → IfOk result P
if_good schema text (Ok query) P spells then = then query (query_good schema (tokens_of spells.tokens) (query_shape query) spells.spelled)
if_good schema text (Err fault) P spells then = tt
