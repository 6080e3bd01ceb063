-- What the grammar spells is read, unless a demand that isn't met was let pass.
use Rattle.std.proofs.Common.{◌≡◌, ℕ, ℤ, ◌^◌, nat_le, nat_lt, zero, suc, ◌+◌, ◌≤◌, Bool, true}
use Rattle.std.proofs.Common.{false, List, ◌∷◌, length, Some, None, is_some, Result, Ok, Err, refl}
use Rattle.std.proofs.Common.{sym, ◌∙◌, ap, arith}
use Rattle.bw_model.specs.declared.column.Column.{Column}
use Rattle.bw_model.specs.declared.cond.Operand.{Operand}
use Rattle.bw_model.specs.declared.cond.Truth.{Truth}
use Rattle.bw_text.specs.declared.keyword.Keyword.TheVariants as word
use Rattle.bw_model.specs.declared.query.Item.{Item}
use Rattle.bw_model.specs.declared.schema.Schema.{Schema}
use Rattle.bw_text.specs.Number.{digits_value, number_of}
use Rattle.bw_model.specs.declared.junction.Junction.{Junction}
use Rattle.bw_model.specs.declared.junction.Junction.TheVariants as junction
use Rattle.bw_sql.specs.declared.items.Aggregate.{Aggregate}
use Rattle.bw_sql.specs.declared.items.Aggregate.TheVariants as kind
use Rattle.bw_sql.specs.declared.reader.Refusal.TheVariants.{UnknownColumn, Literal}
use Rattle.bw_sql.specs.declared.token.Mark.TheVariants as mark
use Rattle.bw_text.specs.Text.{same_text}
use Rattle.bw_sql.specs.QueryShape.{QueryShape}
use Rattle.bw_model.specs.CondTree.{CondTree}
use Rattle.bw_model.specs.Column.{column_named}
use Rattle.bw_sql.specs.Demand.{Demand, NamesTable, NamesColumn, Fits, OfOneKind, Depth}
use Rattle.bw_sql.specs.Demand.{column_number, column_or_first, is_met, meets, refusal, number_with_sign}
use Rattle.bw_sql.specs.Grammar.{TruthIs, OperandIs, CommaList, RangeIs, ComparedIs, JoinedIs}
use Rattle.bw_sql.specs.Grammar.{MoreParts, PartIs, FactorIs, TestIs, PrimaryIs, ItemIs, NextItemIs}
use Rattle.bw_sql.specs.Grammar.{ItemsAre, SelectionIs, EndIs, StatementIs, IsQuery, true_word}
use Rattle.bw_sql.specs.Grammar.{null, column, unsigned, plus, minus, no_more, one_more, between}
use Rattle.bw_sql.specs.Grammar.{among, compared, comparison, range, not_range, is_null}
use Rattle.bw_sql.specs.Grammar.{is_not_null, parts, last_part, next_part, factor, term, test}
use Rattle.bw_sql.specs.Grammar.{not_test, tested, untested, is, is_not, predicate, bracket, plain}
use Rattle.bw_sql.specs.Grammar.{count_all, aggregate, next_item, star, items, all_rows, rows_where}
use Rattle.bw_sql.specs.Grammar.{bare, statement}
use Rattle.bw_sql.specs.Limits.{deepest_nesting}
use Rattle.bw_sql.specs.Reading.{Halt, ◌>>=◌, ok_or_refuse, begins_with_name, after_keyword}
use Rattle.bw_sql.specs.Reading.{after_mark, keyword_at, mark_at, name_at, digits_at, sign_at}
use Rattle.bw_sql.specs.Reading.{literal_at, column_at, table_at, operand_at, read_many}
use Rattle.bw_sql.specs.Reading.{range_or_list_at, null_test_at, after_comparison, predicate_after}
use Rattle.bw_sql.specs.Reading.{predicate_at, truth_value_at, truth_test_at, primary_in, test_in}
use Rattle.bw_sql.specs.Reading.{factor_in, part_in, condition_in, joined_in, nested_readers}
use Rattle.bw_sql.specs.Reading.{selection_at, table_expression_at, end_at, after_aggregate}
use Rattle.bw_sql.specs.Reading.{aggregated_at, item_at, of_one_kind, next_item_at, items_at}
use Rattle.bw_sql.specs.Reading.{statement_at}
use Rattle.bw_sql.specs.Token.{Lexeme, Name, Reserved}
use Rattle.bw_sql.specs.Words.{word_of, aggregate_word, of_column}
use Rattle.bw_sql.proofs.Cases.{bool_cases, option_cases}
use Rattle.bw_sql.proofs.Runs.{level_runs, next_item_runs, operand_runs, part_runs, takes, too_deep}

-- What reading gives: what was spelled, or the rejection for a demand that isn't met and was let
-- pass.
pub data Outcome (schema : Schema) (met : Demand → Bool) {A : Type 0} (reading : Result A Halt) (x : A) : Type 0 where
  reads : reading ≡ Ok x → Outcome schema met reading x
  excused : (demand : Demand) (left : ℕ) → met demand ≡ true → is_met schema demand ≡ false →
      reading ≡ Err (record { why = refusal demand; left = left }) → Outcome schema met reading x

-- the number of digits that fit is the one that they spell
pub fitting : (is_negative : Bool) (digits : List ℕ) (n : ℤ) → number_of is_negative digits ≡ Some n →
    n ≡ number_with_sign is_negative digits
unfolding number_of
fitting true digits n e =
    bool_cases (nat_le (digits_value digits) (2 ^ 63)) (λ b. let f = rw b at e in cc) (λ b. let f = rw b at e in cc)
fitting false digits n e =
    bool_cases (nat_lt (digits_value digits) (2 ^ 63)) (λ b. let f = rw b at e in cc) (λ b. let f = rw b at e in cc)

-- After a test no IS comes, after a term no AND, and after a condition no OR.
abbrev PartEnds : Junction → List Lexeme → Type 0
PartEnds junction.All rest = after_keyword word.Is rest ≡ None
PartEnds junction.Any rest = (after_keyword word.Is rest ≡ None) × (after_keyword word.And rest ≡ None)

abbrev JoinedEnds : Junction → List Lexeme → Type 0
JoinedEnds by rest = PartEnds by rest × (after_keyword (word_of by) rest ≡ None)

-- a connective's word is found, and ends a part
word_comes : (by : Junction) (next : List Lexeme) →
    (after_keyword (word_of by) (Reserved (word_of by) ∷ next) ≡ Some next) × PartEnds by (Reserved (word_of by) ∷ next)
unfolding after_keyword
word_comes junction.All next = (refl, refl)
word_comes junction.Any next = (refl, (refl, refl))

aggregate_comes : (of : Aggregate) (next : List Lexeme) →
    after_aggregate (Reserved (aggregate_word of) ∷ next) ≡ Some (of, next)
unfolding after_aggregate after_keyword
aggregate_comes kind.Count next = refl
aggregate_comes _ next = refl

truth_read : {tokens rest : List Lexeme} {t : Truth} → TruthIs tokens rest t →
    (truth_value_at tokens ≡ Ok (t, rest)) × (after_keyword word.Not tokens ≡ None)
unfolding truth_value_at after_keyword
truth_read true_word = (refl, refl)
truth_read _ = (refl, refl)

module _ (schema : Schema) (met : Demand → Bool) where
  abbrev columns : List Column
  columns = schema.columns.items

  and_from : {A B : Type 0} {r : Result A Halt} {x : A} {y : B} (f : A → Result B Halt) →
      Outcome schema met r x → (r ≡ Ok x → Outcome schema met (f x) y) → Outcome schema met (r >>= f) y
  and_from f (reads e) o = rw e (o e)
  and_from f (excused d left m u e) o = excused d left m u (ap (λ r. r >>= f) e)

  and_then : {A B : Type 0} {r : Result A Halt} {x : A} {y : B} (f : A → Result B Halt) →
      Outcome schema met r x → Outcome schema met (f x) y → Outcome schema met (r >>= f) y
  and_then f o p = and_from f o (λ e. p)

  column_wanted : (text : List ℕ) (tokens : List Lexeme) → met (NamesColumn text) ≡ true →
      Outcome schema met (ok_or_refuse (column_named schema.columns.items text) UnknownColumn tokens) (column_number columns text)
  unfolding meets
  column_wanted text tokens m = option_cases (column_named columns text)
      (λ e. excused (NamesColumn text) (length tokens) m (ap is_some e) (ap (λ o. ok_or_refuse o UnknownColumn tokens) e))
      (λ n e. reads (ap (λ o. ok_or_refuse o UnknownColumn tokens) e ∙ ap Ok (sym (ap column_or_first e))))

  number_wanted : (is_negative : Bool) (digits : List ℕ) (tokens : List Lexeme) → met (Fits is_negative digits) ≡ true →
      Outcome schema met (ok_or_refuse (number_of is_negative digits) Literal tokens) (number_with_sign is_negative digits)
  unfolding meets
  number_wanted is_negative digits tokens m = option_cases (number_of is_negative digits)
      (λ e. excused (Fits is_negative digits) (length tokens) m (ap is_some e) (ap (λ o. ok_or_refuse o Literal tokens) e))
      (λ n e. reads (ap (λ o. ok_or_refuse o Literal tokens) e ∙ ap Ok (fitting is_negative digits n e)))

  operand_read : {tokens rest : List Lexeme} {x : Operand} → OperandIs columns met tokens rest x →
      Outcome schema met (operand_at schema tokens) (x, rest)
  unfolding operand_at after_keyword after_mark column_at name_at literal_at sign_at digits_at
  operand_read null = reads refl
  operand_read (column m) = and_then _ (and_then _ (column_wanted _ _ m) (reads refl)) (reads refl)
  operand_read (unsigned m) = and_then _ (and_then _ (number_wanted false _ _ m) (reads refl)) (reads refl)
  operand_read (plus m) = and_then _ (and_then _ (number_wanted false _ _ m) (reads refl)) (reads refl)
  operand_read (minus m) = and_then _ (and_then _ (number_wanted true _ _ m) (reads refl)) (reads refl)

  commas_read : {A : Type 0} {Is : List Lexeme → List Lexeme → A → Type 0} (one : List Lexeme → Result (A × List Lexeme) Halt) →
      ((tokens rest : List Lexeme) (x : A) → Is tokens rest x → Outcome schema met (one tokens) (x, rest)) →
      ((tokens rest : List Lexeme) (x : A) → one tokens ≡ Ok (x, rest) → length rest ≤ length tokens) →
      {tokens rest : List Lexeme} {xs : List A} → CommaList Is tokens rest xs → (n : ℕ) → length tokens ≤ n →
      after_mark mark.Comma rest ≡ None → Outcome schema met (read_many n (after_mark mark.Comma) one tokens) (xs, rest)
  unfolding read_many after_mark
  commas_read one reads_one takes no_more zero h e = reads refl
  commas_read one reads_one takes no_more (suc n) h e = rw e (reads refl)
  commas_read one reads_one takes (one_more x xs) zero h e = absurd (omega arith)
  commas_read one reads_one takes (one_more x xs) (suc n) h e = and_from _ (reads_one _ _ _ x)
      (λ f. and_then _ (commas_read one reads_one takes xs n (omega (arith, takes _ _ _ f)) e) (reads refl))

  range_read : {tokens rest : List Lexeme} {x : Operand} {c : CondTree} → RangeIs columns met x tokens rest c →
      Outcome schema met (range_or_list_at schema x tokens) (c, rest)
  unfolding range_or_list_at after_keyword after_mark keyword_at mark_at
  range_read (between y z) = and_then _ (operand_read y) (and_then _ (operand_read z) (reads refl))
  range_read (among {others = others} y ys) = and_then _ (and_then _ (operand_read y) (and_then _ (commas_read _ (λ tokens rest x p. operand_read p)
      (takes schema _ (operand_at schema) (operand_runs schema)) ys (length others) (omega arith) refl) (reads refl))) (reads refl)

  compared_read : {tokens rest : List Lexeme} {x : Operand} {c : CondTree} → ComparedIs columns met x tokens rest c →
      Outcome schema met (predicate_after schema x (after_comparison tokens) tokens) (c, rest)
  unfolding after_comparison after_keyword null_test_at keyword_at
  compared_read (comparison y) = and_then _ (operand_read y) (reads refl)
  compared_read (range (between y z)) = range_read (between y z)
  compared_read (range (among y ys)) = range_read (among y ys)
  compared_read (not_range y) = and_then _ (range_read y) (reads refl)
  compared_read is_null = reads refl
  compared_read is_not_null = reads refl

  -- an operand begins with no bracket and no NOT
  operand_begins : {tokens rest : List Lexeme} {x : Operand} → OperandIs columns met tokens rest x →
      (after_mark mark.Open tokens ≡ None) × (after_keyword word.Not tokens ≡ None)
  unfolding after_mark after_keyword
  operand_begins null = (refl, refl)
  operand_begins _ = (refl, refl)

  primary_begins : {depth : ℕ} {tokens rest : List Lexeme} {c : CondTree} →
      PrimaryIs columns met depth tokens rest c → after_keyword word.Not tokens ≡ None
  unfolding after_keyword
  primary_begins (predicate (compared x c)) = (operand_begins x).1
  primary_begins (bracket m c) = refl

  -- what may follow a part
  parts_begin : {by : Junction} {depth : ℕ} {tokens rest : List Lexeme} {cs : List CondTree} →
      MoreParts columns met by depth tokens rest cs → PartEnds by rest → PartEnds by tokens
  parts_begin last_part e = e
  parts_begin (next_part {by = by} {tokens = next} c cs) e = (word_comes by next).1

  mutual
    unfolding joined_in part_in condition_in factor_in test_in primary_in truth_test_at read_many after_keyword after_mark mark_at nested_readers meets predicate_at

    joined_read : {by : Junction} {depth : ℕ} {tokens rest : List Lexeme} {c : CondTree} →
        JoinedIs columns met by depth tokens rest c → (n : ℕ) → n + depth ≡ deepest_nesting → JoinedEnds by rest →
        Outcome schema met (joined_in schema (nested_readers schema n) by tokens) (c, rest)
    joined_read (parts c last_part) n h e = and_then _ (part_read c n h e.0) (rw e.1 (reads refl))
    joined_read (parts c (next_part {by = by} {tokens = next} d ds)) n h e =
        and_then _ (part_read c n h (word_comes by next).1) (rw (word_comes by next).0
        (and_then _ (and_then _ (parts_read (next_part d ds) n h (suc (length next)) (omega arith) e) (reads refl)) (reads refl)))

    parts_read : {by : Junction} {depth : ℕ} {tokens rest : List Lexeme} {cs : List CondTree} →
        MoreParts columns met by depth tokens rest cs → (n : ℕ) → n + depth ≡ deepest_nesting → (fuel : ℕ) →
        length tokens ≤ fuel → JoinedEnds by rest →
        Outcome schema met (read_many fuel (after_keyword (word_of by)) (part_in schema (nested_readers schema n) by) tokens) (cs, rest)
    parts_read last_part n h zero l e = reads refl
    parts_read last_part n h (suc fuel) l e = rw e.1 (reads refl)
    parts_read (next_part c cs) n h zero l e = absurd (omega arith)
    parts_read (next_part {by = by} {depth = depth} {tokens = next} c cs) n h (suc fuel) l e =
        let runs = part_runs schema n depth (level_runs schema n depth h) by in
        rw (word_comes by next).0 (and_from _ (part_read c n h (parts_begin cs e.0)) (λ f.
        let less = takes schema _ (part_in schema (nested_readers schema n) by) runs _ _ _ f in
        and_then _ (parts_read cs n h fuel (omega (arith, less)) e) (reads refl)))

    part_read : {by : Junction} {depth : ℕ} {tokens rest : List Lexeme} {c : CondTree} →
        PartIs columns met by depth tokens rest c → (n : ℕ) → n + depth ≡ deepest_nesting → PartEnds by rest →
        Outcome schema met (part_in schema (nested_readers schema n) by tokens) (c, rest)
    part_read (factor c) n h e = factor_read c n h e
    part_read (term c) n h e = joined_read c n h e

    factor_read : {depth : ℕ} {tokens rest : List Lexeme} {c : CondTree} → FactorIs columns met depth tokens rest c →
        (n : ℕ) → n + depth ≡ deepest_nesting → after_keyword word.Is rest ≡ None →
        Outcome schema met (factor_in schema (nested_readers schema n) tokens) (c, rest)
    factor_read (test (tested c t)) n h e = rw (primary_begins c) (test_read (tested c t) n h e)
    factor_read (not_test {depth = depth} {tokens = tokens} m c) zero h e =
        excused (Depth (suc depth)) (suc (length tokens)) m (too_deep depth h) refl
    factor_read (not_test m c) (suc n) h e = and_then _ (test_read c n (omega arith) e) (reads refl)

    test_read : {depth : ℕ} {tokens rest : List Lexeme} {c : CondTree} → TestIs columns met depth tokens rest c →
        (n : ℕ) → n + depth ≡ deepest_nesting → after_keyword word.Is rest ≡ None →
        Outcome schema met (test_in schema (nested_readers schema n) tokens) (c, rest)
    test_read (tested c untested) n h e = and_then _ (primary_read c n h) (rw e (reads refl))
    test_read (tested c (is t)) n h e = and_then _ (primary_read c n h) (rw ((truth_read t).1, (truth_read t).0) (reads refl))
    test_read (tested c (is_not t)) n h e = and_then _ (primary_read c n h) (rw (truth_read t).0 (reads refl))

    primary_read : {depth : ℕ} {tokens rest : List Lexeme} {c : CondTree} →
        PrimaryIs columns met depth tokens rest c → (n : ℕ) → n + depth ≡ deepest_nesting →
        Outcome schema met (primary_in schema (nested_readers schema n) tokens) (c, rest)
    primary_read (predicate (compared x c)) n h = rw (operand_begins x).0 (and_then _ (operand_read x) (compared_read c))
    primary_read (bracket {depth = depth} {tokens = tokens} m c) zero h =
        excused (Depth (suc depth)) (suc (length tokens)) m (too_deep depth h) refl
    primary_read (bracket m c) (suc n) h = and_then _ (joined_read c n (omega arith) ((refl, refl), refl)) (reads refl)

  aggregated_read : (of : Aggregate) (text : List ℕ) (rest : List Lexeme) → met (NamesColumn text) ≡ true →
      Outcome schema met (aggregated_at schema of (Name text ∷ rest)) (of_column of (column_number columns text), rest)
  unfolding aggregated_at column_at name_at after_mark
  aggregated_read kind.Count text rest m = and_then _ (and_then _ (column_wanted _ _ m) (reads refl)) (reads refl)
  aggregated_read _ text rest m = and_then _ (and_then _ (column_wanted _ _ m) (reads refl)) (reads refl)

  item_read : {kind : Bool} {tokens rest : List Lexeme} {item : Item} → ItemIs columns met kind tokens rest item →
      Outcome schema met (item_at schema tokens) (item, rest)
  unfolding item_at column_at name_at after_aggregate aggregated_at after_keyword after_mark mark_at
  item_read (plain m) = and_then _ (and_then _ (column_wanted _ _ m) (reads refl)) (reads refl)
  item_read count_all = reads refl
  item_read (aggregate of m) = rw (aggregate_comes of _) (and_then _ (aggregated_read of _ _ m) (reads refl))

  kind_read : {kind : Bool} {tokens rest : List Lexeme} {item : Item} (first : Bool) →
      met (OfOneKind first kind) ≡ true → ItemIs columns met kind tokens rest item →
      Outcome schema met (of_one_kind schema first tokens) tt
  unfolding of_one_kind column_at name_at after_aggregate after_keyword meets
  kind_read true m (plain p) = reads refl
  kind_read true m count_all = excused (OfOneKind true false) _ m refl refl
  kind_read true m (aggregate of p) = rw (aggregate_comes of _) (excused (OfOneKind true false) _ m refl refl)
  kind_read false m (plain p) = and_then _ (and_then _ (column_wanted _ _ p) (reads refl)) (excused (OfOneKind false true) _ m refl refl)
  kind_read false m count_all = reads refl
  kind_read false m (aggregate of p) = reads refl

  next_read : (first : Bool) (tokens rest : List Lexeme) (x : Item) → NextItemIs columns met first tokens rest x →
      Outcome schema met (next_item_at schema first tokens) (x, rest)
  unfolding next_item_at
  next_read first tokens rest x (next_item m p) = and_then _ (kind_read first m p) (item_read p)

  item_begins : {kind : Bool} {tokens rest : List Lexeme} {item : Item} → ItemIs columns met kind tokens rest item →
      (after_mark mark.Star tokens ≡ None) × (begins_with_name tokens ≡ kind)
  unfolding after_mark
  item_begins (plain m) = (refl, refl)
  item_begins _ = (refl, refl)

  list_read : {tokens rest : List Lexeme} {xs : List Item} → ItemsAre columns met tokens rest xs →
      after_mark mark.Comma rest ≡ None → Outcome schema met (items_at schema tokens) (xs, rest)
  unfolding items_at after_mark
  list_read star e = reads refl
  list_read (items {first = first} {others = others} x xs) e = rw ((item_begins x).0, (item_begins x).1) (and_then _ (item_read x)
      (and_then _ (commas_read _ (next_read first) (takes schema _ (next_item_at schema first) (next_item_runs schema first)) xs (length others) (omega arith) e) (reads refl)))

  end_read : {last : List Lexeme} → EndIs last →
      (end_at last ≡ Ok tt) × (after_keyword word.Where last ≡ None) × JoinedEnds junction.Any last
  unfolding end_at after_keyword after_mark
  end_read bare = (refl, refl, ((refl, refl), refl))
  end_read _ = (refl, refl, ((refl, refl), refl))

  selection_read : {tokens last : List Lexeme} {c : CondTree} → SelectionIs columns met tokens last c → EndIs last →
      Outcome schema met (selection_at schema tokens) (c, last)
  unfolding selection_at after_keyword condition_in
  selection_read all_rows e = rw (end_read e).1 (reads refl)
  selection_read (rows_where c) e = joined_read c deepest_nesting refl (end_read e).2

  table_read : {table : List ℕ} {rest : List Lexeme} → met (NamesTable table) ≡ true →
      Outcome schema met (table_at schema (Name table ∷ rest)) rest
  unfolding table_at name_at meets
  table_read {table = table} {rest = rest} m = bool_cases (same_text schema.name table) (λ e. rw e (reads refl))
      (λ e. excused (NamesTable table) (suc (length rest)) m e (rw e refl))

  pub statement_read : {tokens : List Lexeme} {q : QueryShape} → StatementIs columns met tokens q →
      Outcome schema met (statement_at schema tokens) q
  unfolding statement_at table_expression_at keyword_at after_keyword after_mark
  statement_read (statement xs m c e) =
      and_then _ (list_read xs refl) (and_then _ (and_then _ (table_read m) (selection_read c e)) (rw (end_read e).0 (reads refl)))

-- what is spelled with all demands met is read
pub query_read : (schema : Schema) (tokens : List Lexeme) (q : QueryShape) → IsQuery schema tokens q →
    statement_at schema tokens ≡ Ok q
query_read schema tokens q spelled = go (statement_read schema (is_met schema) spelled) where
  go : Outcome schema (is_met schema) (statement_at schema tokens) q → statement_at schema tokens ≡ Ok q
  go (reads e) = e
  go (excused d left m u e) = cc
