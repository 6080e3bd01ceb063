-- What the machine has read can be completed to a statement.
use Rattle.std.proofs.Common.{◌≡◌, ℕ, suc, ◌≤◌, Bool, true, false, List, [], ◌∷◌, ◌++◌, length}
use Rattle.std.proofs.Common.{is_some, Some, None, if◌then◌else◌, Result, Ok, refl, sym, subst}
use Rattle.std.proofs.Common.{arith, append-nil, position}
use Rattle.std.proofs.lemmas.Bool.{and_parts, lt-ltb}
use Rattle.bw_model.specs.declared.column.Column.{Column}
use Rattle.bw_model.specs.declared.cond.Operand.{Operand}
use Rattle.bw_model.specs.declared.cond.Operand.TheVariants.{Null}
use Rattle.bw_model.specs.declared.cond.Truth.{Truth}
use Rattle.bw_model.specs.declared.cond.Truth.TheVariants.{Yes}
use Rattle.bw_text.specs.declared.keyword.Keyword.{Keyword}
use Rattle.bw_text.specs.declared.keyword.Keyword.TheVariants as word
use Rattle.bw_model.specs.declared.query.Item.{Item}
use Rattle.bw_model.specs.declared.query.Item.TheVariants.{CountAll}
use Rattle.bw_model.specs.declared.schema.Schema.{Schema}
use Rattle.bw_text.specs.Number.{digits_value, number_of}
use Rattle.bw_text.specs.Text.{same_text}
use Rattle.bw_text.proofs.WordSpelling.{same_as_itself}
use Rattle.bw_model.specs.declared.junction.Junction.TheVariants as junction
use Rattle.bw_sql.specs.declared.items.Aggregate.{Aggregate}
use Rattle.bw_sql.specs.declared.items.Aggregate.TheVariants as aggregate
use Rattle.bw_sql.specs.declared.reader.Refusal.{Refusal}
use Rattle.bw_sql.specs.declared.token.Mark.TheVariants as mark
use Rattle.bw_sql.specs.QueryShape.{QueryShape}
use Rattle.bw_model.specs.CondTree.{CondTree, Always, Cmp, Between, IsNull, Test, Not, Among}
use Rattle.bw_model.specs.Column.{column_named}
use Rattle.bw_sql.specs.Demand.{Demand, NamesTable, NamesColumn, Fits, OfOneKind, Depth}
use Rattle.bw_sql.specs.Demand.{every_column, is_met, meets}
use Rattle.bw_sql.specs.Frontier.{Viable}
use Rattle.bw_sql.specs.Grammar.{TruthIs, OperandIs, CommaList, RangeIs, ComparedIs, TestedIs}
use Rattle.bw_sql.specs.Grammar.{MoreParts, FactorIs, PrimaryIs, ItemIs, NextItemIs, ItemsAre}
use Rattle.bw_sql.specs.Grammar.{SelectionIs, EndIs, StatementIs, true_word, false_word}
use Rattle.bw_sql.specs.Grammar.{unknown_word, null, column, unsigned, plus, minus, no_more}
use Rattle.bw_sql.specs.Grammar.{one_more, between, among, compared, comparison, range, not_range}
use Rattle.bw_sql.specs.Grammar.{is_null, is_not_null, parts, last_part, next_part, factor, term}
use Rattle.bw_sql.specs.Grammar.{test, not_test, tested, untested, is, is_not, predicate, bracket}
use Rattle.bw_sql.specs.Grammar.{plain, count_all, aggregate, next_item, star, items, all_rows}
use Rattle.bw_sql.specs.Grammar.{rows_where, bare, semicolon, statement}
use Rattle.bw_sql.specs.Reading.{same_keyword}
use Rattle.bw_sql.specs.Token.{Lexeme, Name, Digits, Reserved, Compare, Punct}
use Rattle.bw_sql.specs.Words.{aggregate_word}
use Rattle.bw_sql.proofs.Spellings.{word_same}
use Rattle.bw_sql.proofs.Cases.{bool_cases}
use Rattle.bw_sql.proofs.Machine.{Symbol, AWord, Opening, Closing, AnOperand, SignedDigits}
use Rattle.bw_sql.proofs.Machine.{PredicateTail, RangeTail, NullTail, NotNullTail, CommaTail}
use Rattle.bw_sql.proofs.Machine.{AFactor, APrimary, TestTail, TruthTail, NotTruthTail, PartTail}
use Rattle.bw_sql.proofs.Machine.{ItemList, AnItem, AnArgument, ATable, ASelection, AnEnd}
use Rattle.bw_sql.proofs.Machine.{AStatement, Choice, Ask, Take, Pass, Stop, of_aggregate}
use Rattle.bw_sql.proofs.Machine.{in_brackets, operand_choice, primary_choice, range_choice}
use Rattle.bw_sql.proofs.Machine.{truth_choice, aggregate_choice, decide, may_end, all_may_end, ask}
use Rattle.bw_sql.proofs.Machine.{chosen, step}

-- a token, and the rest
pub data IsToken (t : Lexeme) : List Lexeme → List Lexeme → Type 0 where
  here_is : {rest : List Lexeme} → IsToken t (t ∷ rest) rest

module _ (columns : List Column) (met : Demand → Bool) where
  -- the tokens that a symbol stands for, up to the rest: with what stands before it they make a
  -- whole
  abbrev pub Means : Symbol → List Lexeme → List Lexeme → Type 0
  Means (AWord w) tokens rest = IsToken (Reserved w) tokens rest
  Means Opening tokens rest = IsToken (Punct mark.Open) tokens rest
  Means Closing tokens rest = IsToken (Punct mark.Close) tokens rest
  Means AnOperand tokens rest = (x : Operand) × OperandIs columns met tokens rest x
  Means (SignedDigits is_negative) tokens rest =
      (digits : List ℕ) × (met (Fits is_negative digits) ≡ true) × IsToken (Digits digits) tokens rest
  Means PredicateTail tokens rest = (x : Operand) → (c : CondTree) × ComparedIs columns met x tokens rest c
  Means RangeTail tokens rest = (x : Operand) → (c : CondTree) × RangeIs columns met x tokens rest c
  Means NullTail tokens rest = (x : Operand) → (c : CondTree) × ComparedIs columns met x (Reserved word.Is ∷ tokens) rest c
  Means NotNullTail tokens rest =
      (x : Operand) → (c : CondTree) × ComparedIs columns met x (Reserved word.Is ∷ Reserved word.Not ∷ tokens) rest c
  Means (CommaTail None) tokens rest = (xs : List Operand) × CommaList (OperandIs columns met) tokens rest xs
  Means (AFactor depth) tokens rest = (c : CondTree) × FactorIs columns met depth tokens rest c
  Means (APrimary depth) tokens rest = (c : CondTree) × PrimaryIs columns met depth tokens rest c
  Means TestTail tokens rest = (c : CondTree) → (d : CondTree) × TestedIs c tokens rest d
  Means TruthTail tokens rest = (c : CondTree) → (d : CondTree) × TestedIs c (Reserved word.Is ∷ tokens) rest d
  Means NotTruthTail tokens rest =
      (c : CondTree) → (d : CondTree) × TestedIs c (Reserved word.Is ∷ Reserved word.Not ∷ tokens) rest d
  Means (PartTail by depth) tokens rest = (cs : List CondTree) × MoreParts columns met by depth tokens rest cs
  Means ItemList tokens rest = (xs : List Item) × ItemsAre columns met tokens rest xs
  Means (CommaTail (Some first)) tokens rest = (xs : List Item) × CommaList (NextItemIs columns met first) tokens rest xs
  Means (AnItem first) tokens rest = (item : Item) × NextItemIs columns met first tokens rest item
  Means (AnArgument kind) tokens rest = (after : List Lexeme) → IsToken (Punct mark.Close) rest after →
      (item : Item) × ItemIs columns met false (Reserved (aggregate_word kind) ∷ Punct mark.Open ∷ tokens) after item
  Means ATable tokens rest = (text : List ℕ) × (met (NamesTable text) ≡ true) × IsToken (Name text) tokens rest
  Means ASelection tokens rest = (c : CondTree) × SelectionIs columns met tokens rest c
  Means AnEnd tokens rest = rest ≡ [] → EndIs tokens
  Means AStatement tokens rest = rest ≡ [] → (q : QueryShape) × StatementIs columns met tokens q

  abbrev pub Sequence : List Symbol → List Lexeme → List Lexeme → Type 0
  Sequence [] tokens rest = tokens ≡ rest
  Sequence (s ∷ stack) tokens rest = (middle : List Lexeme) × Means s tokens middle × Sequence stack middle rest

  -- what the symbols stand for from these tokens on leads to a fact of the rest
  abbrev pub Leads : List Symbol → List Lexeme → (List Lexeme → Type 0) → Type 0
  Leads [] tokens P = P tokens
  Leads (s ∷ symbols) tokens P = (middle : List Lexeme) → Means s tokens middle → Leads symbols middle P

  led : (symbols stack : List Symbol) (tokens rest : List Lexeme) (P : List Lexeme → Type 0) → Leads symbols tokens P →
      Sequence (symbols ++ stack) tokens rest → (middle : List Lexeme) × P middle × Sequence stack middle rest
  led [] stack tokens rest P leads q = (tokens, leads, q)
  led (s ∷ symbols) stack tokens rest P leads q = led symbols stack q.0 rest P (leads q.0 q.1) q.2

  abbrev pub AllMet : List Demand → Type 0
  AllMet [] = Unit {0}
  AllMet (d ∷ demands) = (met d ≡ true) × AllMet demands

  -- a choice does right by its symbol
  abbrev pub Fair : Symbol → Lexeme → Choice → Type 0
  Fair s t (Ask demands symbols) = AllMet demands → (more : List Lexeme) → Leads symbols more (Means s (t ∷ more))
  Fair s t Pass = (tokens : List Lexeme) → Means s tokens tokens
  Fair s t Stop = Unit {0}

  -- what a thing that begins with the token leads to
  abbrev Onto : {A : Type 0} → (List Lexeme → List Lexeme → A → Type 0) → Symbol → List Symbol → Lexeme → Type 0
  Onto {A = A} Is s after t =
      (more middle : List Lexeme) (x : A) → Is (t ∷ more) middle x → Leads after middle (Means s (t ∷ more))

  plus_fair : (s : Symbol) (after : List Symbol) → Onto (OperandIs columns met) s after (Punct mark.Plus) →
      Fair s (Punct mark.Plus) (Take (SignedDigits false ∷ after))
  plus_fair s after k m more middle (digits, fits, here_is) = k more middle _ (plus fits)

  minus_fair : (s : Symbol) (after : List Symbol) → Onto (OperandIs columns met) s after (Punct mark.Minus) →
      Fair s (Punct mark.Minus) (Take (SignedDigits true ∷ after))
  minus_fair s after k m more middle (digits, fits, here_is) = k more middle _ (minus fits)

  operand_fair : (s : Symbol) (after : List Symbol) (t : Lexeme) → Onto (OperandIs columns met) s after t →
      Fair s t (operand_choice after t)
  operand_fair s after (Reserved word.Null) k = λ m more. k more more Null null
  operand_fair s after (Name text) k = λ m more. k more more _ (column m.0)
  operand_fair s after (Digits digits) k = λ m more. k more more _ (unsigned m.0)
  operand_fair s after (Punct mark.Plus) k = plus_fair s after k
  operand_fair s after (Punct mark.Minus) k = minus_fair s after k
  operand_fair s after _ k = tt

  bracket_fair : (s : Symbol) (depth : ℕ) (after : List Symbol) → Onto (PrimaryIs columns met depth) s after (Punct mark.Open) →
      Fair s (Punct mark.Open) (Ask (Depth (suc depth) ∷ []) (in_brackets (suc depth) after))
  bracket_fair s depth after k m more a f b fs d ts rest here_is =
      k more rest _ (bracket m.0 (parts (term (parts (factor f.1) fs.1)) ts.1))

  primary_fair : (s : Symbol) (depth : ℕ) (after : List Symbol) (t : Lexeme) → Onto (PrimaryIs columns met depth) s after t →
      Fair s t (primary_choice depth after t)
  primary_fair s depth after (Punct mark.Open) k = bracket_fair s depth after k
  primary_fair s depth after t k =
      operand_fair s (PredicateTail ∷ after) t (λ more middle x o rest q. let p = q x in k more rest p.0 (predicate (compared o p.1)))

  aggregate_fair : (kind : Aggregate) (s : Symbol) (demands : List Demand) (after : List Symbol) →
      (AllMet demands → Onto (ItemIs columns met false) s after (Reserved (aggregate_word kind))) →
      Fair s (Reserved (aggregate_word kind)) (Ask demands (of_aggregate kind after))
  aggregate_fair kind s demands after k m more a here_is b given rest close = let p = given rest close in k m more rest p.0 p.1

  counted_fair : (kind : Aggregate) (text : List ℕ) (more : List Lexeme) → met (NamesColumn text) ≡ true →
      Means (AnArgument kind) (Name text ∷ more) more
  counted_fair kind text more m after here_is = (_, aggregate kind m)

  rows_fair : (more : List Lexeme) → Means (AnArgument aggregate.Count) (Punct mark.Star ∷ more) more
  rows_fair more after here_is = (CountAll, count_all)

  aggregates_fair : (s : Symbol) (demands : List Demand) (after : List Symbol) (t : Lexeme) →
      (AllMet demands → Onto (ItemIs columns met false) s after t) → Fair s t (aggregate_choice demands after t)
  aggregates_fair s demands after (Reserved word.Count) k = aggregate_fair aggregate.Count s demands after k
  aggregates_fair s demands after (Reserved word.Sum) k = aggregate_fair aggregate.Sum s demands after k
  aggregates_fair s demands after (Reserved word.Min) k = aggregate_fair aggregate.Min s demands after k
  aggregates_fair s demands after (Reserved word.Max) k = aggregate_fair aggregate.Max s demands after k
  aggregates_fair s demands after _ k = tt

  -- what a range leads to
  abbrev OfRange : Symbol → Lexeme → Type 0
  OfRange s t = (more rest : List Lexeme) → ((x : Operand) → (c : CondTree) × RangeIs columns met x (t ∷ more) rest c) →
      Means s (t ∷ more) rest

  between_fair : (s : Symbol) → OfRange s (Reserved word.Between) →
      Fair s (Reserved word.Between) (Take (AnOperand ∷ AWord word.And ∷ AnOperand ∷ []))
  between_fair s k m more a y b here_is rest z = k more rest (λ x. (Between x y.0 z.0, between y.1 z.1))

  in_fair : (s : Symbol) → OfRange s (Reserved word.In) →
      Fair s (Reserved word.In) (Take (Opening ∷ AnOperand ∷ CommaTail None ∷ Closing ∷ []))
  in_fair s k m more a here_is b y d ys rest here_is = k more rest (λ x. (Among x (y.0 ∷ ys.0), among y.1 ys.1))

  range_fair : (s : Symbol) (t : Lexeme) → OfRange s t → Fair s t (range_choice t)
  range_fair s (Reserved word.Between) k = between_fair s k
  range_fair s (Reserved word.In) k = in_fair s k
  range_fair s _ k = tt

  truth_fair : (s : Symbol) (t : Lexeme) → ((more : List Lexeme) (v : Truth) → TruthIs (t ∷ more) more v →
      Means s (t ∷ more) more) → Fair s t (truth_choice t)
  truth_fair s (Reserved word.True) k = λ m more. k more _ true_word
  truth_fair s (Reserved word.False) k = λ m more. k more _ false_word
  truth_fair s (Reserved word.Unknown) k = λ m more. k more _ unknown_word
  truth_fair s _ k = tt

  word_fair : (w found : Keyword) (b : Bool) → same_keyword found w ≡ b →
      Fair (AWord w) (Reserved found) (if b then Take [] else Stop)
  word_fair w found true e = λ m more. subst (λ v. IsToken (Reserved w) (Reserved v ∷ more) more) (sym (word_same found w e)) here_is
  word_fair w found false e = tt

  stated : Fair AStatement (Reserved word.Select) (Take (ItemList ∷ AWord word.From ∷ ATable ∷ ASelection ∷ AnEnd ∷ []))
  stated m more a xs b here_is d (text, k, here_is) e c rest end h =
      (record { items = xs.0; cond = c.0 }, statement xs.1 k c.1 (end h))

  fair : (s : Symbol) (t : Lexeme) → Fair s t (decide s t)
  unfolding decide
  fair (AWord w) (Reserved found) = word_fair w found (same_keyword found w) refl
  fair Opening (Punct mark.Open) = λ m more. here_is
  fair Closing (Punct mark.Close) = λ m more. here_is
  fair AnOperand t = operand_fair AnOperand [] t (λ more middle x o. (x, o))
  fair (SignedDigits is_negative) (Digits digits) = λ m more. (digits, m.0, here_is)
  fair PredicateTail (Compare op) = λ m more rest y x. (Cmp op x y.0, comparison y.1)
  fair PredicateTail (Reserved word.Is) = λ m more rest q. q
  fair PredicateTail (Reserved word.Not) = λ m more rest q x. let p = q x in (Not p.0, not_range p.1)
  fair PredicateTail t = range_fair PredicateTail t (λ more rest q x. let p = q x in (p.0, range p.1))
  fair RangeTail t = range_fair RangeTail t (λ more rest q. q)
  fair NullTail (Reserved word.Null) = λ m more x. (IsNull x, is_null)
  fair NullTail (Reserved word.Not) = λ m more rest q. q
  fair NotNullTail (Reserved word.Null) = λ m more x. (Not (IsNull x), is_not_null)
  fair (CommaTail None) (Punct mark.Comma) = λ m more a x b xs. (x.0 ∷ xs.0, one_more x.1 xs.1)
  fair (CommaTail None) t = λ tokens. ([], no_more)
  fair (AFactor depth) (Reserved word.Not) = λ m more a c rest q. let d = q c.0 in (Not d.0, not_test m.0 (tested c.1 d.1))
  fair (AFactor depth) t = primary_fair (AFactor depth) depth (TestTail ∷ []) t
      (λ more middle c p rest q. let d = q c in (d.0, test (tested p d.1)))
  fair (APrimary depth) t = primary_fair (APrimary depth) depth [] t (λ more middle c p. (c, p))
  fair TestTail (Reserved word.Is) = λ m more rest q. q
  fair TestTail t = λ tokens c. (c, untested)
  fair TruthTail (Reserved word.Not) = λ m more rest q. q
  fair TruthTail t = truth_fair TruthTail t (λ more v q c. (Test c v, is q))
  fair NotTruthTail t = truth_fair NotTruthTail t (λ more v q c. (Not (Test c v), is_not q))
  fair (PartTail junction.All depth) (Reserved word.And) = λ m more a c b cs. (c.0 ∷ cs.0, next_part (factor c.1) cs.1)
  fair (PartTail junction.Any depth) (Reserved word.Or) = λ m more a c b cs d ds.
      (_, next_part (term (parts (factor c.1) cs.1)) ds.1)
  fair (PartTail by depth) t = λ tokens. ([], last_part)
  fair ItemList (Punct mark.Star) = λ m more. (every_column columns, star)
  fair ItemList (Name text) = λ m more rest xs. (_, items (plain m.0) xs.1)
  fair ItemList t = aggregates_fair ItemList [] (CommaTail (Some false) ∷ []) t (λ m more middle item p rest xs. (_, items p xs.1))
  fair (CommaTail (Some first)) (Punct mark.Comma) = λ m more a x b xs. (x.0 ∷ xs.0, one_more x.1 xs.1)
  fair (CommaTail (Some first)) t = λ tokens. ([], no_more)
  fair (AnItem first) (Name text) = λ m more. (_, next_item m.1.0 (plain m.0))
  fair (AnItem first) t = aggregates_fair (AnItem first) (OfOneKind first false ∷ []) [] t
      (λ m more middle item p. (item, next_item m.0 p))
  fair (AnArgument aggregate.Count) (Punct mark.Star) = λ m more. rows_fair more
  fair (AnArgument kind) (Name text) = λ m more. counted_fair kind text more m.0
  fair ATable (Name text) = λ m more. (text, m.0, here_is)
  fair ASelection (Reserved word.Where) = λ m more a c b cs rest ds. (_, rows_where (parts (term (parts (factor c.1) cs.1)) ds.1))
  fair ASelection t = λ tokens. (Always, all_rows)
  fair AnEnd (Punct mark.Semicolon) = λ m more e. subst (λ t. EndIs (Punct mark.Semicolon ∷ t)) (sym e) semicolon
  fair AStatement (Reserved word.Select) = stated
  fair _ _ = tt

  asked_met : (demands : List Demand) (stack next : List Symbol) → ask met demands stack ≡ Ok next →
      AllMet demands × (stack ≡ next)
  asked_met [] stack next e = (tt, cc)
  asked_met (d ∷ demands) stack next e = bool_cases (met d)
      (λ m. let p = asked_met demands stack next (rw m at e) in ((m, p.0), p.1)) (λ u. let f = rw u at e in cc)

  choice_fair : (s : Symbol) (stack : List Symbol) (t : Lexeme) (next : List Symbol) (passed : Result (List Symbol) Refusal)
      (c : Choice) → Fair s t c → (more : List Lexeme) →
      (passed ≡ Ok next → Sequence stack (t ∷ more) []) →
      chosen met c stack passed ≡ Ok next → Sequence next more [] → Sequence (s ∷ stack) (t ∷ more) []
  choice_fair s stack t next passed (Ask demands symbols) f more onward e q =
      let p = asked_met demands (symbols ++ stack) next e in
      led symbols stack more [] (Means s (t ∷ more)) (f p.0 more) (subst (λ n. Sequence n more []) (sym p.1) q)
  choice_fair s stack t next passed Pass f more onward e q = (t ∷ more, f (t ∷ more), onward e)
  choice_fair s stack t next passed Stop f more onward e q = cc

  step_fair : (stack : List Symbol) (t : Lexeme) (next : List Symbol) (more : List Lexeme) → step met stack t ≡ Ok next →
      Sequence next more [] → Sequence stack (t ∷ more) []
  unfolding step
  step_fair [] t next more e q = cc
  step_fair (s ∷ stack) t next more e q = choice_fair s stack t next (step met stack t) (decide s t) (fair s t) more
      (λ e. step_fair stack t next more e q) e q

-- the machine reads these tokens from one stack to another
pub data Path (met : Demand → Bool) : List Symbol → List Lexeme → List Symbol → Type 0 where
  here : {stack : List Symbol} → Path met stack [] stack
  there : {stack next last : List Symbol} {t : Lexeme} {tokens : List Lexeme} → step met stack t ≡ Ok next →
      Path met next tokens last → Path met stack (t ∷ tokens) last

path_fair : (columns : List Column) (met : Demand → Bool) {stack last : List Symbol} {tokens : List Lexeme} →
    Path met stack tokens last → (more : List Lexeme) → Sequence columns met last more [] →
    Sequence columns met stack (tokens ++ more) []
path_fair columns met here more q = q
path_fair columns met (there {stack = stack} {next = next} {t = t} {tokens = tokens} e p) more q =
    step_fair columns met stack t next (tokens ++ more) e (path_fair columns met p more q)

-- each symbol has a completion
first_named : (columns : List Column) → 1 ≤ length columns →
    (text : List ℕ) × (is_some (position (λ column. same_text column.name text) columns) ≡ true)
first_named [] h = absurd (omega arith)
first_named (c ∷ columns) h = (c.name, rw (same_as_itself c.name, lt-ltb 0 (suc (length columns)) (omega arith)) refl)

module _ (schema : Schema) (met : Demand → Bool) (weaker : (d : Demand) → is_met schema d ≡ true → met d ≡ true) where
  abbrev columns : List Column
  columns = schema.columns.items

  some_column : (text : List ℕ) × (met (NamesColumn text) ≡ true)
  unfolding meets column_named
  some_column = let c = first_named columns schema.inhabited in (c.0, weaker (NamesColumn c.0) c.1)

  table_met : met (NamesTable schema.name) ≡ true
  unfolding meets
  table_met = weaker (NamesTable schema.name) (same_as_itself schema.name)

  zero_fits : (is_negative : Bool) → met (Fits is_negative (48 ∷ [])) ≡ true
  unfolding meets number_of digits_value
  zero_fits true = weaker (Fits true (48 ∷ [])) refl
  zero_fits false = weaker (Fits false (48 ∷ [])) refl

  kind_met : (first : Bool) → met (OfOneKind first first) ≡ true
  unfolding meets
  kind_met true = weaker (OfOneKind true true) refl
  kind_met false = weaker (OfOneKind false false) refl

  complete : (s : Symbol) (rest : List Lexeme) → (tokens : List Lexeme) × Means columns met s tokens rest
  complete (AWord w) rest = (Reserved w ∷ rest, here_is)
  complete Opening rest = (Punct mark.Open ∷ rest, here_is)
  complete Closing rest = (Punct mark.Close ∷ rest, here_is)
  complete AnOperand rest = (Reserved word.Null ∷ rest, (Null, null))
  complete (SignedDigits is_negative) rest = (Digits (48 ∷ []) ∷ rest, (48 ∷ [], zero_fits is_negative, here_is))
  complete PredicateTail rest = (Reserved word.Is ∷ Reserved word.Null ∷ rest, λ x. (IsNull x, is_null))
  complete RangeTail rest = (
    Reserved word.In ∷ Punct mark.Open ∷ Reserved word.Null ∷ Punct mark.Close ∷ rest,
    λ x. (Among x (Null ∷ []), among null no_more),
  )
  complete NullTail rest = (Reserved word.Null ∷ rest, λ x. (IsNull x, is_null))
  complete NotNullTail rest = (Reserved word.Null ∷ rest, λ x. (Not (IsNull x), is_not_null))
  complete (CommaTail None) rest = (rest, ([], no_more))
  complete (AFactor depth) rest =
      (Reserved word.Null ∷ Reserved word.Is ∷ Reserved word.Null ∷ rest, (IsNull Null, test (tested (predicate (compared null is_null)) untested)))
  complete (APrimary depth) rest =
      (Reserved word.Null ∷ Reserved word.Is ∷ Reserved word.Null ∷ rest, (IsNull Null, predicate (compared null is_null)))
  complete TestTail rest = (rest, λ c. (c, untested))
  complete TruthTail rest = (Reserved word.True ∷ rest, λ c. (Test c Yes, is true_word))
  complete NotTruthTail rest = (Reserved word.True ∷ rest, λ c. (Not (Test c Yes), is_not true_word))
  complete (PartTail by depth) rest = (rest, ([], last_part))
  complete ItemList rest = (Punct mark.Star ∷ rest, (every_column columns, star))
  complete (CommaTail (Some first)) rest = (rest, ([], no_more))
  complete (AnItem true) rest = (Name some_column.0 ∷ rest, (_, next_item (kind_met true) (plain some_column.1)))
  complete (AnItem false) rest = (
    Reserved word.Count ∷ Punct mark.Open ∷ Punct mark.Star ∷ Punct mark.Close ∷ rest,
    (CountAll, next_item (kind_met false) count_all),
  )
  complete (AnArgument kind) rest = (Name some_column.0 ∷ rest, counted_fair columns met kind some_column.0 rest some_column.1)
  complete ATable rest = (Name schema.name ∷ rest, (schema.name, table_met, here_is))
  complete ASelection rest = (rest, (Always, all_rows))
  complete AnEnd rest = (rest, λ e. subst EndIs (sym e) bare)
  complete AStatement rest = (
    Reserved word.Select ∷ Punct mark.Star ∷ Reserved word.From ∷ Name schema.name ∷ rest,
    λ e. (record { items = every_column columns; cond = Always }, statement star table_met all_rows (subst EndIs (sym e) bare)),
  )

  complete_all : (stack : List Symbol) → (tokens : List Lexeme) × Sequence columns met stack tokens []
  complete_all [] = ([], refl)
  complete_all (s ∷ stack) =
      let below = complete_all stack in let above = complete s below.0 in (above.0, (below.0, above.1, below.1))

  -- what the machine has read begins a statement
  pub path_viable : (tokens : List Lexeme) (last : List Symbol) → Path met (AStatement ∷ []) tokens last → Viable schema met tokens
  path_viable tokens last p =
      let more = complete_all last in
      let whole = path_fair columns met p more.0 more.1 in
      let q = whole.1 whole.2 in
      record { more = more.0; query = q.0; spelled = q.1 }

  -- a stack that may end stands for no token more
  ended : (s : Symbol) → may_end s ≡ true → Means columns met s [] []
  unfolding may_end
  ended (CommaTail None) e = ([], no_more)
  ended TestTail e = λ c. (c, untested)
  ended (PartTail by depth) e = ([], last_part)
  ended (CommaTail (Some first)) e = ([], no_more)
  ended ASelection e = (Always, all_rows)
  ended AnEnd e = λ e. bare
  ended _ e = cc

  all_ended : (stack : List Symbol) → all_may_end stack ≡ true → Sequence columns met stack [] []
  unfolding all_may_end
  all_ended [] e = refl
  all_ended (s ∷ stack) e =
      let p = and_parts (may_end s) (all_may_end stack) e in ([], ended s p.0, all_ended stack p.1)

  pub path_spelled : (tokens : List Lexeme) (last : List Symbol) → Path met (AStatement ∷ []) tokens last →
      all_may_end last ≡ true → (q : QueryShape) × StatementIs columns met tokens q
  path_spelled tokens last p e =
      let whole = path_fair columns met p [] (all_ended last e) in
      subst (λ ts. (q : QueryShape) × StatementIs columns met ts q) (append-nil tokens) (whole.1 whole.2)
