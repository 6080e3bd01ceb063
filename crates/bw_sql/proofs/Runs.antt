-- The machine, with all demands, stops where reading stops, and for the same reason.
use Rattle.std.proofs.Common.{◌≡◌, ℕ, zero, suc, ◌+◌, ◌<◌, ◌≤◌, Bool, true, false, nat_le, List, []}
use Rattle.std.proofs.Common.{◌∷◌, ◌++◌, length, Option, Some, None, Result, Ok, Err, refl, sym}
use Rattle.std.proofs.Common.{◌∙◌, ap, arith}
use Rattle.std.proofs.lemmas.Bool.Decides.{nat_tests}
use Rattle.bw_model.specs.declared.cond.Operand.{Operand}
use Rattle.bw_text.specs.declared.keyword.Keyword.{Keyword}
use Rattle.bw_text.specs.declared.keyword.Keyword.TheVariants as word
use Rattle.bw_model.specs.declared.query.Item.{Item}
use Rattle.bw_model.specs.declared.query.Item.TheVariants.{Plain}
use Rattle.bw_model.specs.declared.schema.Schema.{Schema}
use Rattle.bw_text.specs.Number.{number_of}
use Rattle.bw_text.specs.Text.{same_text}
use Rattle.bw_model.specs.declared.junction.Junction.{Junction}
use Rattle.bw_model.specs.declared.junction.Junction.TheVariants as junction
use Rattle.bw_sql.specs.declared.items.Aggregate.{Aggregate}
use Rattle.bw_sql.specs.declared.items.Aggregate.TheVariants as aggregate
use Rattle.bw_sql.specs.declared.reader.Refusal.{Refusal}
use Rattle.bw_sql.specs.declared.reader.Refusal.TheVariants.{Syntax, Literal}
use Rattle.bw_sql.specs.declared.token.Mark.TheVariants as mark
use Rattle.bw_sql.specs.QueryShape.{QueryShape}
use Rattle.bw_model.specs.CondTree.{CondTree, CondTrees}
use Rattle.bw_model.specs.Column.{column_named}
use Rattle.bw_sql.specs.Demand.{Depth, is_met, meets}
use Rattle.bw_sql.specs.Frontier.{is_sign}
use Rattle.bw_sql.specs.Limits.{deepest_nesting}
use Rattle.bw_sql.specs.Reading.{Halt, NestedReaders, ◌>>=◌, more_items, same_keyword, after_keyword}
use Rattle.bw_sql.specs.Reading.{after_mark, keyword_at, mark_at, name_at, digits_at, sign_at}
use Rattle.bw_sql.specs.Reading.{literal_at, column_at, table_at, operand_at, read_many, with_front}
use Rattle.bw_sql.specs.Reading.{operands_at, range_at, list_at, range_or_list_at, null_test_at}
use Rattle.bw_sql.specs.Reading.{after_comparison, predicate_after, predicate_at, truth_value_at}
use Rattle.bw_sql.specs.Reading.{truth_test_at, primary_in, test_in, factor_in, part_in, joined_in}
use Rattle.bw_sql.specs.Reading.{series_at, series_after, condition_in, nested_readers}
use Rattle.bw_sql.specs.Reading.{selection_at, table_expression_at, end_at, after_aggregate}
use Rattle.bw_sql.specs.Reading.{aggregated_at, argument_at, item_at, of_one_kind, next_item_at}
use Rattle.bw_sql.specs.Reading.{items_at, statement_at}
use Rattle.bw_sql.specs.Token.{Lexeme, Name, Digits, Reserved, Compare, Punct}
use Rattle.bw_sql.specs.Words.{word_of, join_of}
use Rattle.bw_sql.proofs.Cases.{bool_cases, option_cases}
use Rattle.bw_sql.proofs.Spellings.{mark_is, word_is}
use Rattle.bw_sql.proofs.Machine.{Symbol, Choice, AWord, Opening, Closing, AnOperand, PredicateTail}
use Rattle.bw_sql.proofs.Machine.{RangeTail, CommaTail, APrimary, TestTail, PartTail, ItemList}
use Rattle.bw_sql.proofs.Machine.{AnItem, AnArgument, ATable, ASelection, AnEnd, AStatement, a_part}
use Rattle.bw_sql.proofs.Machine.{one_of, of_aggregate, in_brackets, operand_choice, primary_choice}
use Rattle.bw_sql.proofs.Machine.{decide, may_end, all_may_end, ask, chosen, step, proceed, run}

assoc : {A B C : Type 0} (m : Result A Halt) (f : A → Result B Halt) (g : B → Result C Halt) →
    ((m >>= f) >>= g) ≡ (m >>= λ x. f x >>= g)
assoc (Ok x) f g = refl
assoc (Err halt) f g = refl

chain : {A B C : Type 0} (m : Result A Halt) (f : A → Result B Halt) (h : A → Result C Halt) (g : B → Result C Halt) →
    ((x : A) → m ≡ Ok x → h x ≡ (f x >>= g)) → (m >>= h) ≡ ((m >>= f) >>= g)
chain (Ok x) f h g k = k x refl
chain (Err halt) f h g k = refl

module _ (schema : Schema) where
  -- reading is what the machine does with some symbols above a stack
  abbrev Runs : {A : Type 0} → (List Symbol → List Symbol) → (List Lexeme → Result (A × List Lexeme) Halt) → Type 0
  Runs symbols read = (stack : List Symbol) (tokens : List Lexeme) →
      run schema false (symbols stack) tokens ≡ (read tokens >>= λ x. run schema false stack x.1)

  same_halt : (a b : Halt) → ◌≡◌ {A = Result (Unit {0}) Halt} (Err a) (Err b) → (a.why ≡ b.why) × (a.left ≡ b.left)
  same_halt a b e = let same : a ≡ b = cc in (ap (λ (h : Halt). h.why) same, ap (λ (h : Halt). h.left) same)

  -- a rejection by the grammar is at one of the tokens, so a reader leaves no more of them than
  -- there were
  refused_within : (signed : Bool) (stack : List Symbol) (tokens : List Lexeme) (n : ℕ) →
      run schema signed stack tokens ≡ Err (record { why = Syntax; left = suc n }) → n < length tokens
  unfolding run
  refused_within signed stack [] n e = bool_cases (all_may_end stack) (λ m. let f = rw m at e in cc)
      (λ u. absurd (omega (arith, (same_halt _ _ (rw u at e)).1)))
  refused_within signed stack (t ∷ tokens) n e =
      go (step (is_met schema) stack t) signed (λ next f. refused_within (is_sign t) next tokens n f) e
    where
      go : (r : Result (List Symbol) Refusal) (signed : Bool) → ((next : List Symbol) →
          run schema (is_sign t) next tokens ≡ Err (record { why = Syntax; left = suc n }) → n < length tokens) →
          proceed signed r (length tokens) (λ next. run schema (is_sign t) next tokens) ≡ Err (record { why = Syntax; left = suc n }) →
          n < suc (length tokens)
      go (Ok next) signed onward e = omega (arith, onward next e)
      go (Err Literal) signed onward e = let same = (same_halt _ _ e).0 in cc
      go (Err why) signed onward e = omega (arith, (same_halt _ _ e).1)

  pub takes : {A : Type 0} (symbols : List Symbol → List Symbol) (read : List Lexeme → Result (A × List Lexeme) Halt) →
      Runs symbols read → (tokens rest : List Lexeme) (x : A) → read tokens ≡ Ok (x, rest) → length rest ≤ length tokens
  unfolding run all_may_end step
  takes symbols read runs tokens [] x e = omega arith
  takes symbols read runs tokens (t ∷ rest) x e =
      refused_within false (symbols []) tokens (length rest) (runs [] tokens ∙ ap (λ r. r >>= λ x. run schema false [] x.1) e)

  -- a word or a mark that has to come
  abbrev RunsOn : Symbol → (List Lexeme → Result (List Lexeme) Halt) → Type 0
  RunsOn symbol read = (stack : List Symbol) (tokens : List Lexeme) →
      run schema false (symbol ∷ stack) tokens ≡ (read tokens >>= λ rest. run schema false stack rest)

  word_runs : (w : Keyword) → RunsOn (AWord w) (keyword_at w)
  unfolding run step decide all_may_end may_end keyword_at after_keyword
  word_runs w stack (Reserved found ∷ tokens) = bool_cases (same_keyword found w) (λ e. rw e refl) (λ e. rw e refl)
  word_runs w stack _ = refl

  opening_runs : RunsOn Opening (mark_at mark.Open)
  unfolding run step decide all_may_end may_end mark_at after_mark
  opening_runs stack (Punct mark.Open ∷ tokens) = refl
  opening_runs stack _ = refl

  closing_runs : RunsOn Closing (mark_at mark.Close)
  unfolding run step decide all_may_end may_end mark_at after_mark
  closing_runs stack (Punct mark.Close ∷ tokens) = refl
  closing_runs stack _ = refl

  -- the machine's choice at a token, above a stack
  abbrev Chooses : {A : Type 0} → (List Symbol → Lexeme → Choice) → (List Lexeme → Result (A × List Lexeme) Halt) → Type 0
  Chooses choice read = (after stack : List Symbol) (passed : Result (List Symbol) Refusal) (t : Lexeme) (tokens : List Lexeme) →
      proceed false (chosen (is_met schema) (choice after t) stack passed) (length tokens) (λ next. run schema (is_sign t) next tokens) ≡
      (read (t ∷ tokens) >>= λ x. run schema false (after ++ stack) x.1)

  operand_chosen : Chooses operand_choice (operand_at schema)
  unfolding run step decide all_may_end may_end meets operand_at after_keyword after_mark column_at name_at literal_at sign_at digits_at
  operand_chosen after stack passed (Reserved word.Null) tokens = refl
  operand_chosen after stack passed (Name text) tokens =
      option_cases (column_named schema.columns.items text) (λ e. rw e refl) (λ n e. rw e refl)
  operand_chosen after stack passed (Digits digits) tokens = option_cases (number_of false digits) (λ e. rw e refl) (λ n e. rw e refl)
  operand_chosen after stack passed (Punct mark.Plus) (Digits digits ∷ tokens) =
      option_cases (number_of false digits) (λ e. rw e refl) (λ n e. rw e refl)
  operand_chosen after stack passed (Punct mark.Minus) (Digits digits ∷ tokens) =
      option_cases (number_of true digits) (λ e. rw e refl) (λ n e. rw e refl)
  operand_chosen after stack passed _ _ = refl

  pub operand_runs : Runs (λ stack. AnOperand ∷ stack) (operand_at schema)
  unfolding run step decide all_may_end may_end operand_at after_keyword literal_at sign_at digits_at after_mark
  operand_runs stack [] = refl
  operand_runs stack (t ∷ tokens) = operand_chosen [] stack (step (is_met schema) stack t) t tokens

-- What is after a first thing: more of them, as long as something introduces them.
record TailLaws (schema : Schema) {A : Type 0} (tail : Symbol) (ones : List Symbol → List Symbol)
    (after : List Lexeme → Option (List Lexeme)) (one : List Lexeme → Result (A × List Lexeme) Halt) : Type 0 where
  one_runs : Runs schema ones one
  ends : (stack : List Symbol) (tokens : List Lexeme) → after tokens ≡ None →
      run schema false (tail ∷ stack) tokens ≡ run schema false stack tokens
  token : Lexeme
  comes : (tokens next : List Lexeme) → after tokens ≡ Some next → tokens ≡ token ∷ next
  goes_on : (stack : List Symbol) (next : List Lexeme) →
      run schema false (tail ∷ stack) (token ∷ next) ≡ run schema false (ones (tail ∷ stack)) next

module _ (schema : Schema) {A : Type 0} (tail : Symbol) (ones : List Symbol → List Symbol) (after : List Lexeme → Option (List Lexeme))
    (one : List Lexeme → Result (A × List Lexeme) Halt) (laws : TailLaws schema tail ones after one) where
  tail_runs : (n : ℕ) (stack : List Symbol) (tokens : List Lexeme) → length tokens ≤ n →
      run schema false (tail ∷ stack) tokens ≡ (read_many n after one tokens >>= λ xs. run schema false stack xs.1)
  unfolding read_many
  tail_runs zero stack tokens h = option_cases (after tokens) (laws.ends stack tokens)
      (λ next e. absurd (omega (arith, ap length (laws.comes tokens next e))))
  tail_runs (suc n) stack tokens h = option_cases (after tokens) (λ e. rw e (laws.ends stack tokens e))
      (λ next e. rw e (ap (run schema false (tail ∷ stack)) (laws.comes tokens next e) ∙ laws.goes_on stack next
      ∙ laws.one_runs (tail ∷ stack) next
      ∙ chain (one next) _ _ _ (λ x f. let less = takes schema ones one laws.one_runs next x.1 x.0 f in
      tail_runs n stack x.1 (omega (arith, ap length (laws.comes tokens next e), less))
      ∙ chain (read_many n after one x.1) _ _ _ (λ xs g. refl))))

module _ (schema : Schema) (tail : Symbol) (ones : List Symbol → List Symbol) (w : Keyword)
    (one : List Lexeme → Result (CondTree × List Lexeme) Halt) (laws : TailLaws schema tail ones (after_keyword w) one)
    (join : CondTrees → CondTree) where
  joined_tail : (first : CondTree) (stack : List Symbol) (tokens : List Lexeme) → run schema false (tail ∷ stack) tokens ≡
      (series_after w join one first (after_keyword w tokens) tokens >>= λ c. run schema false stack c.1)
  joined_tail first stack tokens = option_cases (after_keyword w tokens) (λ e. rw e (laws.ends stack tokens e))
      (λ next e. rw e (tail_runs schema tail ones (after_keyword w) one laws (length tokens) stack tokens (omega arith)
      ∙ sym (assoc (with_front (first ∷ []) (read_many (length tokens) (after_keyword w) one tokens)) _ _
      ∙ assoc (read_many (length tokens) (after_keyword w) one tokens) _ _)))

  joined_runs : Runs schema (λ stack. ones (tail ∷ stack)) (series_at w join one)
  joined_runs stack tokens = laws.one_runs (tail ∷ stack) tokens ∙ chain (one tokens) _ _ _ (λ c f. joined_tail c.0 stack c.1)

module _ (schema : Schema) where
  comma_laws : {A : Type 0} (of : Option Bool) (one : List Lexeme → Result (A × List Lexeme) Halt) →
      Runs schema (λ stack. one_of of ∷ stack) one →
      TailLaws schema (CommaTail of) (λ stack. one_of of ∷ stack) (after_mark mark.Comma) one
  unfolding run step decide all_may_end may_end after_mark
  comma_laws of one runs = record {
    one_runs = runs;
    ends = ends;
    token = Punct mark.Comma;
    comes = mark_is mark.Comma;
    goes_on = λ stack next. refl;
  }
    where
      ends : (stack : List Symbol) (tokens : List Lexeme) → after_mark mark.Comma tokens ≡ None →
          run schema false (CommaTail of ∷ stack) tokens ≡ run schema false stack tokens
      ends stack (Punct mark.Comma ∷ tokens) e = cc
      ends stack _ e = refl

  between_runs : (x : Operand) → Runs schema (λ stack. AnOperand ∷ AWord word.And ∷ AnOperand ∷ stack) (range_at schema x)
  between_runs x stack tokens = operand_runs schema _ tokens
      ∙ chain (operand_at schema tokens) _ _ _ (λ y e. word_runs schema word.And _ y.1
      ∙ chain (keyword_at word.And y.1) _ _ _ (λ rest f. operand_runs schema _ rest
      ∙ chain (operand_at schema rest) _ _ _ (λ z g. refl)))

  operands_run : Runs schema (λ stack. AnOperand ∷ CommaTail None ∷ stack) (operands_at schema)
  operands_run stack tokens = operand_runs schema _ tokens
      ∙ chain (operand_at schema tokens) _ _ _ (λ y e.
      tail_runs schema (CommaTail None) _ _ _ (comma_laws None _ (operand_runs schema)) (length y.1) stack y.1 (omega arith)
      ∙ chain (read_many (length y.1) (after_mark mark.Comma) (operand_at schema) y.1) _ _ _ (λ ys f. refl))

  list_in_runs : (x : Operand) → Runs schema (λ stack. Opening ∷ AnOperand ∷ CommaTail None ∷ Closing ∷ stack)
      (λ tokens. list_at schema x (Reserved word.In ∷ tokens))
  unfolding keyword_at after_keyword
  list_in_runs x stack tokens = opening_runs schema _ tokens
      ∙ chain (mark_at mark.Open tokens) _ _ _ (λ rest e. operands_run (Closing ∷ stack) rest
      ∙ chain (operands_at schema rest) _ _ _ (λ items f. closing_runs schema stack items.1
      ∙ chain (mark_at mark.Close items.1) _ _ _ (λ rest g. refl)))

  range_runs : (x : Operand) → Runs schema (λ stack. RangeTail ∷ stack) (range_or_list_at schema x)
  unfolding run step decide all_may_end may_end range_or_list_at after_keyword keyword_at
  range_runs x stack (Reserved word.Between ∷ tokens) = between_runs x stack tokens
  range_runs x stack (Reserved word.In ∷ tokens) = list_in_runs x stack tokens
  range_runs x stack _ = refl

  predicate_tail : (x : Operand) → Runs schema (λ stack. PredicateTail ∷ stack)
      (λ tokens. predicate_after schema x (after_comparison tokens) tokens)
  unfolding run step decide all_may_end may_end range_or_list_at after_keyword keyword_at after_comparison null_test_at
  predicate_tail x stack (Compare op ∷ tokens) = operand_runs schema stack tokens ∙ chain (operand_at schema tokens) _ _ _ (λ y e. refl)
  predicate_tail x stack (Reserved word.Is ∷ Reserved word.Null ∷ tokens) = refl
  predicate_tail x stack (Reserved word.Is ∷ Reserved word.Not ∷ Reserved word.Null ∷ tokens) = refl
  predicate_tail x stack (Reserved word.Not ∷ tokens) = range_runs x stack tokens ∙ sym (assoc (range_or_list_at schema x tokens) _ _)
  predicate_tail x stack (Reserved word.Between ∷ tokens) = between_runs x stack tokens
  predicate_tail x stack (Reserved word.In ∷ tokens) = list_in_runs x stack tokens
  predicate_tail x stack _ = refl

  test_tail : (c : CondTree) → Runs schema (λ stack. TestTail ∷ stack) (truth_test_at c)
  unfolding run step decide all_may_end may_end truth_test_at after_keyword truth_value_at
  test_tail c stack (Reserved word.Is ∷ Reserved word.Not ∷ Reserved word.True ∷ tokens) = refl
  test_tail c stack (Reserved word.Is ∷ Reserved word.True ∷ tokens) = refl
  test_tail c stack _ = refl

pub too_deep : (depth : ℕ) → 0 + depth ≡ deepest_nesting → nat_le (suc depth) deepest_nesting ≡ false
too_deep depth e = grind (arith, nat_tests)

not_too_deep : (n depth : ℕ) → suc n + depth ≡ deepest_nesting → nat_le (suc depth) deepest_nesting ≡ true
not_too_deep n depth e = grind (arith, nat_tests)

-- what stands one level deeper, after `(` and after NOT
pub record LevelRuns (schema : Schema) (depth : ℕ) (inner : NestedReaders) : Type 0 where
  enclosed_runs : (after stack : List Symbol) (next : List Lexeme) →
      proceed false (ask (is_met schema) (Depth (suc depth) ∷ []) (in_brackets (suc depth) after ++ stack)) (length next)
      (λ s. run schema false s next) ≡
      (inner.enclosed (Punct mark.Open ∷ next) next >>= λ c. run schema false (after ++ stack) c.1)
  negated_runs : (stack : List Symbol) (next : List Lexeme) →
      proceed false (ask (is_met schema) (Depth (suc depth) ∷ []) (APrimary (suc depth) ∷ TestTail ∷ stack)) (length next)
      (λ s. run schema false s next) ≡
      (inner.negated (Reserved word.Not ∷ next) next >>= λ c. run schema false stack c.1)

module _ (schema : Schema) (n depth : ℕ) (level : LevelRuns schema depth (nested_readers schema n)) where
  primary_chosen : Chooses schema (primary_choice depth) (primary_in schema (nested_readers schema n))
  unfolding primary_in after_mark predicate_at
  primary_chosen after stack passed (Punct mark.Open) tokens = level.enclosed_runs after stack tokens
  primary_chosen after stack passed t tokens = operand_chosen schema (PredicateTail ∷ after) stack passed t tokens
      ∙ chain (operand_at schema (t ∷ tokens)) _ _ _ (λ x e. predicate_tail schema x.0 (after ++ stack) x.1)

  test_runs : Runs schema (λ stack. APrimary depth ∷ TestTail ∷ stack) (test_in schema (nested_readers schema n))
  unfolding run step decide all_may_end may_end test_in primary_in after_mark predicate_at operand_at after_keyword literal_at digits_at sign_at
  test_runs stack [] = refl
  test_runs stack (t ∷ tokens) = primary_chosen [] (TestTail ∷ stack) (step (is_met schema) (TestTail ∷ stack) t) t tokens
      ∙ chain (primary_in schema (nested_readers schema n) (t ∷ tokens)) _ _ _ (λ c e. test_tail schema c.0 stack c.1)

  test_chosen : Chooses schema (λ after. primary_choice depth (TestTail ∷ after)) (test_in schema (nested_readers schema n))
  unfolding test_in
  test_chosen after stack passed t tokens = primary_chosen (TestTail ∷ after) stack passed t tokens
      ∙ chain (primary_in schema (nested_readers schema n) (t ∷ tokens)) _ _ _ (λ c e. test_tail schema c.0 (after ++ stack) c.1)

  factor_runs : Runs schema (a_part junction.All depth) (part_in schema (nested_readers schema n) junction.All)
  unfolding run step decide all_may_end may_end factor_in after_keyword part_in test_in primary_in after_mark predicate_at operand_at literal_at digits_at sign_at
  factor_runs stack [] = refl
  factor_runs stack (Reserved word.Not ∷ tokens) = level.negated_runs stack tokens
  factor_runs stack (t ∷ tokens) = test_chosen [] stack (step (is_met schema) stack t) t tokens

  abbrev PartLaws : Junction → Type 0
  PartLaws by = TailLaws schema (PartTail by depth) (a_part by depth) (after_keyword (word_of by)) (part_in schema (nested_readers schema n) by)

  part_laws : (by : Junction) → Runs schema (a_part by depth) (part_in schema (nested_readers schema n) by) → PartLaws by
  unfolding run step decide all_may_end may_end after_keyword
  part_laws by runs = record {
    one_runs = runs;
    ends = ends by;
    token = Reserved (word_of by);
    comes = word_is (word_of by);
    goes_on = goes_on by;
  }
    where
      ends : (by : Junction) (stack : List Symbol) (tokens : List Lexeme) → after_keyword (word_of by) tokens ≡ None →
          run schema false (PartTail by depth ∷ stack) tokens ≡ run schema false stack tokens
      ends junction.All stack (Reserved word.And ∷ tokens) e = cc
      ends junction.Any stack (Reserved word.Or ∷ tokens) e = cc
      ends _ stack _ e = refl

      goes_on : (by : Junction) (stack : List Symbol) (next : List Lexeme) → run schema false (PartTail by depth ∷ stack)
          (Reserved (word_of by) ∷ next) ≡ run schema false (a_part by depth (PartTail by depth ∷ stack)) next
      goes_on junction.All stack next = refl
      goes_on junction.Any stack next = refl

  series_runs : (by : Junction) → PartLaws by → Runs schema (λ stack. a_part by depth (PartTail by depth ∷ stack))
      (joined_in schema (nested_readers schema n) by)
  unfolding joined_in
  series_runs by laws = joined_runs schema (PartTail by depth) _ (word_of by) (part_in schema (nested_readers schema n) by) laws (join_of by)

  term_runs : Runs schema (a_part junction.Any depth) (part_in schema (nested_readers schema n) junction.Any)
  unfolding joined_in part_in
  term_runs = series_runs junction.All (part_laws junction.All factor_runs)

  pub part_runs : (by : Junction) → Runs schema (a_part by depth) (part_in schema (nested_readers schema n) by)
  part_runs junction.All = factor_runs
  part_runs junction.Any = term_runs

  condition_runs : Runs schema (λ stack. a_part junction.Any depth (PartTail junction.Any depth ∷ stack)) (condition_in schema (nested_readers schema n))
  unfolding condition_in
  condition_runs = series_runs junction.Any (part_laws junction.Any term_runs)

pub level_runs : (schema : Schema) (n depth : ℕ) → n + depth ≡ deepest_nesting → LevelRuns schema depth (nested_readers schema n)
unfolding nested_readers meets
level_runs schema zero depth e = record {
  enclosed_runs = λ after stack next. rw (too_deep depth e) refl;
  negated_runs = λ stack next. rw (too_deep depth e) refl;
}
level_runs schema (suc n) depth e =
    let level = level_runs schema n (suc depth) (omega arith) in
    record {
      enclosed_runs = λ after stack next. rw (not_too_deep n depth e)
          (condition_runs schema n (suc depth) level (Closing ∷ after ++ stack) next
          ∙ chain (condition_in schema (nested_readers schema n) next) _ _ _ (λ c f. closing_runs schema (after ++ stack) c.1
          ∙ chain (mark_at mark.Close c.1) _ _ _ (λ rest g. refl)));
      negated_runs = λ stack next. rw (not_too_deep n depth e) (test_runs schema n (suc depth) level stack next
          ∙ chain (test_in schema (nested_readers schema n) next) _ _ _ (λ c f. refl));
    }

module _ (schema : Schema) where
  selection_runs : Runs schema (λ stack. ASelection ∷ stack) (selection_at schema)
  unfolding run step decide all_may_end may_end selection_at after_keyword
  selection_runs stack (Reserved word.Where ∷ tokens) =
      condition_runs schema deepest_nesting 0 (level_runs schema deepest_nesting 0 refl) stack tokens
  selection_runs stack _ = refl

  end_runs : (tokens : List Lexeme) → run schema false (AnEnd ∷ []) tokens ≡ end_at tokens
  unfolding run step decide all_may_end may_end end_at after_mark
  end_runs [] = refl
  end_runs (Punct mark.Semicolon ∷ []) = refl
  end_runs _ = refl

  table_runs : RunsOn schema ATable (table_at schema)
  unfolding run step decide all_may_end may_end meets table_at name_at
  table_runs stack (Name text ∷ tokens) = bool_cases (same_text schema.name text) (λ e. rw e refl) (λ e. rw e refl)
  table_runs stack _ = refl

  by_column : {P : Type 0} (text : List ℕ) → (column_named schema.columns.items text ≡ None → P) →
      ((n : ℕ) → column_named schema.columns.items text ≡ Some n → P) → P
  by_column text = option_cases (column_named schema.columns.items text)

  argument_runs : (kind : Aggregate) → Runs schema (λ stack. AnArgument kind ∷ stack) (aggregated_at schema kind)
  unfolding run step decide all_may_end may_end meets aggregated_at after_mark column_at name_at
  argument_runs aggregate.Count stack (Punct mark.Star ∷ tokens) = refl
  argument_runs kind stack (Name text ∷ tokens) = by_column text (λ e. rw e refl) (λ n e. rw e refl)
  argument_runs kind stack _ = refl

  aggregate_runs : (kind : Aggregate) → Runs schema (of_aggregate kind) (argument_at schema kind)
  aggregate_runs kind stack tokens = opening_runs schema _ tokens
      ∙ chain (mark_at mark.Open tokens) _ _ _ (λ rest e. argument_runs kind _ rest
      ∙ chain (aggregated_at schema kind rest) _ _ _ (λ item f. closing_runs schema stack item.1
      ∙ chain (mark_at mark.Close item.1) _ _ _ (λ rest g. refl)))

  pub next_item_runs : (first : Bool) → Runs schema (λ stack. AnItem first ∷ stack) (next_item_at schema first)
  unfolding run step decide all_may_end may_end meets next_item_at of_one_kind item_at after_aggregate after_keyword column_at name_at
  next_item_runs true stack (Name text ∷ tokens) = by_column text (λ e. rw e refl) (λ n e. rw e refl)
  next_item_runs true stack (Reserved word.Count ∷ tokens) = refl
  next_item_runs true stack _ = refl
  next_item_runs false stack (Name text ∷ tokens) = by_column text (λ e. rw e refl) (λ n e. rw e refl)
  next_item_runs false stack (Reserved word.Count ∷ tokens) = aggregate_runs aggregate.Count stack tokens
  next_item_runs false stack (Reserved word.Sum ∷ tokens) = aggregate_runs aggregate.Sum stack tokens
  next_item_runs false stack (Reserved word.Min ∷ tokens) = aggregate_runs aggregate.Min stack tokens
  next_item_runs false stack (Reserved word.Max ∷ tokens) = aggregate_runs aggregate.Max stack tokens
  next_item_runs false stack _ = refl

  more_items_run : (x : Item) (kind : Bool) → Runs schema (λ stack. CommaTail (Some kind) ∷ stack)
      (λ tokens. with_front (x ∷ []) (more_items schema kind tokens))
  more_items_run x kind stack tokens =
      let laws = comma_laws schema (Some kind) _ (next_item_runs kind) in
      tail_runs schema (CommaTail (Some kind)) _ _ _ laws (length tokens) stack tokens (omega arith)
      ∙ chain (more_items schema kind tokens) _ _ _ (λ xs e. refl)

  first_aggregate : (kind : Aggregate) → Runs schema (λ stack. of_aggregate kind (CommaTail (Some false) ∷ stack))
      (λ tokens. argument_at schema kind tokens >>= λ x. with_front (x.0 ∷ []) (more_items schema false x.1))
  first_aggregate kind stack tokens = aggregate_runs kind (CommaTail (Some false) ∷ stack) tokens
      ∙ chain (argument_at schema kind tokens) _ _ _ (λ x e. more_items_run x.0 false stack x.1)

  list_runs : Runs schema (λ stack. ItemList ∷ stack) (items_at schema)
  unfolding run step decide all_may_end may_end meets items_at after_mark item_at after_aggregate after_keyword column_at name_at
  list_runs stack (Punct mark.Star ∷ tokens) = refl
  list_runs stack (Name text ∷ tokens) = by_column text (λ e. rw e refl) (λ n e. rw e (more_items_run (Plain n) true stack tokens))
  list_runs stack (Reserved word.Count ∷ tokens) = first_aggregate aggregate.Count stack tokens
  list_runs stack (Reserved word.Sum ∷ tokens) = first_aggregate aggregate.Sum stack tokens
  list_runs stack (Reserved word.Min ∷ tokens) = first_aggregate aggregate.Min stack tokens
  list_runs stack (Reserved word.Max ∷ tokens) = first_aggregate aggregate.Max stack tokens
  list_runs stack _ = refl

  ended : (m : Result (Unit {0}) Halt) (q : QueryShape) → m ≡ ((m >>= λ end. Ok q) >>= λ q. Ok tt)
  ended (Ok u) q = refl
  ended (Err halt) q = refl

  expression_runs : Runs schema (λ stack. AWord word.From ∷ ATable ∷ ASelection ∷ stack) (table_expression_at schema)
  unfolding table_expression_at
  expression_runs stack tokens = word_runs schema word.From _ tokens
      ∙ chain (keyword_at word.From tokens) _ _ _ (λ rest e. table_runs _ rest
      ∙ chain (table_at schema rest) _ _ _ (λ after f. selection_runs stack after))

  pub statement_runs : (tokens : List Lexeme) →
      run schema false (AStatement ∷ []) tokens ≡ (statement_at schema tokens >>= λ q. Ok tt)
  unfolding run step decide all_may_end may_end statement_at keyword_at after_keyword
  statement_runs (Reserved word.Select ∷ tokens) = list_runs _ tokens
      ∙ chain (items_at schema tokens) _ _ _ (λ xs e. expression_runs (AnEnd ∷ []) xs.1
      ∙ chain (table_expression_at schema xs.1) _ _ _ (λ c f. end_runs c.1 ∙ ended (end_at c.1) (record { items = xs.0; cond = c.0 })))
  statement_runs _ = refl
