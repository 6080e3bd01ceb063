-- Tokens that are read to their end begin a statement, and those of a beginning are so read.
use Rattle.std.proofs.Common.{arith, ◌≤◌, ◌≡◌, ◌∙◌, ℕ, Bool, true, false, ◌==◌, if◌then◌else◌, List, [], ◌∷◌, ◌++◌, length}
use Rattle.std.proofs.Common.{Some, slice_get, Result, Ok, Err, is_none, refl, sym, ap, subst, append-nil}
use Rattle.std.proofs.lemmas.Bool.{eqb-true}
use Rattle.bw_text.specs.declared.keyword.Keyword.TheVariants as word
use Rattle.bw_model.specs.declared.schema.Schema.{Schema}
use Rattle.bw_sql.specs.declared.expected.Expected.{Expected}
use Rattle.bw_sql.specs.declared.expected.Expected.TheVariants as expected
use Rattle.bw_sql.specs.declared.expected.TheConstants.{EXPECTED}
use Rattle.bw_sql.specs.declared.token.Mark.TheVariants as mark
use Rattle.bw_sql.specs.declared.reader.Refusal.{Refusal}
use Rattle.bw_sql.specs.declared.reader.Refusal.TheVariants.{Syntax, Literal}
use Rattle.bw_sql.specs.Demand.{is_met}
use Rattle.bw_sql.specs.Expected.{is_all_read, left_of, tokens_left}
use Rattle.bw_sql.specs.Frontier.{Viable}
use Rattle.bw_sql.specs.Grammar.{IsQuery}
use Rattle.bw_sql.specs.QueryShape.{QueryShape}
use Rattle.bw_sql.specs.Reading.{Halt, ◌>>=◌, statement_at}
use Rattle.bw_sql.specs.Token.{Lexeme}
use Rattle.bw_sql.proofs.Cases.{bool_cases}
use Rattle.bw_sql.proofs.Frontiers.{Ran, whole, ends, stops, after_sign, path_split, ran_so, run_path}
use Rattle.bw_sql.proofs.Machine.{Symbol, AStatement, all_may_end, left_at, run}
use Rattle.bw_sql.proofs.Runs.{statement_runs}
use Rattle.bw_sql.proofs.Spelled.{query_read}
use Rattle.bw_sql.proofs.Texts.{query_spelled}
use Rattle.bw_sql.proofs.Viable.{Path, path_viable}

-- what is rejected at a token leaves one
some_left : (why : Refusal) (signed : Bool) (after : ℕ) → 1 ≤ left_at why signed after
some_left Literal true after = omega arith
some_left Literal false after = omega arith
some_left why signed after = omega arith

module _ (schema : Schema) (tokens : List Lexeme) where
  whole_viable : Ran schema false (AStatement ∷ []) tokens (Ok tt) → Viable schema (is_met schema) tokens
  whole_viable (whole last p m) = path_viable schema (is_met schema) (λ d m. m) tokens last p

  stopped_viable : {halt : Halt} → Ran schema false (AStatement ∷ []) tokens (Err halt) → (halt.left == 0) ≡ true →
      Viable schema (is_met schema) tokens
  stopped_viable (ends last p) all = path_viable schema (is_met schema) (λ d m. m) tokens last p
  stopped_viable (stops before after t last why e p s) all =
      let none = eqb-true (left_at why (after_sign false before) (length after)) 0 all in
      absurd (omega (arith, none, some_left why (after_sign false before) (length after)))

  pub goes_on : is_all_read (tokens_left schema tokens) ≡ true → Viable schema (is_met schema) tokens
  goes_on all = go (statement_at schema tokens) refl all where
    go : (r : Result QueryShape Halt) → statement_at schema tokens ≡ r → is_all_read (left_of r) ≡ true →
        Viable schema (is_met schema) tokens
    go (Ok query) e all = whole_viable (ran_so schema tokens (Ok query) e)
    go (Err halt) e all = stopped_viable (ran_so schema tokens (Err halt) e) all

  path_read : (middle : List Symbol) → Path (is_met schema) (AStatement ∷ []) tokens middle → is_all_read (tokens_left schema tokens) ≡ true
  unfolding run
  path_read middle p = go (statement_at schema tokens) refl where
    runs : run schema false (AStatement ∷ []) tokens ≡ run schema (after_sign false tokens) middle []
    runs = ap (λ ts. run schema false (AStatement ∷ []) ts) (sym (append-nil tokens)) ∙ run_path schema false p []

    go : (r : Result QueryShape Halt) → statement_at schema tokens ≡ r → is_all_read (left_of (statement_at schema tokens)) ≡ true
    go (Ok query) e = rw e refl
    go (Err halt) e =
        let halts = sym runs ∙ statement_runs schema tokens ∙ ap (λ r. r >>= λ q. Ok tt) e in
        let left : (halt.left == 0) ≡ true = bool_cases (all_may_end middle) (λ m. let f = rw m at halts in cc)
        (λ u. let f = rw u at halts in
        let same : record { why = Syntax; left = 0 } ≡ halt = cc in subst (λ (h : Halt). (h.left == 0) ≡ true) same refl) in
        rw e left

  pub begun_read : Viable schema (is_met schema) tokens → is_all_read (tokens_left schema tokens) ≡ true
  begun_read v = go (ran_so schema (tokens ++ v.more) (Ok v.query) (query_read schema (tokens ++ v.more) v.query v.spelled)) where
    go : Ran schema false (AStatement ∷ []) (tokens ++ v.more) (Ok tt) → is_all_read (tokens_left schema tokens) ≡ true
    go (whole last p m) = let part = path_split schema (AStatement ∷ []) tokens v.more last p in path_read part.0 part.1

  pub ended_spelled : is_none (tokens_left schema tokens) ≡ true → (query : QueryShape) × IsQuery schema tokens query
  ended_spelled none = go (statement_at schema tokens) refl none where
    go : (r : Result QueryShape Halt) → statement_at schema tokens ≡ r → is_none (left_of r) ≡ true →
        (query : QueryShape) × IsQuery schema tokens query
    go (Ok query) e none = (query, query_spelled schema tokens query e)
    go (Err halt) e none = cc

  pub spelled_ended : (query : QueryShape) × IsQuery schema tokens query → is_none (tokens_left schema tokens) ≡ true
  spelled_ended spelled = rw (query_read schema tokens spelled.0 spelled.1) refl

-- each kind is tried
pub tried : (what : Expected) → (at : ℕ) × (slice_get EXPECTED at ≡ Some what)
tried (expected.Keyword word.Select) = (0, refl)
tried (expected.Keyword word.Count) = (1, refl)
tried (expected.Keyword word.Sum) = (2, refl)
tried (expected.Keyword word.Min) = (3, refl)
tried (expected.Keyword word.Max) = (4, refl)
tried (expected.Keyword word.From) = (5, refl)
tried (expected.Keyword word.Where) = (6, refl)
tried expected.Comparison = (7, refl)
tried (expected.Keyword word.Between) = (8, refl)
tried (expected.Keyword word.In) = (9, refl)
tried (expected.Keyword word.Is) = (10, refl)
tried (expected.Keyword word.Not) = (11, refl)
tried (expected.Keyword word.Null) = (12, refl)
tried (expected.Keyword word.True) = (13, refl)
tried (expected.Keyword word.False) = (14, refl)
tried (expected.Keyword word.Unknown) = (15, refl)
tried (expected.Keyword word.And) = (16, refl)
tried (expected.Keyword word.Or) = (17, refl)
tried expected.Table = (18, refl)
tried expected.Column = (19, refl)
tried expected.Digits = (20, refl)
tried (expected.Mark mark.Plus) = (21, refl)
tried (expected.Mark mark.Minus) = (22, refl)
tried (expected.Mark mark.Star) = (23, refl)
tried (expected.Mark mark.Open) = (24, refl)
tried (expected.Mark mark.Close) = (25, refl)
tried (expected.Mark mark.Comma) = (26, refl)
tried (expected.Mark mark.Semicolon) = (27, refl)
tried expected.End = (28, refl)
