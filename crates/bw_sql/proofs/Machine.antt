-- A machine of symbols of the grammar. A stack of symbols says what is to come; the uppermost
-- symbol decides on one token: it takes the token and gives way to other symbols, passes it on, or
-- stops.
use Rattle.std.proofs.Common.{ℕ, suc, Bool, true, false, if◌then◌else◌, ◌&&◌, List, [], ◌∷◌, ◌++◌}
use Rattle.std.proofs.Common.{length, Option, Some, None, Result, Ok, Err}
use Rattle.bw_text.specs.declared.keyword.Keyword.{Keyword}
use Rattle.bw_text.specs.declared.keyword.Keyword.TheVariants as word
use Rattle.bw_model.specs.declared.schema.Schema.{Schema}
use Rattle.bw_sql.specs.declared.reader.Refusal.{Refusal}
use Rattle.bw_sql.specs.declared.reader.Refusal.TheVariants.{Syntax, Literal}
use Rattle.bw_model.specs.declared.junction.Junction.{Junction}
use Rattle.bw_model.specs.declared.junction.Junction.TheVariants as junction
use Rattle.bw_sql.specs.declared.items.Aggregate.{Aggregate}
use Rattle.bw_sql.specs.declared.items.Aggregate.TheVariants as aggregate
use Rattle.bw_sql.specs.declared.token.Mark.TheVariants as mark
use Rattle.bw_sql.specs.Demand.{Demand, NamesTable, NamesColumn, Fits, OfOneKind, Depth, is_met}
use Rattle.bw_sql.specs.Demand.{refusal}
use Rattle.bw_sql.specs.Frontier.{is_sign}
use Rattle.bw_sql.specs.Reading.{Halt, same_keyword}
use Rattle.bw_sql.specs.Token.{Lexeme, Name, Digits, Reserved, Compare, Punct}

-- What is to come: a word, a bracket, an operand, the digits after a sign, what follows the first
-- operand of a predicate, its NOT or its IS, further operands or items; a factor or a primary
-- inside of this many brackets and NOTs, what may follow a primary, its IS, a truth value, further
-- parts that a connective joins; the items, an item after a first one of a kind, what stands in
-- brackets; a table, a selection, the end, a statement.
pub data Symbol : Type 0 where
  AWord : Keyword → Symbol
  Opening : Symbol
  Closing : Symbol
  AnOperand : Symbol
  SignedDigits : Bool → Symbol
  PredicateTail : Symbol
  RangeTail : Symbol
  NullTail : Symbol
  NotNullTail : Symbol
  CommaTail : Option Bool → Symbol
  AFactor : ℕ → Symbol
  APrimary : ℕ → Symbol
  TestTail : Symbol
  TruthTail : Symbol
  NotTruthTail : Symbol
  PartTail : Junction → ℕ → Symbol
  ItemList : Symbol
  AnItem : Bool → Symbol
  AnArgument : Aggregate → Symbol
  ATable : Symbol
  ASelection : Symbol
  AnEnd : Symbol
  AStatement : Symbol

-- A token is taken, and gives way to other symbols, if some demands are met; or it is passed on, or
-- not taken.
pub data Choice : Type 0 where
  Ask : List Demand → List Symbol → Choice
  Pass : Choice
  Stop : Choice

abbrev pub Take : List Symbol → Choice
Take symbols = Ask [] symbols

-- an operand, or an item after a first one of a kind
abbrev pub one_of : Option Bool → Symbol
one_of None = AnOperand
one_of (Some first) = AnItem first

-- a factor, or a term, and then what follows it
abbrev pub a_part : Junction → ℕ → List Symbol → List Symbol
a_part junction.All depth after = AFactor depth ∷ after
a_part junction.Any depth after = AFactor depth ∷ PartTail junction.All depth ∷ after

abbrev pub in_brackets : ℕ → List Symbol → List Symbol
in_brackets depth after = a_part junction.Any depth (PartTail junction.Any depth ∷ Closing ∷ after)

-- an operand, and then what follows it
abbrev pub operand_choice : List Symbol → Lexeme → Choice
operand_choice after (Reserved word.Null) = Take after
operand_choice after (Name text) = Ask (NamesColumn text ∷ []) after
operand_choice after (Digits digits) = Ask (Fits false digits ∷ []) after
operand_choice after (Punct mark.Plus) = Take (SignedDigits false ∷ after)
operand_choice after (Punct mark.Minus) = Take (SignedDigits true ∷ after)
operand_choice after _ = Stop

-- a bracket, or a predicate
abbrev pub primary_choice : ℕ → List Symbol → Lexeme → Choice
primary_choice depth after (Punct mark.Open) = Ask (Depth (suc depth) ∷ []) (in_brackets (suc depth) after)
primary_choice depth after t = operand_choice (PredicateTail ∷ after) t

-- a range after BETWEEN, or a list after IN
abbrev pub range_choice : Lexeme → Choice
range_choice (Reserved word.Between) = Take (AnOperand ∷ AWord word.And ∷ AnOperand ∷ [])
range_choice (Reserved word.In) = Take (Opening ∷ AnOperand ∷ CommaTail None ∷ Closing ∷ [])
range_choice _ = Stop

abbrev pub truth_choice : Lexeme → Choice
truth_choice (Reserved word.True) = Take []
truth_choice (Reserved word.False) = Take []
truth_choice (Reserved word.Unknown) = Take []
truth_choice _ = Stop

-- an aggregate, if some demands are met
abbrev pub of_aggregate : Aggregate → List Symbol → List Symbol
of_aggregate kind after = Opening ∷ AnArgument kind ∷ Closing ∷ after

abbrev pub aggregate_choice : List Demand → List Symbol → Lexeme → Choice
aggregate_choice demands after (Reserved word.Count) = Ask demands (of_aggregate aggregate.Count after)
aggregate_choice demands after (Reserved word.Sum) = Ask demands (of_aggregate aggregate.Sum after)
aggregate_choice demands after (Reserved word.Min) = Ask demands (of_aggregate aggregate.Min after)
aggregate_choice demands after (Reserved word.Max) = Ask demands (of_aggregate aggregate.Max after)
aggregate_choice demands after _ = Stop

unfoldable pub decide : Symbol → Lexeme → Choice
decide (AWord word) (Reserved found) = if same_keyword found word then Take [] else Stop
decide Opening (Punct mark.Open) = Take []
decide Closing (Punct mark.Close) = Take []
decide AnOperand t = operand_choice [] t
decide (SignedDigits is_negative) (Digits digits) = Ask (Fits is_negative digits ∷ []) []
decide PredicateTail (Compare op) = Take (AnOperand ∷ [])
decide PredicateTail (Reserved word.Is) = Take (NullTail ∷ [])
decide PredicateTail (Reserved word.Not) = Take (RangeTail ∷ [])
decide PredicateTail t = range_choice t
decide RangeTail t = range_choice t
decide NullTail (Reserved word.Null) = Take []
decide NullTail (Reserved word.Not) = Take (NotNullTail ∷ [])
decide NotNullTail (Reserved word.Null) = Take []
decide (CommaTail of) (Punct mark.Comma) = Take (one_of of ∷ CommaTail of ∷ [])
decide (CommaTail of) t = Pass
decide (AFactor depth) (Reserved word.Not) = Ask (Depth (suc depth) ∷ []) (APrimary (suc depth) ∷ TestTail ∷ [])
decide (AFactor depth) t = primary_choice depth (TestTail ∷ []) t
decide (APrimary depth) t = primary_choice depth [] t
decide TestTail (Reserved word.Is) = Take (TruthTail ∷ [])
decide TestTail t = Pass
decide TruthTail (Reserved word.Not) = Take (NotTruthTail ∷ [])
decide TruthTail t = truth_choice t
decide NotTruthTail t = truth_choice t
decide (PartTail junction.All depth) (Reserved word.And) = Take (a_part junction.All depth (PartTail junction.All depth ∷ []))
decide (PartTail junction.Any depth) (Reserved word.Or) = Take (a_part junction.Any depth (PartTail junction.Any depth ∷ []))
decide (PartTail by depth) t = Pass
decide ItemList (Punct mark.Star) = Take []
decide ItemList (Name text) = Ask (NamesColumn text ∷ []) (CommaTail (Some true) ∷ [])
decide ItemList t = aggregate_choice [] (CommaTail (Some false) ∷ []) t
decide (AnItem first) (Name text) = Ask (NamesColumn text ∷ OfOneKind first true ∷ []) []
decide (AnItem first) t = aggregate_choice (OfOneKind first false ∷ []) [] t
decide (AnArgument aggregate.Count) (Punct mark.Star) = Take []
decide (AnArgument kind) (Name text) = Ask (NamesColumn text ∷ []) []
decide ATable (Name text) = Ask (NamesTable text ∷ []) []
decide ASelection (Reserved word.Where) = Take (a_part junction.Any 0 (PartTail junction.Any 0 ∷ []))
decide ASelection t = Pass
decide AnEnd (Punct mark.Semicolon) = Take []
decide AStatement (Reserved word.Select) = Take (ItemList ∷ AWord word.From ∷ ATable ∷ ASelection ∷ AnEnd ∷ [])
decide _ _ = Stop

-- the symbols that may be passed at the end
unfoldable pub may_end : Symbol → Bool
may_end (CommaTail of) = true
may_end TestTail = true
may_end (PartTail by depth) = true
may_end ASelection = true
may_end AnEnd = true
may_end _ = false

unfoldable pub all_may_end : List Symbol → Bool
all_may_end [] = true
all_may_end (s ∷ stack) = may_end s && all_may_end stack

-- a stack, if the demands are met, asked in this order
abbrev pub ask : (Demand → Bool) → List Demand → List Symbol → Result (List Symbol) Refusal
ask met [] stack = Ok stack
ask met (d ∷ demands) stack = if met d then ask met demands stack else Err (refusal d)

-- what a choice makes of the stack below the symbol, given what the stack makes of the token
abbrev pub chosen : (Demand → Bool) → Choice → List Symbol → Result (List Symbol) Refusal → Result (List Symbol) Refusal
chosen met (Ask demands symbols) stack passed = ask met demands (symbols ++ stack)
chosen met Pass stack passed = passed
chosen met Stop stack passed = Err Syntax

unfoldable pub step : (Demand → Bool) → List Symbol → Lexeme → Result (List Symbol) Refusal
step met [] t = Err Syntax
step met (s ∷ stack) t = chosen met (decide s t) stack (step met stack t)

-- how many tokens are left when a token is rejected, after a sign or not: a literal is rejected at
-- its sign
abbrev pub left_at : Refusal → Bool → ℕ → ℕ
left_at Literal true after = suc (suc after)
left_at _ _ after = suc after

abbrev pub proceed : Bool → Result (List Symbol) Refusal → ℕ → (List Symbol → Result (Unit {0}) Halt) → Result (Unit {0}) Halt
proceed signed (Ok stack) after onward = onward stack
proceed signed (Err why) after onward = Err (record { why = why; left = left_at why signed after })

-- a run over all tokens, after a sign or not, with all demands of the schema
unfoldable pub run : Schema → Bool → List Symbol → List Lexeme → Result (Unit {0}) Halt
run schema signed stack [] = if all_may_end stack then Ok tt else Err (record { why = Syntax; left = 0 })
run schema signed stack (t ∷ tokens) =
    proceed signed (step (is_met schema) stack t) (length tokens) (λ next. run schema (is_sign t) next tokens)
