-- The grammar of statements, as a relation by cases: the tokens of the first list spell the thing,
-- up to the second list, which follows it. Demands beyond the productions are tested by `met`:
-- tokens are spelled as if every demand for which it is true were met.
use Rattle.std.specs.Prelude.{ℕ, suc, Bool, true, false, List, [], ◌∷◌, IsTrue}
use Rattle.bw_model.specs.declared.column.Column.{Column}
use Rattle.bw_model.specs.declared.cond.Operand.{Operand}
use Rattle.bw_model.specs.declared.cond.Operand.TheVariants.{Col, Lit, Null}
use Rattle.bw_model.specs.declared.cond.Op.{Op}
use Rattle.bw_model.specs.declared.cond.Truth.{Truth}
use Rattle.bw_model.specs.declared.cond.Truth.TheVariants.{No, Unknown, Yes}
use Rattle.bw_text.specs.declared.keyword.Keyword.TheVariants as word
use Rattle.bw_model.specs.declared.query.Item.{Item}
use Rattle.bw_model.specs.declared.query.Item.TheVariants.{Plain, CountAll}
use Rattle.bw_model.specs.declared.schema.Schema.{Schema}
use Rattle.bw_model.specs.declared.junction.Junction.{Junction}
use Rattle.bw_model.specs.declared.junction.Junction.TheVariants as junction
use Rattle.bw_sql.specs.declared.items.Aggregate.{Aggregate}
use Rattle.bw_sql.specs.declared.token.Mark.TheVariants as mark
use Rattle.bw_sql.specs.QueryShape.{QueryShape}
use Rattle.bw_model.specs.CondTree.{CondTree, CondTrees, Always, Cmp, Between, Among, IsNull, Not}
use Rattle.bw_model.specs.CondTree.{Test, trees_of}
use Rattle.bw_sql.specs.Demand.{Demand, NamesTable, NamesColumn, Fits, OfOneKind, Depth}
use Rattle.bw_sql.specs.Demand.{column_number, every_column, is_met, number_with_sign}
use Rattle.bw_sql.specs.Words.{word_of, join_of, aggregate_word, of_column}
use Rattle.bw_sql.specs.Token.{Lexeme, Name, Digits, Reserved, Compare, Punct}

-- a truth value
pub data TruthIs : List Lexeme → List Lexeme → Truth → Type 0 where
  true_word : {rest : List Lexeme} → TruthIs (Reserved word.True ∷ rest) rest Yes
  false_word : {rest : List Lexeme} → TruthIs (Reserved word.False ∷ rest) rest No
  unknown_word : {rest : List Lexeme} → TruthIs (Reserved word.Unknown ∷ rest) rest Unknown

-- a single part is itself, and several are joined
abbrev pub fold_operands : (CondTrees → CondTree) → CondTree → List CondTree → CondTree
fold_operands join first [] = first
fold_operands join first (c ∷ others) = join (trees_of (first ∷ c ∷ others))

-- operand = name | [ + | - ] digits | NULL
pub data OperandIs (columns : List Column) (met : Demand → Bool) : List Lexeme → List Lexeme
    → Operand → Type 0 where
  null : {rest : List Lexeme} → OperandIs columns met (Reserved word.Null ∷ rest) rest Null
  column : {rest : List Lexeme} {text : List ℕ} → IsTrue (met (NamesColumn text)) →
      OperandIs columns met (Name text ∷ rest) rest (Col (column_number columns text))
  unsigned : {rest : List Lexeme} {digits : List ℕ} → IsTrue (met (Fits false digits)) →
      OperandIs columns met (Digits digits ∷ rest) rest (Lit (number_with_sign false digits))
  plus : {rest : List Lexeme} {digits : List ℕ} → IsTrue (met (Fits false digits)) →
      OperandIs columns met (Punct mark.Plus ∷ Digits digits ∷ rest) rest
      (Lit (number_with_sign false digits))
  minus : {rest : List Lexeme} {digits : List ℕ} → IsTrue (met (Fits true digits)) →
      OperandIs columns met (Punct mark.Minus ∷ Digits digits ∷ rest) rest
      (Lit (number_with_sign true digits))

-- { , thing }
pub data CommaList {A : Type 0} (Is : List Lexeme → List Lexeme → A → Type 0) : List Lexeme
    → List Lexeme → List A → Type 0 where
  no_more : {rest : List Lexeme} → CommaList Is rest rest []
  one_more : {tokens others rest : List Lexeme} {x : A} {xs : List A} →
      Is tokens others x → CommaList Is others rest xs →
      CommaList Is (Punct mark.Comma ∷ tokens) rest (x ∷ xs)

-- BETWEEN operand AND operand | IN ( operand { , operand } ), for an operand x
pub data RangeIs (columns : List Column) (met : Demand → Bool) (x : Operand) : List Lexeme
    → List Lexeme → CondTree → Type 0 where
  between : {low high rest : List Lexeme} {y z : Operand} →
      OperandIs columns met low (Reserved word.And ∷ high) y → OperandIs columns met high rest z →
      RangeIs columns met x (Reserved word.Between ∷ low) rest (Between x y z)
  among : {first others rest : List Lexeme} {y : Operand} {ys : List Operand} →
      OperandIs columns met first others y →
      CommaList (OperandIs columns met) others (Punct mark.Close ∷ rest) ys →
      RangeIs columns met x (Reserved word.In ∷ Punct mark.Open ∷ first) rest (Among x (y ∷ ys))

-- what follows an operand x: compare operand | [ NOT ] BETWEEN .. | [ NOT ] IN .. | IS [ NOT ] NULL
pub data ComparedIs (columns : List Column) (met : Demand → Bool) (x : Operand) : List Lexeme
    → List Lexeme → CondTree → Type 0 where
  comparison : {tokens rest : List Lexeme} {y : Operand} {op : Op} →
      OperandIs columns met tokens rest y →
      ComparedIs columns met x (Compare op ∷ tokens) rest (Cmp op x y)
  range : {tokens rest : List Lexeme} {c : CondTree} → RangeIs columns met x tokens rest c →
      ComparedIs columns met x tokens rest c
  not_range : {tokens rest : List Lexeme} {c : CondTree} → RangeIs columns met x tokens rest c →
      ComparedIs columns met x (Reserved word.Not ∷ tokens) rest (Not c)
  is_null : {rest : List Lexeme} →
      ComparedIs columns met x (Reserved word.Is ∷ Reserved word.Null ∷ rest) rest (IsNull x)
  is_not_null : {rest : List Lexeme} →
      ComparedIs columns met x (Reserved word.Is ∷ Reserved word.Not ∷ Reserved word.Null
      ∷ rest) rest (Not (IsNull x))

-- predicate = an operand, and what follows it
pub data PredicateIs (columns : List Column) (met : Demand → Bool) : List Lexeme → List Lexeme
    → CondTree → Type 0 where
  compared : {tokens others rest : List Lexeme} {x : Operand} {c : CondTree} →
      OperandIs columns met tokens others x →
      ComparedIs columns met x others rest c → PredicateIs columns met tokens rest c

-- what follows a primary c: [ IS [ NOT ] ( TRUE | FALSE | UNKNOWN ) ]
pub data TestedIs (c : CondTree) : List Lexeme → List Lexeme → CondTree → Type 0 where
  untested : {rest : List Lexeme} → TestedIs c rest rest c
  is : {tokens rest : List Lexeme} {t : Truth} → TruthIs tokens rest t →
      TestedIs c (Reserved word.Is ∷ tokens) rest (Test c t)
  is_not : {tokens rest : List Lexeme} {t : Truth} → TruthIs tokens rest t →
      TestedIs c (Reserved word.Is ∷ Reserved word.Not ∷ tokens) rest (Not (Test c t))

-- Conditions, inside this many brackets and NOTs.
mutual
  -- cond = term { OR term }, and term = factor { AND factor }: a part, alone or joined with further
  -- parts
  pub data JoinedIs (columns : List Column) (met : Demand → Bool) : Junction → ℕ → List Lexeme
      → List Lexeme → CondTree → Type 0 where
    parts : {by : Junction} {depth : ℕ} {tokens others rest : List Lexeme} {c : CondTree}
        {cs : List CondTree} →
        PartIs columns met by depth tokens others c →
        MoreParts columns met by depth others rest cs →
        JoinedIs columns met by depth tokens rest (fold_operands (join_of by) c cs)

  -- { OR term }, or { AND factor }
  pub data MoreParts (columns : List Column) (met : Demand → Bool) : Junction → ℕ → List Lexeme
      → List Lexeme → List CondTree → Type 0 where
    last_part : {by : Junction} {depth : ℕ} {rest : List Lexeme}
        → MoreParts columns met by depth rest rest []
    next_part : {by : Junction} {depth : ℕ} {tokens others rest : List Lexeme} {c : CondTree}
        {cs : List CondTree} →
        PartIs columns met by depth tokens others c →
        MoreParts columns met by depth others rest cs →
        MoreParts columns met by depth (Reserved (word_of by) ∷ tokens) rest (c ∷ cs)

  -- the parts of a term are factors, and those of a condition are terms
  pub data PartIs (columns : List Column) (met : Demand → Bool) : Junction → ℕ → List Lexeme
      → List Lexeme → CondTree → Type 0 where
    factor : {depth : ℕ} {tokens rest : List Lexeme} {c : CondTree} →
        FactorIs columns met depth tokens rest c
        → PartIs columns met junction.All depth tokens rest c
    term : {depth : ℕ} {tokens rest : List Lexeme} {c : CondTree} →
        JoinedIs columns met junction.All depth tokens rest c
        → PartIs columns met junction.Any depth tokens rest c

  -- factor = [ NOT ] test
  pub data FactorIs (columns : List Column) (met : Demand → Bool) : ℕ → List Lexeme → List Lexeme
      → CondTree → Type 0 where
    test : {depth : ℕ} {tokens rest : List Lexeme} {c : CondTree} →
        TestIs columns met depth tokens rest c → FactorIs columns met depth tokens rest c
    not_test : {depth : ℕ} {tokens rest : List Lexeme} {c : CondTree} →
        IsTrue (met (Depth (suc depth))) →
        TestIs columns met (suc depth) tokens rest c
        → FactorIs columns met depth (Reserved word.Not ∷ tokens) rest
        (Not c)

  -- test = a primary, and what follows it
  pub data TestIs (columns : List Column) (met : Demand → Bool) : ℕ → List Lexeme → List Lexeme
      → CondTree → Type 0 where
    tested : {depth : ℕ} {tokens others rest : List Lexeme} {c d : CondTree} →
        PrimaryIs columns met depth tokens others c → TestedIs c others rest d
        → TestIs columns met depth tokens rest d

  -- primary = ( cond ) | predicate
  pub data PrimaryIs (columns : List Column) (met : Demand → Bool) : ℕ → List Lexeme → List Lexeme
      → CondTree → Type 0 where
    predicate : {depth : ℕ} {tokens rest : List Lexeme} {c : CondTree} →
        PredicateIs columns met tokens rest c → PrimaryIs columns met depth tokens rest c
    bracket : {depth : ℕ} {tokens rest : List Lexeme} {c : CondTree} →
        IsTrue (met (Depth (suc depth))) →
        JoinedIs columns met junction.Any (suc depth) tokens (Punct mark.Close ∷ rest) c →
        PrimaryIs columns met depth (Punct mark.Open ∷ tokens) rest c

-- item = name | COUNT ( * ) | ( COUNT | SUM | MIN | MAX ) ( name ), and whether it is a plain
-- column
pub data ItemIs (columns : List Column) (met : Demand → Bool) : Bool → List Lexeme → List Lexeme
    → Item → Type 0 where
  plain : {rest : List Lexeme} {text : List ℕ} → IsTrue (met (NamesColumn text)) →
      ItemIs columns met true (Name text ∷ rest) rest (Plain (column_number columns text))
  count_all : {rest : List Lexeme} →
      ItemIs columns met false (Reserved word.Count ∷ Punct mark.Open ∷ Punct mark.Star
      ∷ Punct mark.Close
      ∷ rest) rest CountAll
  aggregate : (kind : Aggregate) {rest : List Lexeme} {text : List ℕ} →
      IsTrue (met (NamesColumn text)) →
      ItemIs columns met false (Reserved (aggregate_word kind) ∷ Punct mark.Open ∷ Name text
      ∷ Punct mark.Close ∷ rest)
      rest (of_column kind (column_number columns text))

-- an item after a first one that is a plain column or isn't
pub data NextItemIs (columns : List Column) (met : Demand → Bool) (first : Bool) : List Lexeme
    → List Lexeme → Item → Type 0 where
  next_item : {other : Bool} {tokens rest : List Lexeme} {item : Item} →
      IsTrue (met (OfOneKind first other)) →
      ItemIs columns met other tokens rest item → NextItemIs columns met first tokens rest item

-- list = * | item { , item }
pub data ItemsAre (columns : List Column) (met : Demand → Bool) : List Lexeme → List Lexeme
    → List Item → Type 0 where
  star : {rest : List Lexeme}
      → ItemsAre columns met (Punct mark.Star ∷ rest) rest (every_column columns)
  items : {first : Bool} {tokens others rest : List Lexeme} {item : Item} {items : List Item} →
      ItemIs columns met first tokens others item →
      CommaList (NextItemIs columns met first) others rest items →
      ItemsAre columns met tokens rest (item ∷ items)

-- [ WHERE cond ]
pub data SelectionIs (columns : List Column) (met : Demand → Bool) : List Lexeme → List Lexeme
    → CondTree → Type 0 where
  all_rows : {rest : List Lexeme} → SelectionIs columns met rest rest Always
  rows_where : {tokens rest : List Lexeme} {c : CondTree} →
      JoinedIs columns met junction.Any 0 tokens rest c →
      SelectionIs columns met (Reserved word.Where ∷ tokens) rest c

-- [ ; ] and the end
pub data EndIs : List Lexeme → Type 0 where
  bare : EndIs []
  semicolon : EndIs (Punct mark.Semicolon ∷ [])

-- query = SELECT list FROM name [ WHERE cond ] [ ; ]
pub data StatementIs (columns : List Column) (met : Demand → Bool) : List Lexeme → QueryShape
    → Type 0 where
  statement : {tokens selection last : List Lexeme} {table : List ℕ} {asked : QueryShape} →
      ItemsAre columns met tokens (Reserved word.From ∷ Name table ∷ selection) asked.items
      → IsTrue (met (NamesTable table)) →
      SelectionIs columns met selection last asked.cond → EndIs last →
      StatementIs columns met (Reserved word.Select ∷ tokens) asked

-- the tokens spell the query: by the productions, and with all demands met
abbrev pub IsQuery : Schema → List Lexeme → QueryShape → Type 0
IsQuery schema tokens asked = StatementIs schema.columns.items (is_met schema) tokens asked
