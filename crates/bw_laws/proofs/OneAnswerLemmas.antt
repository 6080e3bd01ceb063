-- A schema text, a CSV text and a statement have one answer.
use Rattle.std.proofs.Common.{◌≡◌, ◌∙◌, ℕ, not, ◌||◌, ◌==◌, List, Result, Ok, Err, sym, ap, subst}
use Rattle.bw_model.specs.declared.column.Column.{Column}
use Rattle.bw_model.specs.declared.fault.Fault.{Fault}
use Rattle.bw_model.specs.declared.query.Query.{Query}
use Rattle.bw_model.specs.declared.schema.Schema.{Schema}
use Rattle.bw_model.specs.Column.{names_of}
use Rattle.bw_model.specs.Fault.{◌>>=◌}
use Rattle.bw_model.specs.SchemaText.{SchemaShape, schema_shape}
use Rattle.bw_model.proofs.FaultLemmas.{then_same}
use Rattle.bw_io.specs.Source.{Arrival, NotReached, Whole}
use Rattle.bw_sql.specs.declared.reader.Refusal.{Refusal}
use Rattle.bw_sql.specs.declared.reader.Refusal.TheVariants.{Syntax, Literal}
use Rattle.bw_sql.specs.QueryShape.{QueryShape, query_shape}
use Rattle.bw_sql.specs.Demand.{meets, refusal}
use Rattle.bw_sql.specs.Frontier.{Begins, Stands, IsFirst, asked_for, at_token, at_sign, at_end}
use Rattle.bw_sql.specs.Grammar.{StatementIs}
use Rattle.bw_sql.specs.Refusal.{code_of}
use Rattle.bw_sql.specs.Statement.{IsFault, IsReadAs, IsRefusal, too_long, refused, token_refused}
use Rattle.bw_sql.specs.Statement.{end_refused, byte_refused}
use Rattle.bw_sql.specs.Token.{Lexeme}
use Rattle.bw_sql.proofs.SameNames.{columns_too, spells_too}
use Rattle.bw_sql.proofs.Texts.{text_query, same_fault, spelled_or_refused}
use Rattle.bw_answer.specs.Answer.{csv_text, meaning}
use Rattle.bw_csv.specs.Input.{IsMadeOf, IsMadeAfter}
use Rattle.bw_csv.specs.Rows.{rows_of}
use Rattle.bw_csv_calls.specs.ReadInputs.{IsSchemaFrom}
use Rattle.bw_csv_calls.specs.Direct.{IsAnswer, IsAnswerUnder, answer_of}
use Rattle.bw_laws.specs.OneAnswer.{query_asked_in, shape_in}
use Rattle.bw_laws.proofs.OneMeaningLemmas.{one_meaning}
use Rattle.bw_laws.proofs.SchemaTextLemmas as texts

-- what is spelled under a schema, as far as the demands of one number go, is spelled under one of
-- its shape
spelled_too : (s t : Schema) (why : Refusal) (tokens : List Lexeme) (query : QueryShape) → schema_shape s ≡ schema_shape t
    → StatementIs s.columns.items (asked_for s why) tokens query → StatementIs t.columns.items (asked_for t why) tokens query
spelled_too s t why tokens query same spelled =
    subst (λ (name : List ℕ). StatementIs t.columns.items (λ d. not (code_of (refusal d) == code_of why) || meets name t.columns.items d) tokens query)
    (ap (λ (h : SchemaShape). h.name) same)
    (subst (λ (cs : List Column). StatementIs cs (λ d. not (code_of (refusal d) == code_of why) || meets s.name cs d) tokens query) (columns_too s t same) spelled)

begins_too : (s t : Schema) (why : Refusal) (tokens : List Lexeme) → schema_shape s ≡ schema_shape t → Begins s why tokens → Begins t why tokens
begins_too s t why tokens same begins =
    record { more = begins.more; query = begins.query; spelled = spelled_too s t why _ begins.query same begins.spelled }

-- so each error is at the same place under a schema of its shape
stands_too : (s t : Schema) (tokens : List Lexeme) (why : Refusal) (place : ℕ) → schema_shape s ≡ schema_shape t → Stands s tokens why place → Stands t tokens why place
stands_too s t tokens why place same (at_token before after token is begins stops) =
    at_token before after token is (begins_too s t why before same begins) (λ goes_on. stops (begins_too t s why _ (sym same) goes_on))
stands_too s t tokens why place same (at_sign before after token digits sign is begins stops) =
    at_sign before after token digits sign is (begins_too s t Literal before same begins) (λ goes_on. stops (begins_too t s Literal _ (sym same) goes_on))
stands_too s t tokens why place same (at_end begins stops) =
    at_end (begins_too s t Syntax tokens same begins) (λ query spelled. stops query (spelled_too t s Syntax tokens query (sym same) spelled))

first_too : (s t : Schema) (tokens : List Lexeme) (why : Refusal) (place : ℕ) → schema_shape s ≡ schema_shape t → IsFirst s tokens why place → IsFirst t tokens why place
first_too s t tokens why place same first = record {
  stands = stands_too s t tokens why place same first.stands;
  first = λ other at stands. first.first other at (stands_too t s tokens other at (sym same) stands);
}

refusal_too : (s t : Schema) (text : List ℕ) (fault : Fault) → schema_shape s ≡ schema_shape t → IsRefusal s text fault → IsRefusal t text fault
refusal_too s t text fault same (token_refused cut first at) = token_refused cut (first_too s t _ _ _ same first) at
refusal_too s t text fault same (end_refused cut first) = end_refused cut (first_too s t _ _ _ same first)
refusal_too s t text fault same (byte_refused cut none) = byte_refused cut (λ why place first. none why place (first_too t s _ why place (sym same) first))

fault_too : (s t : Schema) (text : List ℕ) (fault : Fault) → schema_shape s ≡ schema_shape t → IsFault s text fault → IsFault t text fault
fault_too s t text fault same (too_long long) = too_long long
fault_too s t text fault same (refused short refusal) = refused short (refusal_too s t text fault same refusal)

-- a statement is read in one way under schemas of one shape
pub one_reading : (s t : Schema) (text : List ℕ) (reading second : Result Query Fault) → schema_shape s ≡ schema_shape t
    → IsReadAs s text reading → IsReadAs t text second → query_asked_in reading ≡ query_asked_in second
one_reading s t text (Ok query) (Ok other) same a b = ap Ok (text_query t text (query_shape query) (query_shape other) (spells_too s t text (query_shape query) same a) b)
one_reading s t text (Ok query) (Err fault) same a b = absurd (spelled_or_refused t text (query_shape query) fault (spells_too s t text (query_shape query) same a) b)
one_reading s t text (Err fault) (Ok query) same a b = absurd (spelled_or_refused t text (query_shape query) fault b (fault_too s t text fault same a))
one_reading s t text (Err fault) (Err other) same a b = ap Err (same_fault t text fault other (fault_too s t text fault same a) b)

-- a schema text is read in one way
pub one_schema : (came : Arrival) (reading second : Result Schema Fault) → IsSchemaFrom came reading → IsSchemaFrom came second
    → shape_in reading ≡ shape_in second
one_schema NotReached reading second a b = absurd a
one_schema (Whole text) (Ok schema) (Ok other) a b = ap Ok (texts.one_schema text (schema_shape schema) (schema_shape other) a b)
one_schema (Whole text) (Ok schema) (Err fault) a b = absurd (texts.not_both text (schema_shape schema) fault a b)
one_schema (Whole text) (Err fault) (Ok schema) a b = absurd (texts.not_both text (schema_shape schema) fault b a)
one_schema (Whole text) (Err fault) (Err other) a b =
    ap Err (texts.one_fault text fault other a b)
one_schema _ reading second a b = ap shape_in (a ∙ sym b)

-- what follows from an answer, if it is the same of each
answer_of_alike : (columns : List Column) (query other : Query) (text : List ℕ) → query_shape query ≡ query_shape other → answer_of columns query text ≡ answer_of columns other text
answer_of_alike columns query other text same =
    then_same (rows_of columns text) (λ rows. Ok (csv_text (meaning (names_of columns) query rows))) (λ rows. Ok (csv_text (meaning (names_of columns) other rows)))
    (λ rows. ap (λ (records : List (List (List ℕ))). Ok (csv_text records)) (one_meaning (names_of columns) query other rows same))

answers_alike : (s t : Schema) (query other : Query) (text : List ℕ) → s.columns.items ≡ t.columns.items → query_shape query ≡ query_shape other
    → answer_of s.columns.items query text ≡ answer_of t.columns.items other text
answers_alike s t query other text columns same =
    ap (λ (cs : List Column). answer_of cs query text) columns ∙ answer_of_alike t.columns.items query other text same

-- what is made of a CSV in ways that are alike is the same, also after steps that are alike
made_alike : (f g : List ℕ → Result (List ℕ) Fault) (csv : Arrival) (given other : Result (List ℕ) Fault) → ((text : List ℕ) → f text ≡ g text) → IsMadeOf f csv given → IsMadeOf g csv other
    → given ≡ other
made_alike f g NotReached given other alike a b = absurd a
made_alike f g (Whole text) given other alike a b = a ∙ alike text ∙ sym b
made_alike f g _ given other alike a b = a ∙ sym b

pub after_alike : {A B : Type 0} (view : A → B) (f g : A → List ℕ → Result (List ℕ) Fault) (first second : Result A Fault) (csv : Arrival) (given other : Result (List ℕ) Fault)
    → ((x y : A) (text : List ℕ) → view x ≡ view y → f x text ≡ g y text) → (first >>= λ x. Ok (view x)) ≡ (second >>= λ x. Ok (view x))
    → IsMadeAfter first f csv given → IsMadeAfter second g csv other → given ≡ other
after_alike view f g (Ok x) (Ok y) csv given other alike same a b =
    let one : view x ≡ view y = cc same in made_alike (f x) (g y) csv given other (λ text. alike x y text one) a b
after_alike view f g (Err fault) (Err second) csv given other alike same a b = let one : fault ≡ second = cc same in a.1 ∙ ap Err one ∙ sym b.1
after_alike view f g _ _ csv given other alike same a b = absurd (cc same)

under_alike : (reading second : Result Schema Fault) (sql : List ℕ) (csv : Arrival) (given other : Result (List ℕ) Fault)
    → shape_in reading ≡ shape_in second → IsAnswerUnder reading sql csv given → IsAnswerUnder second sql csv other → given ≡ other
under_alike (Ok s) (Ok t) sql csv given other same a b =
    let shape : schema_shape s ≡ schema_shape t = cc same in
    after_alike query_shape (answer_of s.columns.items) (answer_of t.columns.items) a.0 b.0 csv given other (λ x y text one. answers_alike s t x y text (columns_too s t shape) one)
    (one_reading s t sql a.0 b.0 shape a.1 b.1) a.2 b.2
under_alike (Err fault) (Err second) sql csv given other same a b = let one : fault ≡ second = cc same in a.1 ∙ ap Err one ∙ sym b.1
under_alike _ _ sql csv given other same a b = absurd (cc same)

pub one_answer : (schema csv : Arrival) (sql : List ℕ) (given other : Result (List ℕ) Fault) → IsAnswer schema sql csv given → IsAnswer schema sql csv other → given ≡ other
one_answer schema csv sql given other a b = under_alike a.0 b.0 sql csv given other (one_schema schema a.0 b.0 a.1 b.1) a.2 b.2
