-- What a text is read as, and that it spells it or is rejected for it.
use Rattle.std.proofs.Common.{◌≡◌, ℕ, ◌-◌, ◌<◌, ◌≤◌, ◌⊎◌, inl, inr, true, false, ◌==◌, List, []}
use Rattle.std.proofs.Common.{◌∷◌, length, Option, Some, None, Result, Ok, Err, IfErr, slice_get}
use Rattle.std.proofs.Common.{refl, sym, ◌∙◌, ap, subst, arith, find}
use Rattle.std.proofs.lemmas.List.{length-map}
use Rattle.std.proofs.lemmas.Bool.{cases_lt}
use Rattle.std.proofs.lemmas.Option.{slice_get_cases, slice_get_past}
use Rattle.bw_model.specs.declared.fault.Fault.{Fault}
use Rattle.bw_model.specs.declared.query.Query.{Query}
use Rattle.bw_model.specs.declared.schema.Schema.{Schema}
use Rattle.bw_model.specs.Fault.{at_byte, is_memory, no_memory}
use Rattle.bw_model.proofs.ErrLemmas.{memory_is}
use Rattle.bw_sql.specs.declared.reader.Refusal.{Refusal}
use Rattle.bw_sql.specs.declared.reader.Refusal.TheVariants.{Syntax, UnknownTable, UnknownColumn}
use Rattle.bw_sql.specs.declared.reader.Refusal.TheVariants.{Literal, MixedItems, Nesting}
use Rattle.bw_sql.specs.declared.reader.Stop.{Stop}
use Rattle.bw_sql.specs.declared.reader.Stop.TheVariants.{Refused, OutOfMemory}
use Rattle.bw_sql.specs.declared.token.PlacedToken.{PlacedToken}
use Rattle.bw_sql.specs.QueryShape.{QueryShape, query_shape}
use Rattle.bw_sql.specs.Cut.{IsCut, Spot, spots}
use Rattle.bw_sql.specs.Demand.{is_met}
use Rattle.bw_sql.specs.Frontier.{Stands, IsFirst, asked_for}
use Rattle.bw_sql.specs.Grammar.{IsQuery}
use Rattle.bw_sql.specs.Verdict.{Answers, IsFaultOf, IsRead, fault_at, parse_verdict}
use Rattle.bw_sql.specs.Limits.{longest_statement}
use Rattle.bw_sql.specs.Reader.{Reads}
use Rattle.bw_sql.specs.Reading.{Halt, statement_at}
use Rattle.bw_sql.specs.Refusal.{code_of}
use Rattle.bw_sql.specs.Statement.{IsFault, IsRefusal, SpellsOrFails, Parses, Spells, too_long}
use Rattle.bw_sql.specs.Statement.{refused, token_refused, end_refused, byte_refused, tokens_of}
use Rattle.bw_sql.specs.Token.{Lexeme, lexeme, lexemes}
use Rattle.bw_sql.proofs.Cases.{bool_cases}
use Rattle.bw_sql.proofs.Frontiers.{FirstFault, first_fault, only_at_end, asked_for_weaker}
use Rattle.bw_sql.proofs.Frontiers.{path_weaker, Ran, whole, ran_so}
use Rattle.bw_sql.proofs.Machine.{Symbol, AStatement, all_may_end}
use Rattle.bw_sql.proofs.Cuts.{cut_of_text, one_cut_of}
use Rattle.bw_sql.proofs.Spelled.{query_read}
use Rattle.bw_sql.proofs.Viable.{Path, path_spelled}

-- the machine reads all tokens of what is read
accepted : (schema : Schema) (tokens : List Lexeme) (q : QueryShape) → statement_at schema tokens ≡ Ok q →
    (last : List Symbol) × Path (is_met schema) (AStatement ∷ []) tokens last × (all_may_end last ≡ true)
accepted schema tokens q e = go (ran_so schema tokens (Ok q) e) where
  go : Ran schema false (AStatement ∷ []) tokens (Ok tt) →
      (last : List Symbol) × Path (is_met schema) (AStatement ∷ []) tokens last × (all_may_end last ≡ true)
  go (whole last p m) = (last, p, m)

-- what is read is spelled by the grammar, with all demands met
pub query_spelled : (schema : Schema) (tokens : List Lexeme) (q : QueryShape) → statement_at schema tokens ≡ Ok q →
    IsQuery schema tokens q
query_spelled schema tokens q e =
    let p = accepted schema tokens q e in
    let other = path_spelled schema (is_met schema) (λ d m. m) tokens p.0 p.1 p.2 in
    let both : ◌≡◌ {A = Result QueryShape Halt} (Ok other.0) (Ok q) = sym (query_read schema tokens other.0 other.1) ∙ e in
    let same : other.0 ≡ q = cc in
    subst (λ q. IsQuery schema tokens q) same other.1

pub same_query : (schema : Schema) (tokens : List Lexeme) (query other : QueryShape) → IsQuery schema tokens query →
    IsQuery schema tokens other → query ≡ other
same_query schema tokens query other a b =
    let both : ◌≡◌ {A = Result QueryShape Halt} (Ok query) (Ok other) =
    sym (query_read schema tokens query a) ∙ query_read schema tokens other b in cc

-- from what the readers answer to what a text is read as
pub tokens_are : (items : List PlacedToken) → tokens_of (spots items) ≡ lexemes items
tokens_are [] = refl
tokens_are (placed ∷ items) = ap (λ tokens. lexeme placed.token ∷ tokens) (tokens_are items)

pub read_so : (schema : Schema) (text : List ℕ) (items : List PlacedToken) (stop : Option ℕ) → IsCut 0 text (spots items) stop →
    (reading : Result QueryShape Halt) (outcome : Result QueryShape Fault) → statement_at schema (lexemes items) ≡ reading →
    outcome ≡ parse_verdict (spots items) stop (length text) reading → IsRead schema text outcome
read_so schema text items stop cut reading outcome e f =
    record { tokens = spots items; stop = stop; cut = cut; is = f ∙ (rw (tokens_are items, e) refl) }

pub refused_so : (schema : Schema) (text : List ℕ) (items : List PlacedToken) (stop : Option ℕ) → IsCut 0 text (spots items) stop →
    (why : Stop) (fault : Fault) → Reads query_shape (Err why) (statement_at schema (lexemes items)) →
    IsFaultOf (spots items) stop (length text) why fault → Answers schema text (Err fault)
refused_so schema text items stop cut (Refused why left) fault read is m = read_so schema text items stop cut _ (Err fault) read (ap Err is)
refused_so schema text items stop cut OutOfMemory fault read is m = absurd (let e : is_memory fault ≡ true = ap is_memory is in cc)

-- a text is read in one way, and as what it spells
read_same : (schema : Schema) (text : List ℕ) (a b : Result QueryShape Fault) → IsRead schema text a → IsRead schema text b → a ≡ b
read_same schema text a b r s =
    let same = one_cut_of 0 text r.tokens s.tokens r.stop s.stop r.cut s.cut in
    r.is ∙ (rw (same.0, same.1) (sym s.is))

spelled_read : (schema : Schema) (text : List ℕ) (query : QueryShape) → Spells schema text query → IsRead schema text (Ok query)
spelled_read schema text query s = record {
  tokens = s.tokens;
  stop = None;
  cut = s.cut;
  is = rw (query_read schema (tokens_of s.tokens) query s.spelled) refl;
}

judged_ok : (tokens : List Spot) (stop : Option ℕ) (end : ℕ) (reading : Result QueryShape Halt) (query : QueryShape) →
    Ok query ≡ parse_verdict tokens stop end reading → (stop ≡ None) × (reading ≡ Ok query)
judged_ok tokens None end (Ok q) query f = (refl, cc)
judged_ok tokens (Some at) end (Ok q) query f = cc
judged_ok tokens stop end (Err halt) query f = cc

read_spelled : (schema : Schema) (text : List ℕ) → length text ≤ longest_statement → (query : QueryShape) →
    IsRead schema text (Ok query) → Spells schema text query
read_spelled schema text short query r =
    let p = judged_ok r.tokens r.stop (length text) (statement_at schema (tokens_of r.tokens)) query r.is in
    record {
      short = short;
      tokens = r.tokens;
      cut = subst (λ stop. IsCut 0 text r.tokens stop) p.0 r.cut;
      spelled = query_spelled schema (tokens_of r.tokens) query p.1;
    }

pub text_query : (schema : Schema) (text : List ℕ) (query other : QueryShape) → Spells schema text query → Spells schema text other →
    query ≡ other
text_query schema text query other a b =
    let both : ◌≡◌ {A = Result QueryShape Fault} (Ok query) (Ok other) =
    read_same schema text (Ok query) (Ok other) (spelled_read schema text query a) (spelled_read schema text other b) in cc

not_refused : (schema : Schema) (text : List ℕ) (query : QueryShape) (fault : Fault) → Spells schema text query →
    IsRead schema text (Err fault) → ⊥
not_refused schema text query fault s r =
    let both = read_same schema text (Err fault) (Ok query) r (spelled_read schema text query s) in cc

pub only_memory : (schema : Schema) (text : List ℕ) (result : Result Query Fault) →
    (length text ≤ longest_statement → Answers schema text result) → (query : QueryShape) → Spells schema text query →
    IfErr result (λ fault. fault ≡ no_memory)
only_memory schema text (Ok query) exact q s = tt
only_memory schema text (Err fault) exact q s = bool_cases (is_memory fault) (λ m. memory_is fault m)
    (λ m. absurd (not_refused schema text q fault s (exact s.short m)))

-- the first error is one
refusal_of : ℕ → Option Refusal
refusal_of n = find (λ why. code_of why == n) (Syntax ∷ UnknownTable ∷ UnknownColumn ∷ Literal ∷ MixedItems ∷ Nesting ∷ [])

refusal_of_code : (why : Refusal) → refusal_of (code_of why) ≡ Some why
unfolding refusal_of
refusal_of_code Syntax = refl
refusal_of_code _ = refl

first_same : (schema : Schema) (tokens : List Lexeme) (why other : Refusal) (place at : ℕ) → IsFirst schema tokens why place →
    IsFirst schema tokens other at → (why ≡ other) × (place ≡ at)
first_same schema tokens why other place at f g = same (f.first other at g.stands) (g.first why place f.stands) where
  same : ((place < at) ⊎ ((place ≡ at) × (code_of why ≤ code_of other))) →
      ((at < place) ⊎ ((at ≡ place) × (code_of other ≤ code_of why))) →
      (why ≡ other) × (place ≡ at)
  same (inl h) (inl g) = absurd (omega arith)
  same (inl h) (inr g) = absurd (omega (arith, g.0))
  same (inr h) (inl g) = absurd (omega (arith, h.0))
  same (inr h) (inr g) =
      let codes : code_of why ≡ code_of other = omega (arith, h.1, g.1) in
      let both : Some why ≡ Some other = sym (refusal_of_code why) ∙ ap refusal_of codes ∙ refusal_of_code other in (cc, h.0)

past : (tokens : List Spot) (place : ℕ) → slice_get tokens place ≡ None → length tokens ≤ place
past tokens place e = elim (slice_get_cases tokens place).1 [
  | inl spot ↦ (let both : Some spot.0 ≡ None = sym spot.2 ∙ e in cc)
  | inr there ↦ there.0
]

module _ (schema : Schema) (text : List ℕ) (tokens : List Spot) where
  -- if all tokens are read, there is no error
  none_stands : (q : QueryShape) → statement_at schema (tokens_of tokens) ≡ Ok q → (why : Refusal) (place : ℕ) →
      Stands schema (tokens_of tokens) why place → ⊥
  none_stands q e why place stands =
      let p = accepted schema (tokens_of tokens) q e in
      let query_shape = path_spelled schema (asked_for schema Syntax) (asked_for_weaker schema Syntax) (tokens_of tokens) p.0
      (path_weaker schema (asked_for schema Syntax) (asked_for_weaker schema Syntax) p.1) p.2 in
      (only_at_end schema (tokens_of tokens) p.0 p.1 why place stands).2 query_shape.0 query_shape.1

  -- a rejection, by its place among the tokens and after them
  refused_at : (stop : Option ℕ) (why : Refusal) (place : ℕ) → IsCut 0 text tokens stop →
      IsFirst schema (tokens_of tokens) why place →
      (length tokens ≤ place → (place ≡ length tokens) × (why ≡ Syntax)) → (found : Option Spot) → slice_get tokens place ≡ found →
      IsRefusal schema text (fault_at found stop (length text) why)
  refused_at stop why place cut f last (Some spot) e = token_refused cut f e
  refused_at None why place cut f last None e =
      let p = last (past tokens place e) in
      subst (λ w. IsRefusal schema text (fault_at None None (length text) w)) (sym p.1)
      (end_refused cut (subst (λ w. IsFirst schema (tokens_of tokens) w (length tokens)) p.1
      (subst (λ at. IsFirst schema (tokens_of tokens) why at) p.0 f)))
  refused_at (Some at) why place cut f last None e =
      byte_refused cut (λ other p g. elim (f.first other p g.stands) [
        | inl h ↦ omega (arith, past tokens place e)
        | inr h ↦ omega (arith, past tokens place e, h.0)
      ])

  -- where reading halts is the first error
  halted_at : (stop : Option ℕ) (halt : Halt) → statement_at schema (tokens_of tokens) ≡ Err halt → (why : Refusal) (place : ℕ) →
      IsFirst schema (tokens_of tokens) why place →
      Err (fault_at (slice_get tokens place) stop (length text) why) ≡ parse_verdict tokens stop (length text) (Err halt)
  halted_at stop halt e why place f =
      let g = first_fault schema (tokens_of tokens) halt e in
      let same = first_same schema (tokens_of tokens) why halt.why place g.place f g.first in
      let index : length tokens - halt.left ≡ place = omega (arith, g.left, length-map tokens (λ spot. spot.token), same.1) in
      rw (index, ← same.0) refl

  judged_fault : (stop : Option ℕ) (fault : Fault) (reading : Result QueryShape Halt) → IsCut 0 text tokens stop →
      statement_at schema (tokens_of tokens) ≡ reading → Err fault ≡ parse_verdict tokens stop (length text) reading →
      IsRefusal schema text fault
  judged_fault None fault (Ok q) cut e f = cc
  judged_fault (Some at) fault (Ok q) cut e f =
      let same : fault ≡ at_byte 401 at = cc in
      rw same (byte_refused cut (λ why place g. absurd (none_stands q e why place g.stands)))
  judged_fault stop fault (Err halt) cut e f =
      let g = first_fault schema (tokens_of tokens) halt e in
      let at : Err fault ≡ Err (fault_at (slice_get tokens g.place) stop (length text) halt.why) =
      f ∙ sym (halted_at stop halt e halt.why g.place g.first) in
      let same : fault ≡ fault_at (slice_get tokens g.place) stop (length text) halt.why = cc in
      rw same (refused_at stop halt.why g.place cut g.first (last g) (slice_get tokens g.place) refl)
    where
      last : (g : FirstFault schema (tokens_of tokens) halt) → length tokens ≤ g.place →
          (g.place ≡ length tokens) × (halt.why ≡ Syntax)
      last g h =
          let same = length-map tokens (λ spot. spot.token) in
          (omega (arith, h, g.left, same), g.last (omega (arith, h, same)))

  -- what has an error is read as that error
  first_read : (stop : Option ℕ) (why : Refusal) (place : ℕ) (found : Option Spot) → IsFirst schema (tokens_of tokens) why place →
      slice_get tokens place ≡ found → (reading : Result QueryShape Halt) → statement_at schema (tokens_of tokens) ≡ reading →
      Err (fault_at found stop (length text) why) ≡ parse_verdict tokens stop (length text) reading
  first_read stop why place found f s (Ok q) e = absurd (none_stands q e why place f.stands)
  first_read stop why place found f s (Err halt) e = rw s at (halted_at stop halt e why place f)

  byte_read : (at : ℕ) (reading : Result QueryShape Halt) → statement_at schema (tokens_of tokens) ≡ reading →
      ((why : Refusal) (place : ℕ) → IsFirst schema (tokens_of tokens) why place → length tokens ≤ place) →
      Err (at_byte 401 at) ≡ parse_verdict tokens (Some at) (length text) reading
  byte_read at (Ok q) e h = refl
  byte_read at (Err halt) e h =
      let g = first_fault schema (tokens_of tokens) halt e in
      first_read (Some at) halt.why g.place None g.first (slice_get_past tokens g.place (h halt.why g.place g.first)) (Err halt) e

read_fault : (schema : Schema) (text : List ℕ) (fault : Fault) → IsRead schema text (Err fault) → IsRefusal schema text fault
read_fault schema text fault r = judged_fault schema text r.tokens r.stop fault (statement_at schema (tokens_of r.tokens)) r.cut refl r.is

fault_read : (schema : Schema) (text : List ℕ) (fault : Fault) → IsRefusal schema text fault → IsRead schema text (Err fault)
fault_read schema text fault (token_refused {tokens = tokens} {stop = stop} {why = why} {place = place} {spot = spot} cut f s) = record {
  tokens = tokens;
  stop = stop;
  cut = cut;
  is = first_read schema text tokens stop why place (Some spot) f s (statement_at schema (tokens_of tokens)) refl;
}
fault_read schema text fault (end_refused {tokens = tokens} cut f) = record {
  tokens = tokens;
  stop = None;
  cut = cut;
  is = first_read schema text tokens None Syntax (length tokens) None f (slice_get_past tokens (length tokens) (omega arith))
      (statement_at schema (tokens_of tokens)) refl;
}
fault_read schema text fault (byte_refused {tokens = tokens} {at = at} cut h) = record {
  tokens = tokens;
  stop = Some at;
  cut = cut;
  is = byte_read schema text tokens at (statement_at schema (tokens_of tokens)) refl h;
}

-- what the readers answer is what the text is read as
pub parsed : (schema : Schema) (text : List ℕ) (result : Result Query Fault) →
    (longest_statement < length text → result ≡ Err (at_byte 407 longest_statement)) →
    (length text ≤ longest_statement → Answers schema text result) → Parses schema text result
parsed schema text result long exact = go result long exact (cases_lt longest_statement (length text)) where
  go : (result : Result Query Fault) → (longest_statement < length text → result ≡ Err (at_byte 407 longest_statement)) →
      (length text ≤ longest_statement → Answers schema text result) →
      (longest_statement < length text) ⊎ (length text ≤ longest_statement) → Parses schema text result
  go (Ok query) long exact (inr short) = read_spelled schema text short (query_shape query) (exact short)
  go (Err fault) long exact (inr short) = λ e. refused short (read_fault schema text fault (exact short e))
  go result long exact (inl h) = rw (long h) (λ e. too_long h)

pub same_fault : (schema : Schema) (text : List ℕ) (fault other : Fault) → IsFault schema text fault → IsFault schema text other →
    fault ≡ other
same_fault schema text fault other (too_long long) (too_long more) = refl
same_fault schema text fault other (too_long long) (refused short g) = absurd (omega arith)
same_fault schema text fault other (refused short f) (too_long long) = absurd (omega arith)
same_fault schema text fault other (refused short f) (refused also g) =
    let both : ◌≡◌ {A = Result QueryShape Fault} (Err fault) (Err other) =
    read_same schema text (Err fault) (Err other) (fault_read schema text fault f) (fault_read schema text other g) in cc

pub spelled_or_refused : (schema : Schema) (text : List ℕ) (query : QueryShape) (fault : Fault) → Spells schema text query →
    IsFault schema text fault → ⊥
spelled_or_refused schema text query fault s (too_long long) = absurd (omega (arith, s.short))
spelled_or_refused schema text query fault s (refused short f) = not_refused schema text query fault s (fault_read schema text fault f)

-- a text that is cut is read
pub query_or_fault_of : (schema : Schema) (text : List ℕ) → SpellsOrFails schema text
query_or_fault_of schema text = go (cases_lt longest_statement (length text)) where
  read : length text ≤ longest_statement → (outcome : Result QueryShape Fault) → IsRead schema text outcome → SpellsOrFails schema text
  read short (Ok query) r = inl (query, read_spelled schema text short query r)
  read short (Err fault) r = inr (fault, refused short (read_fault schema text fault r))

  go : (longest_statement < length text) ⊎ (length text ≤ longest_statement) → SpellsOrFails schema text
  go (inl long) = inr (at_byte 407 longest_statement, too_long long)
  go (inr short) =
      let cut = cut_of_text text in
      read short (parse_verdict cut.tokens cut.stop (length text) (statement_at schema (tokens_of cut.tokens)))
      (record { tokens = cut.tokens; stop = cut.stop; cut = cut.cut; is = refl })
