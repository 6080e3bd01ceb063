-- Where the machine stops, and that this is the first error.
use Rattle.std.proofs.Common.{◌≡◌, ℕ, ◌<◌, ◌≤◌, Bool, true, false, if◌then◌else◌, not, ◌&&◌, ◌==◌}
use Rattle.std.proofs.Common.{nat_le, List, [], ◌∷◌, ◌++◌, length, Result, Ok, Err, refl, sym, ◌∙◌}
use Rattle.std.proofs.Common.{ap, subst, arith, suc, ◌+◌, nat_lt, inl, inr, append_assoc}
use Rattle.std.proofs.Common.{length-append, append-nil}
use Rattle.std.proofs.lemmas.Bool.{and_parts, leb-true, ltb-true, ltb-false}
use Rattle.std.proofs.lemmas.Bool.Decides.{nat_tests}
use Rattle.std.proofs.Math.Bool.{or-true}
use Rattle.bw_text.specs.declared.keyword.Keyword.TheVariants as word
use Rattle.bw_model.specs.declared.schema.Schema.{Schema}
use Rattle.bw_model.specs.declared.junction.Junction.TheVariants as junction
use Rattle.bw_sql.specs.declared.items.Aggregate.TheVariants as aggregate
use Rattle.bw_sql.specs.declared.reader.Refusal.{Refusal}
use Rattle.bw_sql.specs.declared.reader.Refusal.TheVariants.{Syntax, Literal}
use Rattle.bw_sql.specs.declared.token.Mark.TheVariants as mark
use Rattle.bw_sql.specs.Demand.{Demand, Fits, is_met, refusal}
use Rattle.bw_sql.specs.Frontier.{asked_for, is_sign, Begins, Stands, IsFirst, at_token, at_sign}
use Rattle.bw_sql.specs.Frontier.{at_end}
use Rattle.bw_sql.specs.Reading.{Halt, same_keyword, ◌>>=◌, statement_at}
use Rattle.bw_sql.specs.Refusal.{code_of}
use Rattle.bw_sql.specs.Token.{Lexeme, Digits, Reserved, Punct}
use Rattle.bw_sql.proofs.Cases.{bool_cases}
use Rattle.bw_sql.proofs.Machine.{Symbol, AWord, AnArgument, PartTail, SignedDigits, Choice, Ask}
use Rattle.bw_sql.proofs.Machine.{Pass, Stop, decide, ask, step, left_at, proceed, run, all_may_end}
use Rattle.bw_sql.proofs.Machine.{AStatement}
use Rattle.bw_sql.proofs.Viable.{Path, here, there, path_viable}
use Rattle.bw_sql.specs.QueryShape.{QueryShape}
use Rattle.bw_sql.specs.Grammar.{StatementIs}
use Rattle.bw_sql.proofs.Runs.{statement_runs}
use Rattle.bw_sql.proofs.Spelled.{Outcome, reads, excused, statement_read}

-- Demands are asked in the order of their numbers, at a sign nothing is asked and digits are to
-- come, and a literal is rejected at its digits.
abbrev rising : ℕ → List Demand → Bool
rising low [] = true
rising low (d ∷ demands) = nat_le low (code_of (refusal d)) && rising (code_of (refusal d)) demands

abbrev pub is_digits : Lexeme → Bool
is_digits (Digits digits) = true
is_digits _ = false

abbrev asks_fits : List Demand → Bool
asks_fits [] = false
asks_fits (Fits is_negative digits ∷ demands) = true
asks_fits (_ ∷ demands) = asks_fits demands

abbrev signs : List Demand → List Symbol → Bool
signs [] (SignedDigits is_negative ∷ below) = true
signs _ _ = false

abbrev is_orderly : Lexeme → Choice → Bool
is_orderly t (Ask demands symbols) = rising 402 demands && ((if asks_fits demands then is_digits t else true)
    && (if is_sign t then signs demands symbols else true))
is_orderly t Pass = true
is_orderly t Stop = true

decide_orderly : (s : Symbol) (t : Lexeme) → is_orderly t (decide s t) ≡ true
unfolding decide
decide_orderly (AWord w) (Reserved found) = bool_cases (same_keyword found w) (λ e. rw e refl) (λ e. rw e refl)
decide_orderly (PartTail junction.All depth) (Reserved word.And) = refl
decide_orderly (AnArgument aggregate.Count) (Punct mark.Star) = refl
decide_orderly _ (Punct mark.Plus) = refl
decide_orderly _ (Reserved word.Not) = refl
decide_orderly _ _ = refl

-- what a stack makes of a token, whatever is met: nothing, or what a symbol on it asks
data Decided (stack : List Symbol) (t : Lexeme) : Type 0 where
  none : ((met : Demand → Bool) → step met stack t ≡ Err Syntax) → Decided stack t
  asks : (demands : List Demand) (symbols below : List Symbol) → is_orderly t (Ask demands symbols) ≡ true →
      ((met : Demand → Bool) → step met stack t ≡ ask met demands (symbols ++ below)) → Decided stack t

decided : (stack : List Symbol) (t : Lexeme) → Decided stack t
unfolding step
decided [] t = none (λ met. refl)
decided (s ∷ stack) t = go (decide s t) refl (decide_orderly s t) (decided stack t) where
  go : (c : Choice) → decide s t ≡ c → is_orderly t (decide s t) ≡ true → Decided stack t → Decided (s ∷ stack) t
  go (Ask demands symbols) e o below = asks demands symbols stack (rw e at o) (λ met. rw e refl)
  go Pass e o (none f) = none (λ met. rw e (f met))
  go Pass e o (asks demands symbols below g f) = asks demands symbols below g (λ met. rw e (f met))
  go Stop e o below = none (λ met. rw e refl)

-- what asks for less goes as far
module _ (schema : Schema) (met : Demand → Bool) (weaker : (d : Demand) → is_met schema d ≡ true → met d ≡ true) where
  ask_weaker : (demands : List Demand) (stack last : List Symbol) → ask (is_met schema) demands stack ≡ Ok last →
      ask met demands stack ≡ Ok last
  ask_weaker [] stack last e = e
  ask_weaker (d ∷ demands) stack last e = bool_cases (is_met schema d)
      (λ m. rw (weaker d m) (ask_weaker demands stack last (rw m at e))) (λ u. let f = rw u at e in cc)

  step_weaker : (stack : List Symbol) (t : Lexeme) (last : List Symbol) → step (is_met schema) stack t ≡ Ok last →
      step met stack t ≡ Ok last
  step_weaker stack t last e = elim (decided stack t) [
    | none f ↦ (let g = sym (f (is_met schema)) ∙ e in cc)
    | asks demands symbols below o f ↦ f met ∙ ask_weaker demands (symbols ++ below) last (sym (f (is_met schema)) ∙ e)
  ]

  pub path_weaker : {stack last : List Symbol} {tokens : List Lexeme} → Path (is_met schema) stack tokens last →
      Path met stack tokens last
  path_weaker here = here
  path_weaker (there {stack = stack} {next = next} {t = t} e p) = there (step_weaker stack t next e) (path_weaker p)

pub asked_for_weaker : (schema : Schema) (why : Refusal) (d : Demand) → is_met schema d ≡ true → asked_for schema why d ≡ true
asked_for_weaker schema why d m = rw m (or-true (not (code_of (refusal d) == code_of why)))

least_code : (other : Refusal) → 402 ≤ code_of other
least_code Syntax = omega arith
least_code _ = omega arith

-- under the demands of a lower number the machine continues
module _ (schema : Schema) (other why : Refusal) (low : code_of other < code_of why) where
  -- a demand of a higher number isn't asked
  spared : (d : Demand) → code_of other < code_of (refusal d) → asked_for schema other d ≡ true
  spared d h = let unequal : (code_of (refusal d) == code_of other) ≡ false = grind (arith, nat_tests) in rw unequal refl

  all_spared : (n : ℕ) (demands : List Demand) (stack : List Symbol) → code_of other < n → rising n demands ≡ true →
      ask (asked_for schema other) demands stack ≡ Ok stack
  all_spared n [] stack h r = refl
  all_spared n (d ∷ demands) stack h r =
      let p = and_parts (nat_le n (code_of (refusal d))) (rising (code_of (refusal d)) demands) r in
      let higher : code_of other < code_of (refusal d) = omega (arith, leb-true n (code_of (refusal d)) p.0) in
      rw (spared d higher) (all_spared (code_of (refusal d)) demands stack higher p.1)

  ask_lower : (n : ℕ) (demands : List Demand) (stack : List Symbol) → rising n demands ≡ true →
      ask (is_met schema) demands stack ≡ Err why → ask (asked_for schema other) demands stack ≡ Ok stack
  ask_lower n [] stack r e = cc
  ask_lower n (d ∷ demands) stack r e =
      let p = and_parts (nat_le n (code_of (refusal d))) (rising (code_of (refusal d)) demands) r in
      bool_cases (is_met schema d)
      (λ m. rw (asked_for_weaker schema other d m) (ask_lower (code_of (refusal d)) demands stack p.1 (rw m at e)))
      (λ u. let f : ◌≡◌ {A = Result (List Symbol) Refusal} (Err (refusal d)) (Err why) = rw u at e in
      let same : why ≡ refusal d = cc in
      let higher : code_of other < code_of (refusal d) = subst (λ w. code_of other < code_of w) same low in
      rw (spared d higher) (all_spared (code_of (refusal d)) demands stack higher p.1))

  none_lower : {P : Type 0} → ◌≡◌ {A = Result (List Symbol) Refusal} (Err Syntax) (Err why) → P
  none_lower e = let same : why ≡ Syntax = cc in
      let lower : code_of other < 402 = subst (λ w. code_of other < code_of w) same low in absurd (omega (arith, least_code other))

  pub step_lower : (stack : List Symbol) (t : Lexeme) → step (is_met schema) stack t ≡ Err why →
      (next : List Symbol) × (step (asked_for schema other) stack t ≡ Ok next)
  step_lower stack t e = elim (decided stack t) [
    | none f ↦ none_lower (sym (f (is_met schema)) ∙ e)
    | asks demands symbols below o f ↦ let next = symbols ++ below in let rises = and_parts (rising 402 demands) _ o in
        (next, f (asked_for schema other) ∙ ask_lower 402 demands next rises.0 (sym (f (is_met schema)) ∙ e))
  ]

-- what is rejected is a sign, for the grammar, or digits, or no literal
module _ (schema : Schema) (t : Lexeme) (why : Refusal) where
  abbrev Refuses : Type 0
  Refuses = (is_sign t ≡ true → why ≡ Syntax) × (why ≡ Literal → is_digits t ≡ true)

  for_syntax : ◌≡◌ {A = Result (List Symbol) Refusal} (Err Syntax) (Err why) → Refuses
  for_syntax e = let same : why ≡ Syntax = cc in (λ s. same, λ l. let f : Literal ≡ Syntax = sym l ∙ same in cc)

  asked_fits : (demands : List Demand) (stack : List Symbol) → ask (is_met schema) demands stack ≡ Err why → why ≡ Literal →
      asks_fits demands ≡ true
  asked_fits [] stack e l = cc
  asked_fits (Fits is_negative digits ∷ demands) stack e l = refl
  asked_fits (d ∷ demands) stack e l =
      bool_cases (is_met schema d) (λ m. asked_fits demands stack (rw m at e) l) (λ u. let f = rw (u, l) at e in cc)

  asked_refuses : (demands : List Demand) (symbols below : List Symbol) → is_orderly t (Ask demands symbols) ≡ true →
      ask (is_met schema) demands (symbols ++ below) ≡ Err why → Refuses
  asked_refuses [] symbols below o e = cc
  asked_refuses (d ∷ demands) symbols below o e =
      let p = and_parts (rising 402 (d ∷ demands)) _ o in
      let q = and_parts (if asks_fits (d ∷ demands) then is_digits t else true) _ p.1 in
      (λ s. let f = rw s at q.1 in cc, λ l. rw (asked_fits (d ∷ demands) (symbols ++ below) e l) at q.0)

  pub step_refuses : (stack : List Symbol) → step (is_met schema) stack t ≡ Err why → Refuses
  step_refuses stack e = elim (decided stack t) [
    | none f ↦ for_syntax (sym (f (is_met schema)) ∙ e)
    | asks demands symbols below o f ↦ asked_refuses demands symbols below o (sym (f (is_met schema)) ∙ e)
  ]

-- after a sign digits are to come, and are rejected as a literal
abbrev begins_signed : List Symbol → Bool
begins_signed (SignedDigits is_negative ∷ below) = true
begins_signed _ = false

module _ (schema : Schema) where
  signed_ask : (demands : List Demand) (symbols stack next : List Symbol) → signs demands symbols ≡ true →
      ask (is_met schema) demands (symbols ++ stack) ≡ Ok next → begins_signed next ≡ true
  signed_ask [] (SignedDigits is_negative ∷ symbols) stack next g e =
      let same : SignedDigits is_negative ∷ (symbols ++ stack) ≡ next = cc in subst (λ n. begins_signed n ≡ true) same refl
  signed_ask _ _ stack next g e = cc

  step_sign : (stack next : List Symbol) (t : Lexeme) → is_sign t ≡ true → step (is_met schema) stack t ≡ Ok next →
      begins_signed next ≡ true
  step_sign stack next t s e = elim (decided stack t) [
    | none f ↦ (let g = sym (f (is_met schema)) ∙ e in cc)
    | asks demands symbols below o f ↦ signed_ask demands symbols below next (rw s at (and_parts
        (if asks_fits demands then is_digits t else true) _ (and_parts (rising 402 demands) _ o).1).1) (sym (f (is_met schema)) ∙ e)
  ]

  signed_stop : (stack : List Symbol) (digits : List ℕ) (why : Refusal) → begins_signed stack ≡ true →
      step (is_met schema) stack (Digits digits) ≡ Err why → why ≡ Literal
  unfolding step decide
  signed_stop (SignedDigits is_negative ∷ below) digits why b e = bool_cases (is_met schema (Fits is_negative digits))
      (λ m. let f = rw m at e in cc) (λ u. let f = rw u at e in cc)
  signed_stop _ digits why b e = cc

  -- where a path is cut
  pub path_split : (stack : List Symbol) (xs ys : List Lexeme) (last : List Symbol) → Path (is_met schema) stack (xs ++ ys) last →
      (middle : List Symbol) × Path (is_met schema) stack xs middle × Path (is_met schema) middle ys last
  path_split stack [] ys last p = (stack, here, p)
  path_split stack (x ∷ xs) ys last (there {next = next} e p) =
      let q = path_split next xs ys last p in (q.0, there e q.1, q.2)

  -- digits that are rejected after a sign are rejected as a literal
  pub digits_stop : (stack : List Symbol) (front : List Lexeme) (u : Lexeme) (last : List Symbol) (digits : List ℕ) (why : Refusal) →
      Path (is_met schema) stack (front ++ u ∷ []) last → is_sign u ≡ true → step (is_met schema) last (Digits digits) ≡ Err why →
      why ≡ Literal
  digits_stop stack front u last digits why p s e = go (path_split stack front (u ∷ []) last p).2 where
    go : {middle : List Symbol} → Path (is_met schema) middle (u ∷ []) last → why ≡ Literal
    go (there {stack = middle} d here) = signed_stop last digits why (step_sign middle last u s d) e

-- whether the last token is a sign
abbrev pub after_sign : Bool → List Lexeme → Bool
after_sign signed [] = signed
after_sign signed (t ∷ tokens) = after_sign (is_sign t) tokens

pub sign_last : (signed : Bool) (front : List Lexeme) (u : Lexeme) → after_sign signed (front ++ u ∷ []) ≡ is_sign u
sign_last signed [] u = refl
sign_last signed (t ∷ front) u = sign_last (is_sign t) front u

last_sign : (tokens : List Lexeme) → after_sign false tokens ≡ true →
    (front : List Lexeme) × (u : Lexeme) × (tokens ≡ front ++ u ∷ []) × (is_sign u ≡ true)
last_sign [] e = cc
last_sign (t ∷ []) e = ([], t, refl, e)
last_sign (t ∷ x ∷ tokens) e = let p = last_sign (x ∷ tokens) e in (t ∷ p.0, p.1, ap (λ ts. t ∷ ts) p.2, p.3)

-- a token that isn't the digits of a literal after a sign
abbrev Alone : List Lexeme → Lexeme → Type 0
Alone before t = (front : List Lexeme) (u : Lexeme) (digits : List ℕ) → is_sign u ≡ true → before ≡ front ++ u ∷ [] →
    t ≡ Digits digits → ⊥

-- a run along a path, and where it ends
pub run_path : (schema : Schema) (signed : Bool) {stack last : List Symbol} {before : List Lexeme} →
    Path (is_met schema) stack before last → (tokens : List Lexeme) →
    run schema signed stack (before ++ tokens) ≡ run schema (after_sign signed before) last tokens
unfolding run
run_path schema signed here tokens = refl
run_path schema signed (there {t = t} e p) tokens = rw e (run_path schema (is_sign t) p tokens)

-- a run takes all tokens, or stops
pub data Ran (schema : Schema) (signed : Bool) (stack : List Symbol) : List Lexeme → Result (Unit {0}) Halt → Type 0 where
  whole : {tokens : List Lexeme} (last : List Symbol) → Path (is_met schema) stack tokens last → all_may_end last ≡ true →
      Ran schema signed stack tokens (Ok tt)
  ends : {tokens : List Lexeme} (last : List Symbol) → Path (is_met schema) stack tokens last →
      Ran schema signed stack tokens (Err (record { why = Syntax; left = 0 }))
  stops : {tokens : List Lexeme} (before after : List Lexeme) (t : Lexeme) (last : List Symbol) (why : Refusal) →
      tokens ≡ before ++ t ∷ after → Path (is_met schema) stack before last → step (is_met schema) last t ≡ Err why →
      Ran schema signed stack tokens (Err (record { why = why; left = left_at why (after_sign signed before) (length after) }))

ran_on : (schema : Schema) (signed : Bool) (stack next : List Symbol) (t : Lexeme) {tokens : List Lexeme}
    {r : Result (Unit {0}) Halt} → step (is_met schema) stack t ≡ Ok next → Ran schema (is_sign t) next tokens r →
    Ran schema signed stack (t ∷ tokens) r
ran_on schema signed stack next t e (whole last p m) = whole last (there e p) m
ran_on schema signed stack next t e (ends last p) = ends last (there e p)
ran_on schema signed stack next t e (stops before after u last why f p g) =
    stops (t ∷ before) after u last why (ap (λ ts. t ∷ ts) f) (there e p) g

pub ran : (schema : Schema) (signed : Bool) (stack : List Symbol) (tokens : List Lexeme) →
    Ran schema signed stack tokens (run schema signed stack tokens)
unfolding run
ran schema signed stack [] = bool_cases (all_may_end stack) (λ m. rw m (whole stack here m)) (λ u. rw u (ends stack here))
ran schema signed stack (t ∷ tokens) = go (step (is_met schema) stack t) refl (λ next. ran schema (is_sign t) next tokens)
  where
    go : (r : Result (List Symbol) Refusal) → step (is_met schema) stack t ≡ r →
        ((next : List Symbol) → Ran schema (is_sign t) next tokens (run schema (is_sign t) next tokens)) →
        Ran schema signed stack (t ∷ tokens) (proceed signed (step (is_met schema) stack t) (length tokens) (λ next. run schema (is_sign t) next tokens))
    go (Ok next) f onward = rw f (ran_on schema signed stack next t f (onward next))
    go (Err why) f onward = rw f (stops [] tokens t stack why refl here f)

-- what one list has before a token lies before, at or after what another has
data Order (before after : List Lexeme) (t : Lexeme) (front rest : List Lexeme) : Type 0 where
  sooner : (gap : List Lexeme) → front ≡ (before ++ t ∷ []) ++ gap → after ≡ gap ++ rest → Order before after t front rest
  there_too : before ≡ front → t ∷ after ≡ rest → Order before after t front rest
  later : length front < length before → Order before after t front rest

order_cons : (before after : List Lexeme) (t : Lexeme) (front rest : List Lexeme) (a b : Lexeme) → a ≡ b →
    Order before after t front rest → Order (a ∷ before) after t (b ∷ front) rest
order_cons before after t front rest a b e (sooner gap f g) = sooner gap (rw (e, f) refl) g
order_cons before after t front rest a b e (there_too f g) = there_too (rw (e, f) refl) g
order_cons before after t front rest a b e (later h) = later (omega arith)

order : (before after : List Lexeme) (t : Lexeme) (front rest : List Lexeme) → before ++ t ∷ after ≡ front ++ rest →
    Order before after t front rest
order [] after t [] rest e = there_too refl e
order [] after t (b ∷ front) rest e =
    let heads : t ≡ b = cc in let tails : after ≡ front ++ rest = cc in sooner front (rw heads refl) tails
order (a ∷ before) after t [] rest e = later (omega arith)
order (a ∷ before) after t (b ∷ front) rest e =
    let heads : a ≡ b = cc in let tails : before ++ t ∷ after ≡ front ++ rest = cc in
    order_cons before after t front rest a b heads (order before after t front rest tails)

path_push : {met : Demand → Bool} {stack last next : List Symbol} {tokens : List Lexeme} (t : Lexeme) →
    Path met stack tokens last → step met last t ≡ Ok next → Path met stack (tokens ++ t ∷ []) next
path_push t here e = there e here
path_push t (there d p) e = there d (path_push t p e)

beyond : (tokens before after : List Lexeme) (t : Lexeme) → tokens ≡ before ++ t ∷ after → length before < length tokens
beyond tokens before after t e = omega (arith, ap length e, length-append before (t ∷ after))

module _ (schema : Schema) where
  -- what is rejected under the demands of the rejection's number isn't spelled under them
  not_asked : (why : Refusal) (d : Demand) → refusal d ≡ why → is_met schema d ≡ false → asked_for schema why d ≡ true → ⊥
  not_asked why d e u m =
      let equal : (code_of why == code_of why) ≡ true = grind (arith, nat_tests) in let f = rw (e, equal, u) at m in cc

  refused_unspelled : (halt : Halt) (tokens : List Lexeme) (q : QueryShape) →
      run schema false (AStatement ∷ []) tokens ≡ Err halt →
      StatementIs schema.columns.items (asked_for schema halt.why) tokens q → ⊥
  refused_unspelled halt tokens q e spelled = go (statement_read schema (asked_for schema halt.why) spelled) where
    read : (r : Result QueryShape Halt) → statement_at schema tokens ≡ r → ◌≡◌ {A = Result (Unit {0}) Halt} (r >>= λ q. Ok tt) (Err halt)
    read r f = sym (statement_runs schema tokens ∙ ap (λ r. r >>= λ q. Ok tt) f) ∙ e

    go : Outcome schema (asked_for schema halt.why) (statement_at schema tokens) q → ⊥
    go (reads f) = let g = read _ f in cc
    go (excused d left m u f) =
        let g = read _ f in
        let same : record { why = refusal d; left = left } ≡ halt = cc in
        not_asked halt.why d (ap (λ (h : Halt). h.why) same) u m

  -- what the machine has read begins a statement, under fewer demands too
  begun : (other : Refusal) (front gap tokens : List Lexeme) (last : List Symbol) →
      Path (is_met schema) (AStatement ∷ []) tokens last →
      tokens ≡ front ++ gap → Begins schema other front
  begun other front gap tokens last p e =
      let part = path_split schema (AStatement ∷ []) front gap last (subst (λ t. Path (is_met schema) (AStatement ∷ []) t last) e p) in
      path_viable schema (asked_for schema other) (asked_for_weaker schema other) front part.0
      (path_weaker schema (asked_for schema other) (asked_for_weaker schema other) part.1)

-- at the end of the tokens, if no statement ends there
module _ (schema : Schema) (tokens : List Lexeme) (last : List Symbol) (p : Path (is_met schema) (AStatement ∷ []) tokens last) where
  pub only_at_end : (other : Refusal) (at : ℕ) → Stands schema tokens other at → (at ≡ length tokens) × (other ≡ Syntax) ×
      ((query : QueryShape) → StatementIs schema.columns.items (asked_for schema Syntax) tokens query → ⊥)
  only_at_end other at (at_token before after t e v unless) =
      absurd (unless (begun schema other (before ++ t ∷ []) after tokens last p (e ∙ sym (append_assoc before (t ∷ []) after))))
  only_at_end other at (at_sign before after t digits s e v unless) = absurd (unless (begun schema Literal
      (before ++ t ∷ Digits digits ∷ []) after tokens last p (e ∙ sym (append_assoc before (t ∷ Digits digits ∷ []) after))))
  only_at_end other at (at_end v unless) = (refl, refl, unless)

  end_first : statement_at schema tokens ≡ Err (record { why = Syntax; left = 0 }) → IsFirst schema tokens Syntax (length tokens)
  end_first e = record {
    stands = at_end (begun schema Syntax tokens [] tokens last p (sym (append-nil tokens)))
        (λ q s. refused_unspelled schema (record { why = Syntax; left = 0 }) tokens q
        (statement_runs schema tokens ∙ ap (λ r. r >>= λ q. Ok tt) e) s);
    first = λ other at s. let only = only_at_end other at s in inr (sym only.0, rw only.1 (omega arith));
  }

-- the machine stops at a token
module _ (schema : Schema) (tokens before after : List Lexeme) (t : Lexeme) (last : List Symbol) (why : Refusal)
    (e : tokens ≡ before ++ t ∷ after) (p : Path (is_met schema) (AStatement ∷ []) before last)
    (stop : step (is_met schema) last t ≡ Err why) where
  stuck : Begins schema why (before ++ t ∷ []) → ⊥
  unfolding run
  stuck v =
      let all = (before ++ t ∷ []) ++ v.more in
      let halt : Halt = record { why = why; left = left_at why (after_sign false before) (length v.more) } in
      let halts : run schema false (AStatement ∷ []) (before ++ t ∷ v.more) ≡ Err halt =
      run_path schema false p (t ∷ v.more) ∙ (rw stop refl) in
      refused_unspelled schema halt all v.query (rw (append_assoc before (t ∷ []) v.more) halts) v.spelled

  passes : (other : Refusal) → code_of other < code_of why → Begins schema other (before ++ t ∷ [])
  passes other low =
      let onward = step_lower schema other why low last t stop in
      path_viable schema (asked_for schema other) (asked_for_weaker schema other) (before ++ t ∷ []) onward.0
      (path_push t (path_weaker schema (asked_for schema other) (asked_for_weaker schema other) p) onward.1)

  -- the place of another rejection: at the token or after it, or before it as that of a literal of
  -- which it has the digits
  data Near (other : Refusal) (at : ℕ) : Type 0 where
    here_too : length before ≡ at → code_of why ≤ code_of other → Near other at
    after_it : length before < at → Near other at
    astride : (front : List Lexeme) (u : Lexeme) (digits : List ℕ) → is_sign u ≡ true → before ≡ front ++ u ∷ [] →
        t ≡ Digits digits → at ≡ length front → other ≡ Literal → Near other at

  least : (other : Refusal) → (Begins schema other (before ++ t ∷ []) → ⊥) → code_of why ≤ code_of other
  least other unless = bool_cases (nat_lt (code_of other) (code_of why))
      (λ low. absurd (unless (passes other (ltb-true (code_of other) (code_of why) low))))
      (λ high. ltb-false (code_of other) (code_of why) high)

  near : (other : Refusal) (at : ℕ) → Stands schema tokens other at → Near other at
  near other at (at_token front rest u f v unless) =
      elim (order front rest u before (t ∷ after) (sym f ∙ e)) [
        | sooner gap g h ↦ absurd (unless (begun schema other (front ++ u ∷ []) gap before last p g))
        | there_too g h ↦ here_too (sym (ap length g)) (least other (λ b. unless (again g (cc) b)))
        | later h ↦ after_it h
      ]
    where
      again : front ≡ before → u ≡ t → Begins schema other (before ++ t ∷ []) → Begins schema other (front ++ u ∷ [])
      again g h b = rw (g, h) b
  near other at (at_sign front rest u digits s f v unless) =
      elim (order front (Digits digits ∷ rest) u before (t ∷ after) (sym f ∙ e)) [
        | sooner gap g h ↦ two gap g h
        | there_too g h ↦ here_too (sym (ap length g)) (at_a_sign (cc))
        | later h ↦ after_it h
      ]
    where
      two : (gap : List Lexeme) → before ≡ (front ++ u ∷ []) ++ gap → Digits digits ∷ rest ≡ gap ++ t ∷ after →
          Near Literal (length front)
      two [] g h = let is : t ≡ Digits digits = cc in
          astride front u digits s (g ∙ append-nil (front ++ u ∷ [])) is (refl {a = length front}) (refl {a = Literal})
      two (c ∷ gap) g h =
          let same : Digits digits ≡ c = cc in
          absurd (unless (begun schema Literal (front ++ u ∷ Digits digits ∷ []) gap before last p
          (g ∙ append_assoc front (u ∷ []) (c ∷ gap) ∙ ap (λ d. front ++ u ∷ d ∷ gap) (sym same)
          ∙ sym (append_assoc front (u ∷ Digits digits ∷ []) gap))))

      at_a_sign : u ≡ t → code_of why ≤ code_of Literal
      at_a_sign same =
          let syntax : why ≡ Syntax = (step_refuses schema t why last stop).0 (subst (λ v. is_sign v ≡ true) same s) in rw syntax (omega arith)
  near other at (at_end v unless) = after_it (beyond tokens before after t e)

  -- and it stands there, if the token isn't the digits of a literal after a sign
  token_first : Alone before t → IsFirst schema tokens why (length before)
  token_first alone = record {
    stands = at_token before after t e (begun schema why before [] before last p (sym (append-nil before))) stuck;
    first = λ other at stands. elim (near other at stands) [
      | here_too h l ↦ inr (h, l)
      | after_it h ↦ inl h
      | astride front u digits s f g h i ↦ absurd (alone front u digits s f g)
    ];
  }

  -- or else at the sign
  sign_first : (digits : List ℕ) → t ≡ Digits digits → (front : List Lexeme) (u : Lexeme) → is_sign u ≡ true →
      before ≡ front ++ u ∷ [] → why ≡ Literal → IsFirst schema tokens Literal (length front)
  sign_first digits is front u s f w = record {
    stands = at_sign front after u digits s (e ∙ rw (f, is) (append_assoc front (u ∷ []) (Digits digits ∷ after)))
        (begun schema Literal front (u ∷ []) before last p f) (λ v. stuck (rw w (subst (λ ts. Begins schema Literal ts) moved v)));
    first = λ other at stands. elim (near other at stands) [
      | here_too h l ↦ inl (omega (arith, h, one))
      | after_it h ↦ inl (omega (arith, one))
      | astride ahead v others s g h i j ↦ inr (omega (arith, i, one, ap length g, length-append ahead (v ∷ [])), rw j (omega arith))
    ];
  }
    where
      one : length before ≡ suc (length front)
      one = omega (arith, ap length f, length-append front (u ∷ []))

      moved : front ++ u ∷ Digits digits ∷ [] ≡ before ++ t ∷ []
      moved = rw (f, is) (sym (append_assoc front (u ∷ []) (Digits digits ∷ [])))

-- the place of a rejection
pub record FirstFault (schema : Schema) (tokens : List Lexeme) (halt : Halt) : Type 0 where
  pub place : ℕ
  pub first : IsFirst schema tokens halt.why place
  pub left : place + halt.left ≡ length tokens
  pub last : length tokens ≤ place → halt.why ≡ Syntax

module _ (schema : Schema) (tokens before after : List Lexeme) (t : Lexeme) (last : List Symbol)
    (e : tokens ≡ before ++ t ∷ after) (p : Path (is_met schema) (AStatement ∷ []) before last) where
  at_the_token : (why : Refusal) → step (is_met schema) last t ≡ Err why → Alone before t →
      FirstFault schema tokens (record { why = why; left = suc (length after) })
  at_the_token why stop alone = record {
    place = length before;
    first = token_first schema tokens before after t last why e p stop alone;
    left = omega (arith, ap length e, length-append before (t ∷ after));
    last = λ h. absurd (omega (arith, beyond tokens before after t e));
  }

  -- after a sign digits are rejected as a literal
  literal_alone : (why : Refusal) → step (is_met schema) last t ≡ Err why → (why ≡ Literal → ⊥) → Alone before t
  literal_alone why stop never front u digits s f g = never (digits_stop schema (AStatement ∷ []) front u last digits why
      (subst (λ ts. Path (is_met schema) (AStatement ∷ []) ts last) f p) s (rw g at stop))

  unsigned_alone : after_sign false before ≡ false → Alone before t
  unsigned_alone plain front u digits s f g =
      let both : true ≡ false = sym s ∙ sym (sign_last false front u) ∙ ap (after_sign false) (sym f) ∙ plain in cc

  stop_first : (why : Refusal) (signed : Bool) → after_sign false before ≡ signed → step (is_met schema) last t ≡ Err why →
      FirstFault schema tokens (record { why = why; left = left_at why signed (length after) })
  stop_first Literal true s stop = go t refl ((step_refuses schema t Literal last stop).1 refl) where
    go : (v : Lexeme) → t ≡ v → is_digits v ≡ true →
        FirstFault schema tokens (record { why = Literal; left = suc (suc (length after)) })
    go (Digits digits) is d =
        let u = last_sign before s in
        let one = length-append u.0 (u.1 ∷ []) in
        record {
          place = length u.0;
          first = sign_first schema tokens before after t last Literal e p stop digits is u.0 u.1 u.3 u.2 refl;
          left = omega (arith, ap length e, length-append before (t ∷ after), ap length u.2, one);
          last = λ h. absurd (omega (arith, beyond tokens before after t e, ap length u.2, one));
        }
    go _ is d = cc
  stop_first Literal false s stop = at_the_token Literal stop (unsigned_alone s)
  stop_first why signed s stop = at_the_token why stop (literal_alone why stop (λ l. cc))

-- how a statement's tokens are read
pub ran_so : (schema : Schema) (tokens : List Lexeme) (r : Result QueryShape Halt) → statement_at schema tokens ≡ r →
    Ran schema false (AStatement ∷ []) tokens (r >>= λ q. Ok tt)
ran_so schema tokens r e = subst (Ran schema false (AStatement ∷ []) tokens)
    (statement_runs schema tokens ∙ ap (λ r. r >>= λ q. Ok tt) e) (ran schema false (AStatement ∷ []) tokens)

-- what is rejected is the first error
pub first_fault : (schema : Schema) (tokens : List Lexeme) (halt : Halt) → statement_at schema tokens ≡ Err halt →
    FirstFault schema tokens halt
first_fault schema tokens halt e = go e (ran_so schema tokens (Err halt) e) where
  go : {halt : Halt} → statement_at schema tokens ≡ Err halt → Ran schema false (AStatement ∷ []) tokens (Err halt) →
      FirstFault schema tokens halt
  go e (ends last p) =
      record { place = length tokens; first = end_first schema tokens last p e; left = omega arith; last = λ h. refl }
  go e (stops before after t last why g p stop) =
      stop_first schema tokens before after t last g p why (after_sign false before) refl stop
