-- How the next record of a text is read byte by byte.
use Rattle.std.proofs.Common.{◌≡◌, ◌∙◌, ℕ, ◌+◌, ◌<◌, List, [], ◌∷◌, ◌++◌, Bool, length, drop, Some, get_or, None, true, false, refl, sym, ap, ◌||◌, subst, add-one, drop-cons}
use Rattle.std.specs.Bool.{MatchBool}
use Rattle.csv.specs.Machine.{field_after, fields_after, is_end, next_record, step, ends_at_end}
use Rattle.csv.specs.declared.parser.State.{State}
use Rattle.csv.specs.declared.parser.Action.{Action}
use Rattle.csv.specs.declared.parser.State.TheVariants as st
use Rattle.bw_encode.specs.declared.dialect.Dialect.{Dialect}
use Rattle.bw_encode.specs.Dialect.{config_of, loose_from, goes_on_bare, is_open}
use Rattle.bw_encode.specs.Records.{IsLoose}

-- the text's next record goes on with this byte, after these fields and this part of a field
pub record GoesOn (dialect : Dialect) (start : State) (text : List ℕ) (state : State) (fields : List (List ℕ)) (field rest : List ℕ) (loose : Bool) : Type 0 where
  pub reads : next_record (config_of dialect) start [] [] text ≡ next_record (config_of dialect) state fields field rest
  pub mark : MatchBool loose ((number : ℕ) → loose_from dialect number start text ≡ Some number)
      ((number : ℕ) → loose_from dialect number start text ≡ loose_from dialect number state rest)

pub goes-first : (dialect : Dialect) (start : State) (text : List ℕ) → GoesOn dialect start text start [] [] text false
goes-first dialect start text = record { reads = refl; mark = λ number. refl }

module _ (dialect : Dialect) (start : State) (text : List ℕ) (state next : State) (fields : List (List ℕ)) (field rest : List ℕ) (c : ℕ) where
  pub goes-next : (loose bare : Bool) → GoesOn dialect start text state fields field (c ∷ rest) loose
      → next ≡ (step (config_of dialect) state c).0 → is_end (step (config_of dialect) state c).1 ≡ false → bare ≡ goes_on_bare state next
      → GoesOn dialect start text next (fields_after (step (config_of dialect) state c).1 fields field) (field_after (step (config_of dialect) state c).1 c field) rest (loose || bare)
  unfolding next_record loose_from
  goes-next true bare on n e b = record { reads = on.reads ∙ rw (e, n) refl; mark = on.mark }
  goes-next false true on n e b = record { reads = on.reads ∙ rw (e, n) refl; mark = λ number. on.mark number ∙ rw (← n, ← b) refl }
  goes-next false false on n e b = record { reads = on.reads ∙ rw (e, n) refl; mark = λ number. on.mark number ∙ rw (e, ← n, ← b) refl }

  -- the byte ends the record
  pub goes-end : (loose bare : Bool) → GoesOn dialect start text state fields field (c ∷ rest) loose
      → next ≡ (step (config_of dialect) state c).0 → is_end (step (config_of dialect) state c).1 ≡ true → bare ≡ goes_on_bare state next
      → (next_record (config_of dialect) start [] [] text ≡ Some (fields_after (step (config_of dialect) state c).1 fields field, next, rest))
      × IsLoose dialect start text (loose || bare) next rest
  unfolding next_record loose_from
  goes-end true bare on n e b = (on.reads ∙ rw (e, n) refl, on.mark)
  goes-end false true on n e b = (on.reads ∙ rw (e, n) refl, λ number. on.mark number ∙ rw (← n, ← b) refl)
  goes-end false false on n e b = (on.reads ∙ rw (e, n) refl, λ number. on.mark number ∙ rw (e, ← n, ← b) refl)

module _ (dialect : Dialect) (start : State) (text : List ℕ) (state : State) (fields : List (List ℕ)) (field : List ℕ) where
  -- the text ends
  pub ends-none : (loose : Bool) → GoesOn dialect start text state fields field [] loose → ends_at_end state ≡ false → next_record (config_of dialect) start [] [] text ≡ None
  unfolding next_record
  ends-none loose on e = on.reads ∙ rw e refl

  pub ends-last : (loose open' : Bool) → GoesOn dialect start text state fields field [] loose → ends_at_end state ≡ true → open' ≡ is_open state
      → (next_record (config_of dialect) start [] [] text ≡ Some (fields ++ field ∷ [], st.StartRecord, []))
      × IsLoose dialect start text (loose || open') st.StartRecord []
  unfolding next_record loose_from
  ends-last true open' on e o = (on.reads ∙ rw e refl, on.mark)
  ends-last false true on e o = (on.reads ∙ rw e refl, λ number. on.mark number ∙ rw (← o) refl)
  ends-last false false on e o = (on.reads ∙ rw e refl, λ number. on.mark number ∙ rw (← o) refl)

front : (text : List ℕ) (i : ℕ) → i < length text → drop i text ≡ get_or text i 0 ∷ drop (i + 1) text
front text i lt = rw (add-one, drop-cons text i 0) refl

-- the same at the byte of an index
module _ (dialect : Dialect) (start : State) (text : List ℕ) (state next : State) (fields fields' : List (List ℕ)) (field field' : List ℕ) (i : ℕ) (act : Action) (loose bare loose' : Bool)
    (lt : i < length text) (on : GoesOn dialect start text state fields field (drop i text) loose)
    (n : next ≡ (step (config_of dialect) state (get_or text i 0)).0) (a : act ≡ (step (config_of dialect) state (get_or text i 0)).1)
    (b : bare ≡ goes_on_bare state next) (l : loose' ≡ loose || bare)
    (f : fields' ≡ fields_after act fields field) where
  here : GoesOn dialect start text state fields field (get_or text i 0 ∷ drop (i + 1) text) loose
  here = subst (λ rest. GoesOn dialect start text state fields field rest loose) (front text i lt) on

  pub byte-next : field' ≡ field_after act (get_or text i 0) field → is_end act ≡ false → GoesOn dialect start text next fields' field' (drop (i + 1) text) loose'
  byte-next g e = rw (l, f, g, a) (goes-next dialect start text state next fields field (drop (i + 1) text) (get_or text i 0) loose bare here n (sym (ap is_end a) ∙ e) b)

  pub byte-end : is_end act ≡ true → (next_record (config_of dialect) start [] [] text ≡ Some (fields', next, drop (i + 1) text)) × IsLoose dialect start text loose' next (drop (i + 1) text)
  byte-end e = rw (l, f, a) (goes-end dialect start text state next fields field (drop (i + 1) text) (get_or text i 0) loose bare here n (sym (ap is_end a) ∙ e) b)
